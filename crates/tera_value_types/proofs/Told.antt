-- What an answer told.
use Rattle.std.proofs.Common.{◌≡◌, Result, Ok}

pub ok_same : {A E : Type 0} (a b : A) → ◌≡◌ {A = Result A E} (Ok a) (Ok b) → a ≡ b
ok_same a b h = cc
