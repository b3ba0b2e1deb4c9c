-- Words in a text.
use Rattle.std.specs.Prelude.{ℕ, suc, [], ◌∷◌, Bool, false, ◌==◌, if◌then◌else◌}
use Rattle.std.specs.List.{starts_with}
use Rattle.tera_errors.specs.Site.{Text}

-- the text begins with the word
abbrev pub begins : Text → Text → Bool
begins word text = starts_with (λ a b. a == b) text word

-- the first position from which on the text passes the test, or its end
unfoldable pub position : (Text → Bool) → Text → ℕ
position test [] = 0
position test (b ∷ bs) = if test (b ∷ bs) then 0 else suc (position test bs)

-- how many bytes at the front of the text pass the test
unfoldable pub leading : (ℕ → Bool) → Text → ℕ
leading test [] = 0
leading test (b ∷ bs) = if test b then suc (leading test bs) else 0

-- the first byte of the text passes the test
abbrev pub heads : (ℕ → Bool) → Text → Bool
heads test [] = false
heads test (b ∷ bs) = test b
