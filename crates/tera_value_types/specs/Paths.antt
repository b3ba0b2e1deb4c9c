-- Paths: pieces between full stops, each a text key of a map or the digits of a position in an
-- array.
use Rattle.std.specs.Prelude.{ℕ, ◌+◌, ◌-◌, ◌*◌, ◌&&◌, Bool, true, cond, nat_lt, nat_le, eqb, List, [], ◌∷◌, length, slice_get, Option, Some, None}
use Rattle.std.specs.List.{slice_split}
use Rattle.std.specs.Str.{byte}
use Rattle.tera_value_types.specs.Val.{Val, ktext, array, map, list_of}
use Rattle.tera_value_types.specs.Access.{find, pairs}

abbrev pub is_digit : ℕ → Bool
is_digit b = nat_le (byte "0") b && nat_le b (byte "9")

abbrev pub all_digits : List ℕ → Bool
all_digits [] = true
all_digits (b ∷ bs) = is_digit b && all_digits bs

-- the number whose digits are n's and then these
abbrev pub number : ℕ → List ℕ → ℕ
number n [] = n
number n (b ∷ bs) = number (n * 10 + (b - byte "0")) bs

-- the position that one digit or more name among n items
abbrev pub position_named : List ℕ → ℕ → Option ℕ
position_named [] n = None
position_named (b ∷ bs) n =
    cond (all_digits (b ∷ bs))
    (cond (nat_lt (number 0 (b ∷ bs)) n) (Some (number 0 (b ∷ bs))) None) None

abbrev pub item_named : Option ℕ → List Val → Option Val
item_named None vs = None
item_named (Some i) vs = slice_get vs i

abbrev pub step_to : List ℕ → Val → Option Val
step_to p (map es) = find (ktext p) (pairs es)
step_to p (array vs) = item_named (position_named p (length (list_of vs))) (list_of vs)
step_to p v = None

abbrev pub then_step : List ℕ → Option Val → Option Val
then_step p None = None
then_step p (Some v) = step_to p v

-- one piece after another
abbrev pub walk : List (List ℕ) → Option Val → Option Val
walk [] v = v
walk (p ∷ ps) v = walk ps (then_step p v)

abbrev pub from_path : List ℕ → Val → Option Val
from_path p v = walk (slice_split (λ b. eqb b (byte ".")) p) (Some v)
