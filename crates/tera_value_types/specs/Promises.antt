-- What holds of the definitions.
use Rattle.std.specs.Prelude.{◌≡◌, ◌≢◌, ◌↔◌, ℕ, Bool, true, List, Some}
use Rattle.std.specs.Cmp.{IsTotalOrder}
use Rattle.tera_value_types.specs.Val.{Val, KeyVal, text, map, entries}
use Rattle.tera_value_types.specs.Access.{find, insert_pair, key_eq}
use Rattle.tera_value_types.specs.Order.{plain, order, same, comparable}
use Rattle.tera_value_types.specs.Finite.{FindsSame}
use Rattle.tera_value_types.specs.Printed.{printed}

-- any two values stand to each other in one way
abbrev pub OrderIsTotal : Type 0
OrderIsTotal = IsTotalOrder order

-- equal are values of one kind and content, whatever their marks and the order of their entries
abbrev pub EqualityIsByContent : Type 0
EqualityIsByContent = (v w : Val) → (same v w ≡ true) ↔ (plain v ≡ plain w)

-- maps are equal where each key finds equal values
abbrev pub MapsAreFinite : Type 0
MapsAreFinite =
    (es fs : List (KeyVal × Val))
    → (same (map (entries es)) (map (entries fs)) ≡ true) ↔ FindsSame es fs

abbrev pub ComparableIsSymmetric : Type 0
ComparableIsSymmetric = (v w : Val) → comparable v w ≡ comparable w v

-- a text is printed as it is
abbrev pub TextsPrintThemselves : Type 0
TextsPrintThemselves = (t : List ℕ) (safe : Bool) → printed (text t safe) ≡ t

-- a key finds what was put at it last
abbrev pub InsertedIsFound : Type 0
InsertedIsFound =
    (es : List (KeyVal × Val)) (k : KeyVal) (v : Val) → find k (insert_pair es k v) ≡ Some v

-- and every other key what it found before
abbrev pub OthersAreKept : Type 0
OthersAreKept =
    (es : List (KeyVal × Val)) (k j : KeyVal) (v : Val) → key_eq j k ≢ true
    → find j (insert_pair es k v) ≡ find j es
