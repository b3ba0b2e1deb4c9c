-- Maps as finite maps: the same where each key finds values that are the same.
use Rattle.std.specs.Prelude.{◌≡◌, Bool, true, List, option_map}
use Rattle.tera_value_types.specs.Val.{Val, KeyVal}
use Rattle.tera_value_types.specs.Access.{find}
use Rattle.tera_value_types.specs.Order.{plain}

-- each key finds the same, marks aside
abbrev pub FindsSame : List (KeyVal × Val) → List (KeyVal × Val) → Type 0
FindsSame es fs = (k : KeyVal) → option_map plain (find k es) ≡ option_map plain (find k fs)

-- the answer is true exactly where that holds
abbrev pub IsSameMap : Bool → List (KeyVal × Val) → List (KeyVal × Val) → Type 0
IsSameMap answer es fs = (answer ≡ true → FindsSame es fs) × (FindsSame es fs → answer ≡ true)
