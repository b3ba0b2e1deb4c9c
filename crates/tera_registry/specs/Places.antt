-- Where the first thing of each name stands.
use Rattle.std.specs.Prelude.{◌≡◌, ℕ, suc, List, [], ◌∷◌, bytes_eq, Option, Some, None, if◌then◌else◌, String}
use Rattle.std.specs.BTreeMap.{get_by_text}
use Rattle.std.specs.declared.alloc.Global.{Global}
use Rattle.std.specs.declared.collections.BTreeMap.{BTreeMap}
use Rattle.tera_errors.specs.Site.{Name}

abbrev pub stands : BTreeMap (String Global) ℕ Global → Name → Option ℕ
stands = get_by_text

-- where the first of these names stands that is this one, if the first of all stands there
abbrev pub place_from : Name → ℕ → List Name → Option ℕ
place_from q k [] = None
place_from q k (n ∷ ns) = if bytes_eq q n then Some k else place_from q (suc k) ns

abbrev pub ArePlaces : List Name → BTreeMap (String Global) ℕ Global → Type 0
ArePlaces names places = (q : Name) → stands places q ≡ place_from q 0 names
