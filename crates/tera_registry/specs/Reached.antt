-- Which templates includes lead to, by position. No public contract speaks of it.
use Rattle.std.specs.Prelude.{◌≡◌, ◌+◌, ℕ, Bool, true, false, not, ◌||◌, List, ◌++◌, length, count_by, slice_get, slice_index_or, Some}
use Rattle.std.specs.List.{list_any}
use Rattle.tera_meaning.specs.Registry.{Entry, Registry}
use Rattle.tera_meaning.specs.Accepted.{includes_of, leads_into_a_circle}
use Rattle.tera_registry.specs.Edges.{all_at, AreThere}

abbrev pub is_marked : List Bool → ℕ → Bool
is_marked marks i = slice_index_or marks i false

-- These positions were reached, each once, and a mark stands at each. What holds of one that is
-- marked holds of one of them.
pub record AreReached (es : List Entry) (positions : List ℕ) (marks : List Bool) : Type 0 where
  pub as_many : length marks ≡ length es
  pub there : AreThere positions (length es)
  pub counted : count_by not marks + length positions ≡ length es
  pub marked : (i : ℕ) (x : Entry) (f : Entry → Bool) → is_marked marks i ≡ true
      → slice_get es i ≡ Some x → f x ≡ true
      → list_any f (all_at es positions) ≡ true

-- these are reached besides those that were
pub record Reaches (es more : List Entry) (old positions : List ℕ)
    (marks : List Bool) : Type 0 where
  pub reached : AreReached es positions marks
  pub behind : List ℕ
  pub longer : positions ≡ old ++ behind
  pub those : (f : Entry → Bool)
      → list_any f (all_at es positions) ≡ (list_any f (all_at es old) || list_any f more)

-- From some positions all are reached to which includes lead, and no others: what each template has
-- that includes one which has it, one of the first has if one of all does.
pub record IsClosure (r : Registry) (from positions : List ℕ) : Type 0 where
  pub there : AreThere positions (length r.templates)
  pub begun : (f : Entry → Bool)
      → list_any f (all_at r.templates from) ≡ true
      → list_any f (all_at r.templates positions) ≡ true
  pub closed : (f : Entry → Bool)
      → list_any (λ t. list_any f (includes_of r t)) (all_at r.templates positions) ≡ true
      → list_any f (all_at r.templates positions) ≡ true
  pub no_more : (f : Entry → Bool)
      → ((i : ℕ) (t : Entry) → slice_get r.templates i ≡ Some t
      → list_any f (includes_of r t) ≡ true → f t ≡ true)
      → list_any f (all_at r.templates positions) ≡ true
      → list_any f (all_at r.templates from) ≡ true

-- no template leads into a circle
pub record Uncircled (r : Registry) : Type 0 where
  pub each : (i : ℕ) (t : Entry) → slice_get r.templates i ≡ Some t
      → leads_into_a_circle r t ≡ false
