-- Positions in a list of templates stand for the templates there.
use Rattle.std.specs.Prelude.{◌≡◌, ◌<◌, ◌≤◌, ℕ, List, length, slice_get, Option, Some, None, Result, Ok, Err}
use Rattle.std.specs.declared.cmp.Ordering.TheVariants.{Less, Greater}
use Rattle.tera_errors.specs.Site.{Name}
use Rattle.tera_values.specs.Named.{Named, name_cmp}
use Rattle.tera_meaning.specs.Resolve.{entry_at}

-- the position where something stands, or no position where it does not
abbrev pub IsPosition : {X : Type 0} → List X → Option ℕ → Option X → Type 0
IsPosition xs None x = x ≡ None
IsPosition xs (Some i) x = (x ≡ slice_get xs i) × (i < length xs)

-- the names before a position are less than this one
pub record After {A : Type 0} (es : Named A) (n : Name) (i : ℕ) : Type 0 where
  pub less : (k : ℕ) (e : Name × A) → k < i → slice_get es k ≡ Some e → name_cmp e.0 n ≡ Less

-- the names from a position on are greater
pub record Before {A : Type 0} (es : Named A) (n : Name) (i : ℕ) : Type 0 where
  pub greater : (k : ℕ) (e : Name × A) → i ≤ k → slice_get es k ≡ Some e → name_cmp e.0 n ≡ Greater

-- where a name stands, or where it would be put
abbrev pub IsFound : {A : Type 0} → Named A → Name → Result ℕ ℕ → Type 0
IsFound es n (Ok i) = (entry_at n es ≡ slice_get es i) × (i < length es)
IsFound es n (Err i) = (entry_at n es ≡ None) × (i ≤ length es) × After es n i × Before es n i
