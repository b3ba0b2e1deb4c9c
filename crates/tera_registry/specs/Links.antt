-- What templates are linked to, by position. No public contract speaks of it.
use Rattle.std.specs.Prelude.{◌≡◌, ◌<◌, ◌≤◌, ◌+◌, ℕ, List, [], ◌∷◌, length, map, slice_get, Option, Some, None, option_map, Result, Ok, Err}
use Rattle.tera_errors.specs.Site.{Name}
use Rattle.tera_errors.specs.Fault.{Fault, circular_extend}
use Rattle.tera_errors.specs.Answer.{SeenError, Says}
use Rattle.tera_meaning.specs.Registry.{Entry, Registry}
use Rattle.tera_meaning.specs.Resolve.{resolve, parents, root, last_of}
use Rattle.tera_meaning.specs.Accepted.{first_fault}
use Rattle.tera_meaning.specs.Adding.{unless_faulty}
use Rattle.tera_registry.specs.declared.roots.Root.{Root}
use Rattle.tera_registry.specs.declared.roots.Parent.{Parent}
use Rattle.tera_registry.specs.declared.roots.Parent.TheVariants as up
use Rattle.tera_registry.specs.Positions.{IsPosition}

-- a registry in which each template has all its parents, or the first fault of one
abbrev pub climbed : Registry → Result Registry Fault
climbed r = unless_faulty r (first_fault r [] r.templates)

-- the position of the template that one extends
abbrev pub IsUp : Registry → Parent → Option Name → Type 0
IsUp r up.None parent = parent ≡ None
IsUp r up.Missing parent = (n : Name) × (parent ≡ Some n) × (resolve r n ≡ None)
IsUp r (up.At i) parent =
    (n : Name) × (parent ≡ Some n) × IsPosition r.templates (Some i) (resolve r n)

-- these are those of the first so many templates
pub record AreUps (r : Registry) (ups : List Parent) (many : ℕ) : Type 0 where
  pub as_many : length ups ≡ many
  pub those : (i : ℕ) (u : Parent) (t : Entry) → slice_get ups i ≡ Some u
      → slice_get r.templates i ≡ Some t → IsUp r u t.1.tree.parent

-- the name of the template at the position of what one extends, where it extends something
abbrev pub name_at : List Entry → Parent → Option (Option Name)
name_at ts up.None = None
name_at ts up.Missing = Some None
name_at ts (up.At i) = Some (slice_get (map (λ t. t.0) ts) i)

-- the name of the template to which the name resolves that one extends, where it extends something
abbrev pub name_above : Registry → Option Name → Option (Option Name)
name_above r = option_map (λ n. option_map (λ t. t.0) (resolve r n))

-- These are those of all templates, said by names: where a template extends one, that one stands at
-- the position. Names are enough, since no two templates share one.
pub record ArePlaced (r : Registry) (ups : List Parent) : Type 0 where
  pub as_many : length ups ≡ length r.templates
  pub inside : (i j : ℕ) → slice_get ups i ≡ Some (up.At j) → j < length r.templates
  pub those : (i : ℕ) (u : Parent) (t : Entry) → slice_get ups i ≡ Some u
      → slice_get r.templates i ≡ Some t
      → name_at r.templates u ≡ name_above r t.1.tree.parent

-- what they name is there
pub record Inside (ups : List Parent) : Type 0 where
  pub inside : (i j : ℕ) → slice_get ups i ≡ Some (up.At j) → j < length ups

-- These are the parents, nearest first, for what a template extends: each extends the next,
-- and the last nothing.
abbrev pub IsChain : Registry → Option Name → List Entry → Type 0
IsChain r parent [] = parent ≡ None
IsChain r parent (p ∷ ps) =
    (n : Name) × (parent ≡ Some n) × (resolve r n ≡ Some p) × IsChain r p.1.tree.parent ps

-- that is at the top above a template
pub record Stands (r : Registry) (t : Entry) (top : Root) : Type 0 where
  pub above : List Entry
  pub chain : IsChain r t.1.tree.parent above
  pub as_many : length above ≡ top.parents
  pub root_at : slice_get r.templates top.root ≡ Some (last_of t above)

-- what is at the top, or the fault of a template's parents
abbrev pub IsTop : Registry → Entry → Result Root SeenError → Type 0
IsTop r t (Ok top) = (top.parents ≤ length r.templates) × Stands r t top
IsTop r t (Err e) = Says e (parents r t)

-- of some templates it is known what is at the top
pub record AreTops (r : Registry) (tops : List (Option Root)) : Type 0 where
  pub those : (i : ℕ) (top : Root) (t : Entry) → slice_get tops i ≡ Some (Some top)
      → slice_get r.templates i ≡ Some t → Stands r t top

-- a top from so many steps below it, or a fault where that is too far
abbrev pub IsFurther : Root → ℕ → ℕ → Result Root SeenError → Type 0
IsFurther top steps most (Ok far) =
    (far.root ≡ top.root) × (far.parents ≡ steps + top.parents) × (far.parents ≤ most)
IsFurther top steps most (Err e) = (e ≡ Some circular_extend) × (most < steps + top.parents)

-- these are the positions of the roots of the first so many templates
pub record AreRoots (r : Registry) (roots : List ℕ) (many : ℕ) : Type 0 where
  pub as_many : length roots ≡ many
  pub those : (i k : ℕ) (t : Entry) → slice_get roots i ≡ Some k → slice_get r.templates i ≡ Some t
      → slice_get r.templates k ≡ Some (root r t)
