-- What templates include, by position. No public contract speaks of it.
use Rattle.std.specs.Prelude.{◌≡◌, ◌<◌, ℕ, List, length, filter_map, slice_get, slice_index_or, Option, Some}
use Rattle.tera_meaning.specs.Registry.{Registry, Entry}
use Rattle.tera_meaning.specs.Accepted.{includes_of, leads_into_a_circle}
use Rattle.tera_registry.specs.First.{IsFirstOne}
use Rattle.tera_registry.specs.Walks.{targets, target}

-- those that stand at these positions
abbrev pub all_at : {X : Type 0} → List X → List ℕ → List X
all_at xs = filter_map (slice_get xs)

-- there are so many positions, and these are among them
abbrev pub AreThere : List ℕ → ℕ → Type 0
AreThere positions many = (k : ℕ) → k < length positions → slice_index_or positions k 0 < many

-- an edge leads from each of the first so many templates to each that it includes
pub record AreEdges (r : Registry) (edges : List (List ℕ)) (many : ℕ) : Type 0 where
  pub as_many : length edges ≡ many
  pub inside : (i k : ℕ) → k < length (targets edges i) → target edges i k < length r.templates
  pub those : (i : ℕ) (t : Entry) → i < many → slice_get r.templates i ≡ Some t
      → all_at r.templates (targets edges i) ≡ includes_of r t

-- there stands the first template that leads into a circle, or nowhere where none does
abbrev pub IsFirstCircle : Registry → Option ℕ → Type 0
IsFirstCircle r = IsFirstOne r (λ position t. leads_into_a_circle r t)
