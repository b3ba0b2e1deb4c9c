-- Walks from number to number, and what a search knows of them. No public contract speaks of it.
use Rattle.std.specs.Prelude.{◌≡◌, ◌<◌, ◌≤◌, ℕ, zero, suc, Bool, true, false, List, [], length, map, slice_index_or, count_by, Option, Some, None}
use Rattle.std.specs.List.{list_any}
use Rattle.std.specs.declared.alloc.Global.{Global}
use Rattle.std.specs.declared.vec.Vec.{Vec}

-- the edges of each number, as they are kept
abbrev pub rows : List (Vec ℕ Global) → List (List ℕ)
rows = map (λ v. v.items)

-- where the edges of a number lead
abbrev pub targets : List (List ℕ) → ℕ → List ℕ
targets edges i = slice_index_or edges i []

-- where the edge k of a number leads
abbrev pub target : List (List ℕ) → ℕ → ℕ → ℕ
target edges i k = slice_index_or (targets edges i) k 0

-- whether so many edges can be followed from a number, each from where the one before leads
unfoldable pub has_walk : List (List ℕ) → ℕ → ℕ → Bool
has_walk edges zero i = true
has_walk edges (suc n) i = list_any (has_walk edges n) (targets edges i)

-- each edge leads to a number that has a row
pub record Closed (edges : List (List ℕ)) : Type 0 where
  pub inside : (i k : ℕ) → k < length (targets edges i) → target edges i k < length edges

abbrev pub is_ended : List Bool → ℕ → Bool
is_ended ends i = slice_index_or ends i false

-- What a search knows: of some numbers that their walks end, and of each number how many of its
-- first edges lead to such. The walks of those have fewer edges than there are of them.
pub record Explored (edges : List (List ℕ)) (passed : List ℕ) (ends : List Bool) : Type 0 where
  pub all_passed : length passed ≡ length edges
  pub all_ends : length ends ≡ length edges
  pub inside : (i k : ℕ) → k < length (targets edges i) → target edges i k < length edges
  pub within : (i : ℕ) → slice_index_or passed i 0 ≤ length (targets edges i)
  pub passed_end : (i k : ℕ) → k < slice_index_or passed i 0
      → is_ended ends (target edges i k) ≡ true
  pub no_walk : (i : ℕ) → is_ended ends i ≡ true → has_walk edges (count_by (λ b. b) ends) i ≡ false

-- whether a walk of a number has as many edges as there are numbers,
-- so that it comes to one a second time
abbrev pub circles : List (List ℕ) → ℕ → Bool
circles edges i = has_walk edges (length edges) i

-- the least number that has such a walk, or none where no number has one
abbrev pub IsLeastCircle : List (List ℕ) → Option ℕ → Type 0
IsLeastCircle edges None = (i : ℕ) → i < length edges → circles edges i ≡ false
IsLeastCircle edges (Some c) =
    (c < length edges) × (circles edges c ≡ true)
    × ((i : ℕ) → i < c → circles edges i ≡ false)
