-- How long walks can be.
use Rattle.std.proofs.Common.{◌≡◌, ℕ, zero, suc, ◌+◌, ◌-◌, ◌<◌, ◌≤◌, Bool, true, false, List, [], ◌∷◌, length, get_or, set, refl, inl, inr, arith}
use Rattle.std.specs.List.{list_any}
use Rattle.std.proofs.lemmas.List.Folds.{list_any_at}
use Rattle.std.proofs.lemmas.Bool.{cases_Bool, cases_lt}
use Rattle.tera_registry.specs.Walks.{targets, has_walk, target}

-- a test that fails at each position
pub list_any-none_at : {X : Type 0} (p : X → Bool) (xs : List X) (d : X) → ((k : ℕ) → k < length xs → p (get_or xs k d) ≡ false) → list_any p xs ≡ false
list_any-none_at p [] d h = refl
list_any-none_at p (x ∷ xs) d h =
    let first : p x ≡ false = h 0 (omega arith) in
    let rest : list_any p xs ≡ false = list_any-none_at p xs d (λ k lt. h (suc k) (omega arith)) in
    rw first rest

pub list_any-weaker : {X : Type 0} (p q : X → Bool) (xs : List X) → ((x : X) → p x ≡ true → q x ≡ true) → list_any p xs ≡ true → list_any q xs ≡ true
list_any-weaker p q [] h any = any
list_any-weaker p q (x ∷ xs) h any =
    elim (cases_Bool (p x)) [
      | inl here ↦ (let e : q x ≡ true = h x here in rw e refl)
      | inr not_here ↦
          (let rest : list_any q xs ≡ true = list_any-weaker p q xs h (rw not_here at any) in
          elim (cases_Bool (q x)) [ inl e ↦ rw e refl | inr e ↦ rw e rest ])
    ]

-- an edge to where a walk begins makes it longer
pub has_walk-on : (edges : List (List ℕ)) (n i k : ℕ) → k < length (targets edges i) → has_walk edges n (target edges i k) ≡ true → has_walk edges (suc n) i ≡ true
unfolding has_walk
has_walk-on edges n i k lt walk = list_any_at (has_walk edges n) (targets edges i) k 0 lt walk

pub has_walk-stuck : (edges : List (List ℕ)) (n i : ℕ) → ((k : ℕ) → k < length (targets edges i) → has_walk edges n (target edges i k) ≡ false) → has_walk edges (suc n) i ≡ false
unfolding has_walk
has_walk-stuck edges n i stuck = list_any-none_at (has_walk edges n) (targets edges i) 0 stuck

-- without its last edge a walk is one
pub has_walk-fewer : (edges : List (List ℕ)) (n i : ℕ) → has_walk edges (suc n) i ≡ true → has_walk edges n i ≡ true
unfolding has_walk
has_walk-fewer edges zero i walk = refl
has_walk-fewer edges (suc n) i walk =
    list_any-weaker (has_walk edges (suc n)) (has_walk edges n) (targets edges i) (λ j. has_walk-fewer edges n j) walk

has_walk-one_more : (edges : List (List ℕ)) (n i : ℕ) → has_walk edges n i ≡ false → has_walk edges (suc n) i ≡ false
has_walk-one_more edges n i ends =
    elim (cases_Bool (has_walk edges (suc n) i)) [
      | inl walk ↦ (let w = has_walk-fewer edges n i walk in cc)
      | inr e ↦ e
    ]

-- if none has n edges, none has more
pub has_walk-more : (edges : List (List ℕ)) (n m i : ℕ) → has_walk edges n i ≡ false → n ≤ m → has_walk edges m i ≡ false
has_walk-more edges n zero i ends le = (let e : n ≡ 0 = omega arith in rw e at ends)
has_walk-more edges n (suc m) i ends le =
    elim (cases_lt m n) [
      | inl lt ↦ (let e : n ≡ suc m = omega arith in rw e at ends)
      | inr before ↦ has_walk-one_more edges m i (has_walk-more edges n m i ends before)
    ]

-- the edges that are not passed
abbrev pub edges_left : List (List ℕ) → List ℕ → ℕ
edges_left [] ps = 0
edges_left (e ∷ es) [] = 0
edges_left (e ∷ es) (p ∷ ps) = (length e - p) + edges_left es ps

pub edges_left-passed : (es : List (List ℕ)) (ps : List ℕ) (i : ℕ) → i < length es → i < length ps → get_or ps i 0 < length (get_or es i []) → edges_left es (set ps i (get_or ps i 0 + 1)) < edges_left es ps
edges_left-passed [] ps i a b c = absurd (omega arith)
edges_left-passed (e ∷ es) [] i a b c = absurd (omega arith)
edges_left-passed (e ∷ es) (p ∷ ps) zero a b c = omega arith
edges_left-passed (e ∷ es) (p ∷ ps) (suc i) a b c =
    let more = edges_left-passed es ps i (omega arith) (omega arith) c in omega arith
