-- What stays true of a search for circles when it ends a number, passes an edge, goes back and goes on.
use Rattle.std.proofs.Common.{◌≡◌, ◌≢◌, ℕ, zero, suc, ◌+◌, ◌<◌, ◌≤◌, Bool, true, false, not, cond, List, [], ◌∷◌, ◌++◌, length, get_or, set, count_by, refl, sym, ◌∙◌, inl, inr, arith, get_or-set_same, get_or-set_other}
use Rattle.std.proofs.lemmas.Bool.{cases_lt, cases_eq}
use Rattle.std.proofs.lemmas.List.{length-set}
use Rattle.std.proofs.lemmas.List.Sums.{sum_by-set}
use Rattle.tera_registry.specs.Walks.{targets, has_walk, is_ended, target, Explored}
use Rattle.tera_registry.proofs.Element.{front-at, last-at}
use Rattle.tera_registry.proofs.Rows.{length-push}
use Rattle.tera_registry.proofs.HasWalk.{has_walk-on, has_walk-stuck, has_walk-more}

-- What is walked just now, from a number on: an edge leads from each to the next, and of none is it known that its walks end.
pub record Way (edges : List (List ℕ)) (ends : List Bool) (from : ℕ) (way : List ℕ) : Type 0 where
  pub there : (k : ℕ) → k < length way → get_or way k 0 < length edges
  pub unknown : (k : ℕ) → k < length way → is_ended ends (get_or way k 0) ≡ false
  pub step : (k : ℕ) → suc k < length way → (j : ℕ) × (j < length (targets edges (get_or way k 0))) × (target edges (get_or way k 0) j ≡ get_or way (suc k) 0)
  pub short : length way ≤ length edges + 1
  pub start : 0 < length way → get_or way 0 0 ≡ from

pub count-mark : (ends : List Bool) (i : ℕ) → i < length ends → is_ended ends i ≡ false → count_by (λ b. b) (set ends i true) ≡ suc (count_by (λ b. b) ends)
count-mark ends i lt e =
    let s : count_by (λ b. b) (set ends i true) + cond {A = ℕ} (get_or ends i false) 1 0 ≡ count_by (λ b. b) ends + 1 = sum_by-set (λ b. cond b 1 0) ends i true false lt in
    let z : cond {A = ℕ} (get_or ends i false) 1 0 ≡ 0 = rw e refl in
    omega arith

pub count-mark-not : (ends : List Bool) (i : ℕ) → i < length ends → is_ended ends i ≡ false → suc (count_by not (set ends i true)) ≡ count_by not ends
count-mark-not ends i lt e =
    let s : count_by not (set ends i true) + cond {A = ℕ} (not (get_or ends i false)) 1 0 ≡ count_by not ends + 0 = sum_by-set (λ b. cond (not b) 1 0) ends i true false lt in
    let z : cond {A = ℕ} (not (get_or ends i false)) 1 0 ≡ 1 = rw e refl in
    omega arith

is_ended-mark : (ends : List Bool) (i j : ℕ) → i < length ends → is_ended ends j ≡ true → is_ended (set ends i true) j ≡ true
is_ended-mark ends i j lt e =
    elim (cases_eq j i) [
      | inl same ↦ (let s : get_or (set ends i true) i false ≡ true = get_or-set_same ends i true false lt in rw same s)
      | inr other ↦ (let o : get_or (set ends i true) j false ≡ get_or ends j false = get_or-set_other ends i j true false other in o ∙ e)
    ]

-- a number is ended where all its edges are passed
pub mark_ended : {edges : List (List ℕ)} {passed : List ℕ} {ends : List Bool} → Explored edges passed ends → (here : ℕ) → here < length edges → get_or passed here 0 ≡ length (targets edges here) → is_ended ends here ≡ false → Explored edges passed (set ends here true)
mark_ended {edges} {passed} {ends} s here lt all unknown =
    let there : here < length ends = omega (arith, s.all_ends) in
    let counted = count-mark ends here there unknown in
    record {
      all_passed = s.all_passed;
      all_ends = length-set ends here true ∙ s.all_ends;
      inside = s.inside;
      within = s.within;
      passed_end = λ i k k_lt. is_ended-mark ends here _ there (s.passed_end i k k_lt);
      no_walk = λ i known.
          rw counted (elim (cases_eq i here) [
            | inl same ↦
                (rw same (has_walk-stuck edges _ here (λ k k_lt. s.no_walk _ (s.passed_end here k (omega (arith, all, k_lt))))))
            | inr other ↦
                (let o : get_or (set ends here true) i false ≡ get_or ends i false = get_or-set_other ends here i true false other in
                has_walk-more edges _ _ i (s.no_walk i (sym o ∙ known)) (omega arith))
          ]);
    }

-- an edge is passed where it leads to one that is ended
pub pass_edge : {edges : List (List ℕ)} {passed : List ℕ} {ends : List Bool} → Explored edges passed ends → (here : ℕ) → here < length edges → get_or passed here 0 < length (targets edges here) → is_ended ends (target edges here (get_or passed here 0)) ≡ true → Explored edges (set passed here (get_or passed here 0 + 1)) ends
pass_edge {edges} {passed} {ends} s here lt more known =
    let there : here < length passed = omega (arith, s.all_passed) in
    let new = get_or passed here 0 + 1 in
    record {
      all_passed = length-set passed here new ∙ s.all_passed;
      all_ends = s.all_ends;
      inside = s.inside;
      within = λ i.
          elim (cases_eq i here) [
            | inl same ↦ (let e : get_or (set passed here new) here 0 ≡ new = get_or-set_same passed here new 0 there in rw same (rw e (omega arith)))
            | inr other ↦ (let e : get_or (set passed here new) i 0 ≡ get_or passed i 0 = get_or-set_other passed here i new 0 other in rw e (s.within i))
          ];
      passed_end = λ i k k_lt.
          elim (cases_eq i here) [
            | inl same ↦
                (let e : get_or (set passed here new) here 0 ≡ new = get_or-set_same passed here new 0 there in
                let k_new : k < new = rw (same, e) at k_lt in
                rw same (elim (cases_lt k (get_or passed here 0)) [
                  | inl before ↦ s.passed_end here k before
                  | inr last ↦ (let q : k ≡ get_or passed here 0 = omega arith in rw q known)
                ]))
            | inr other ↦
                (let e : get_or (set passed here new) i 0 ≡ get_or passed i 0 = get_or-set_other passed here i new 0 other in
                s.passed_end i k (rw e at k_lt))
          ];
      no_walk = s.no_walk;
    }

-- the last of the way is ended, and leaves it
pub back : {edges : List (List ℕ)} {passed : List ℕ} {ends : List Bool} {from : ℕ} → Explored edges passed ends → (front : List ℕ) (here : ℕ) → Way edges ends from (front ++ here ∷ []) → get_or passed here 0 ≡ length (targets edges here) → Way edges (set ends here true) from front
back {edges} {passed} {ends} {from} s front here g all =
    let long = length-push front here in
    let at_last = last-at front here 0 in
    let in_front = front-at front here 0 in
    let here_lt : here < length edges = rw at_last at (g.there (length front) (omega arith)) in
    let there : here < length ends = omega (arith, s.all_ends) in
    let not_here : (k : ℕ) → k < length front → get_or front k 0 ≢ here = λ k lt same.
    (let e : get_or (front ++ here ∷ []) k 0 ≡ here = in_front k lt ∙ same in
    let t = g.step k (omega arith) in
    let j_lt : t.0 < length (targets edges here) = rw e at t.1 in
    let there_is : target edges here t.0 ≡ get_or (front ++ here ∷ []) (suc k) 0 = rw e at t.2 in
    let known : is_ended ends (target edges here t.0) ≡ true = s.passed_end here t.0 (omega (arith, all, j_lt)) in
    let unknown : is_ended ends (get_or (front ++ here ∷ []) (suc k) 0) ≡ false = g.unknown (suc k) (omega arith) in
    let known' : is_ended ends (get_or (front ++ here ∷ []) (suc k) 0) ≡ true = rw there_is at known in
    cc) in
    record {
      there = λ k lt. rw (in_front k lt) at (g.there k (omega arith));
      unknown = λ k lt.
          (let o : get_or (set ends here true) (get_or front k 0) false ≡ get_or ends (get_or front k 0) false = get_or-set_other ends here (get_or front k 0) true false (not_here k lt) in
          let u : is_ended ends (get_or front k 0) ≡ false = rw (in_front k lt) at (g.unknown k (omega arith)) in
          o ∙ u);
      step = λ k lt. rw (in_front k (omega arith), in_front (suc k) lt) at (g.step k (omega arith));
      short = omega (arith, g.short);
      start = λ lt. sym (in_front 0 lt) ∙ g.start (omega arith);
    }

-- an edge of the last is followed
pub on : {edges : List (List ℕ)} {ends : List Bool} {from : ℕ} (way : List ℕ) → Way edges ends from way → (last k : ℕ) → length way ≡ suc last → k < length (targets edges (get_or way last 0)) → target edges (get_or way last 0) k < length edges → is_ended ends (target edges (get_or way last 0) k) ≡ false → length way ≤ length edges → Way edges ends from (way ++ target edges (get_or way last 0) k ∷ [])
on {edges} {ends} {from} way g last k long k_lt inside unknown short =
    let next = target edges (get_or way last 0) k in
    let longer = length-push way next in
    let at_last = last-at way next 0 in
    let in_front = front-at way next 0 in
    record {
      there = λ i lt. elim (cases_lt i (length way)) [
        | inl before ↦ rw (in_front i before) (g.there i before)
        | inr after ↦ (let e : i ≡ length way = omega arith in rw (e, at_last) inside)
      ];
      unknown = λ i lt. elim (cases_lt i (length way)) [
        | inl before ↦ rw (in_front i before) (g.unknown i before)
        | inr after ↦ (let e : i ≡ length way = omega arith in rw (e, at_last) unknown)
      ];
      step = λ i lt. elim (cases_lt (suc i) (length way)) [
        | inl before ↦ rw (in_front i (omega arith), in_front (suc i) before) (g.step i before)
        | inr after ↦
            (let e : i ≡ last = omega arith in
            let e' : suc last ≡ length way = omega arith in
            rw (e, in_front last (omega arith), e', at_last) (k, k_lt, refl))
      ];
      short = omega (arith, longer);
      start = λ lt. in_front 0 (omega arith) ∙ g.start (omega arith);
    }

-- the rest of the way is a walk
walk_along : {edges : List (List ℕ)} {ends : List Bool} {from : ℕ} {way : List ℕ} → Way edges ends from way → (n k : ℕ) → k + n < length way → has_walk edges n (get_or way k 0) ≡ true
unfolding has_walk
walk_along g zero k lt = refl
walk_along {edges} {ends} {from} {way} g (suc n) k lt =
    let t = g.step k (omega arith) in
    has_walk-on edges n (get_or way k 0) t.0 t.1 (rw t.2 (walk_along g n (suc k) (omega arith)))

-- a way of more numbers than there are is a walk of as many edges
pub found : {edges : List (List ℕ)} {ends : List Bool} {from : ℕ} {way : List ℕ} → Way edges ends from way → length edges < length way → has_walk edges (length edges) from ≡ true
found {edges} g long = rw (← g.start (omega arith)) (walk_along g (length edges) 0 (omega arith))

-- no walk is so long of a number that is ended
pub none : {edges : List (List ℕ)} {passed : List ℕ} {ends : List Bool} (from : ℕ) → Explored edges passed ends → is_ended ends from ≡ true → (count_by (λ b. b) ends ≤ length ends) → has_walk edges (length edges) from ≡ false
none {edges} from s known count = has_walk-more edges _ _ _ (s.no_walk _ known) (omega (arith, s.all_ends, count))
