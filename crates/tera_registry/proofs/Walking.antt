-- A step of the search for circles, in the terms of the code: edges as they are kept, and what a look at a row answers.
use Rattle.std.proofs.Common.{◌≡◌, ℕ, zero, suc, ◌+◌, ◌-◌, ◌*◌, ◌<◌, ◌≤◌, Bool, true, false, not, List, [], ◌∷◌, ◌++◌, length, get_or, set, get_or-set_same, count_by, Vec, Global, refl, sym, ap, ◌∙◌, arith}
use Rattle.std.proofs.lemmas.List.{get_or_read}
use Rattle.tera_registry.proofs.Element.{last-at}
use Rattle.tera_registry.proofs.Rows.{length-push}
use Rattle.tera_registry.proofs.HasWalk.{edges_left, edges_left-passed}
use Rattle.tera_registry.specs.Walks.{rows, targets, is_ended, target, Explored}
use Rattle.tera_registry.proofs.Ways.{Way, count-mark-not, on}

pub length-rows : (kept : List (Vec ℕ Global)) → length (rows kept) ≡ length kept
length-rows [] = refl
length-rows (i ∷ kept) = ap suc (length-rows kept)

pub targets-rows : (kept : List (Vec ℕ Global)) (i : ℕ) (r : Vec ℕ Global) → i < length kept → r ≡ get_or kept i r → targets (rows kept) i ≡ r.items
targets-rows [] i r lt e = absurd (omega arith)
targets-rows (v ∷ kept) zero r lt e = ap (λ x. x.items) (sym e)
targets-rows (v ∷ kept) (suc i) r lt e = targets-rows kept i r (omega arith) e

pub here-there : (kept : List (Vec ℕ Global)) (ends : List Bool) (from : ℕ) (way : List ℕ) (here : ℕ) → Way (rows kept) ends from (way ++ here ∷ []) → here < length kept
here-there kept ends from way here g =
    let long = length-push way here in
    let lt : here < length (rows kept) = rw (last-at way here 0) at (g.there (length way) (omega arith)) in
    omega (arith, length-rows kept)

pub here-unknown : (edges : List (List ℕ)) (ends : List Bool) (from : ℕ) (way : List ℕ) (here : ℕ) → Way edges ends from (way ++ here ∷ []) → is_ended ends here ≡ false
here-unknown edges ends from way here g =
    let long = length-push way here in
    rw (last-at way here 0) at (g.unknown (length way) (omega arith))

-- where there is no edge at the position of the next one, all are passed
pub all-passed : (kept : List (Vec ℕ Global)) (passed : List ℕ) (ends : List Bool) (here : ℕ) (r : Vec ℕ Global) (d : List ℕ) → Explored (rows kept) passed ends → here < length kept → r ≡ get_or kept here r → d ≡ r.items → length d ≤ get_or passed here 0 → get_or passed here 0 ≡ length (targets (rows kept) here)
all-passed kept passed ends here r d s lt row is over =
    omega (arith, s.within here, ap length (targets-rows kept here r lt row), ap length is)

-- the edge k of here leads to next
pub record Next (edges : List (List ℕ)) (here k next : ℕ) : Type 0 where
  pub is_edge : k < length (targets edges here)
  pub leads : target edges here k ≡ next
  pub there : next < length edges

pub next-edge : (kept : List (Vec ℕ Global)) (passed : List ℕ) (ends : List Bool) (here : ℕ) (r : Vec ℕ Global) (d : List ℕ) (next : ℕ) → Explored (rows kept) passed ends → here < length kept → r ≡ get_or kept here r → d ≡ r.items → get_or passed here 0 < length d → next ≡ get_or d (get_or passed here 0) next → Next (rows kept) here (get_or passed here 0) next
next-edge kept passed ends here r d next s lt row is left at_it =
    let same : targets (rows kept) here ≡ d = targets-rows kept here r lt row ∙ sym is in
    let is_edge : get_or passed here 0 < length (targets (rows kept) here) = omega (arith, ap length same) in
    let leads : target (rows kept) here (get_or passed here 0) ≡ next =
    ap (λ l. get_or l (get_or passed here 0) 0) same ∙ sym (get_or_read d _ next left at_it 0) in
    record { is_edge = is_edge; leads = leads; there = rw leads at (s.inside here (get_or passed here 0) is_edge) }

pub mark-smaller : (edges : List (List ℕ)) (passed : List ℕ) (ends : List Bool) (here most : ℕ) (way front : List ℕ) (before : ℕ) → here < length ends → is_ended ends here ≡ false → way ≡ front ++ before ∷ [] → 2 * count_by not (set ends here true) + edges_left edges passed + (most + 1 - length front) < 2 * count_by not ends + edges_left edges passed + (most + 1 - length way)
mark-smaller edges passed ends here most way front before there unknown is =
    let e = count-mark-not ends here there unknown in
    omega (arith, ap length is, length-push front before)

pub pass-smaller : (kept : List (Vec ℕ Global)) (passed : List ℕ) (ends : List Bool) (here next m n : ℕ) → here < length kept → here < length passed → Next (rows kept) here (get_or passed here 0) next → m + edges_left (rows kept) (set passed here (get_or passed here 0 + 1)) + n < m + edges_left (rows kept) passed + n
pass-smaller kept passed ends here next m n lt there x =
    let e = edges_left-passed (rows kept) passed here (omega (arith, length-rows kept)) there x.is_edge in
    omega arith

-- a way begins with one number
pub begins : (edges : List (List ℕ)) (ends : List Bool) (from : ℕ) → from < length edges → is_ended ends from ≡ false → Way edges ends from ([] ++ from ∷ [])
begins edges ends from lt unknown = record {
  there = λ k k_lt. (let e : k ≡ 0 = omega arith in rw e lt);
  unknown = λ k k_lt. (let e : k ≡ 0 = omega arith in rw e unknown);
  step = λ k k_lt. absurd (omega arith);
  short = omega arith;
  start = λ _. refl;
}

pub goes-on : (edges : List (List ℕ)) (ends : List Bool) (from : ℕ) (way : List ℕ) (here k next : ℕ) → Way edges ends from (way ++ here ∷ []) → Next edges here k next → is_ended ends next ≡ false → length way < length edges → Way edges ends from ((way ++ here ∷ []) ++ next ∷ [])
goes-on edges ends from way here k next g x unknown short =
    let at_last = last-at way here 0 in
    let is_edge : k < length (targets edges (get_or (way ++ here ∷ []) (length way) 0)) = rw at_last x.is_edge in
    let leads : target edges (get_or (way ++ here ∷ []) (length way) 0) k ≡ next = rw at_last x.leads in
    rw (← leads) (on (way ++ here ∷ []) g (length way) k (omega (arith, length-push way here)) is_edge (rw leads x.there) (rw leads unknown) (omega (arith, length-push way here)))

-- the last that is ended is the first of the way
pub marked-start : (edges : List (List ℕ)) (ends : List Bool) (from : ℕ) (way : List ℕ) (here : ℕ) → Way edges ends from (way ++ here ∷ []) → length way ≡ 0 → here < length ends → is_ended (set ends here true) from ≡ true
marked-start edges ends from [] here g none lt =
    let e : here ≡ from = g.start (omega arith) in rw (← e) (get_or-set_same ends here true false lt)
marked-start edges ends from (x ∷ way) here g none lt = absurd (omega arith)
