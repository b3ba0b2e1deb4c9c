-- Edges between positions are includes between templates, and walks along the ones are walks along the others.
use Rattle.std.proofs.Common.{◌≡◌, ℕ, zero, suc, Bool, ◌||◌, List, [], ◌∷◌, length, Option, Some, None, Vec, String, Global, refl, sym, ap, ◌∙◌, arith, slice_get}
use Rattle.std.specs.List.{list_any, cons_option}
use Rattle.std.proofs.lemmas.Option.{slice_get_within}
use Rattle.tera_meaning.specs.Registry.{Registry, Entry}
use Rattle.tera_meaning.specs.Accepted.{can_walk, leads_into_a_circle}
use Rattle.tera_registry.specs.Walks.{rows, targets, has_walk, circles, Closed, IsLeastCircle}
use Rattle.std.specs.declared.rc.Rc.{Rc}
use Rattle.tera_registry.specs.declared.template.Template.{Template as Stored}
use Rattle.tera_registry.specs.Kept.{entries_of, seen}
use Rattle.tera_registry.proofs.Kept.{length-entries}
use Rattle.tera_registry.specs.Edges.{all_at, AreThere, AreEdges, IsFirstCircle}
use Rattle.tera_registry.proofs.Element.{element}

any-all_at : {X : Type 0} (p : ℕ → Bool) (q : X → Bool) (xs : List X) (ks : List ℕ) → ((k : ℕ) (x : X) → slice_get xs k ≡ Some x → p k ≡ q x) → AreThere ks (length xs) → list_any p ks ≡ list_any q (all_at xs ks)
any-all_at p q xs [] same inside = refl
any-all_at p q xs (k ∷ ks) same inside =
    let e = element xs k (inside 0 (omega arith)) in
    let rest = any-all_at p q xs ks same (λ j lt. inside (suc j) (omega arith)) in
    ap (λ b. b || list_any p ks) (same k e.0 e.1) ∙ ap (λ b. q e.0 || b) rest ∙ sym (ap (λ o. list_any q (cons_option o (all_at xs ks))) e.1)

pub has_walk-can_walk : (r : Registry) (edges : List (List ℕ)) → AreEdges r edges (length r.templates) → (n i : ℕ) (t : Entry) → slice_get r.templates i ≡ Some t → has_walk edges n i ≡ can_walk r n t
unfolding has_walk can_walk
has_walk-can_walk r edges a zero i t at = refl
has_walk-can_walk r edges a (suc n) i t at =
    any-all_at (has_walk edges n) (can_walk r n) r.templates (targets edges i) (λ k u u_at. has_walk-can_walk r edges a n k u u_at) (a.inside i)
    ∙ ap (list_any (can_walk r n)) (a.those i t (slice_get_within r.templates i t at) at)

circles-leads : (r : Registry) (edges : List (List ℕ)) → AreEdges r edges (length r.templates) → (i : ℕ) (t : Entry) → slice_get r.templates i ≡ Some t → circles edges i ≡ leads_into_a_circle r t
circles-leads r edges a i t at =
    ap (λ n. has_walk edges n i) a.as_many ∙ has_walk-can_walk r edges a (length r.templates) i t at

-- the same of edges that are lent
pub all-edges : (ts : List (Rc Stored Global)) (ps : List (String Global)) (kept lent : List (Vec ℕ Global)) → lent ≡ kept → AreEdges (seen ts ps) (rows kept) (length ts) → AreEdges (seen ts ps) (rows lent) (length (entries_of ts))
all-edges ts ps kept lent e a = rw (length-entries ts, e) a

pub closed : (r : Registry) (edges : List (List ℕ)) → AreEdges r edges (length r.templates) → Closed edges
closed r edges a = record { inside = λ i k lt. rw a.as_many (a.inside i k lt) }

pub first_circle : (r : Registry) (edges : List (List ℕ)) (circle : Option ℕ) → AreEdges r edges (length r.templates) → IsLeastCircle edges circle → IsFirstCircle r circle
first_circle r edges None a least = λ i t at.
    sym (circles-leads r edges a i t at) ∙ least i (omega (arith, a.as_many, slice_get_within r.templates i t at))
first_circle r edges (Some c) a least =
    ((λ i t lt at. sym (circles-leads r edges a i t at) ∙ least.2 i lt), (λ t at. sym (circles-leads r edges a c t at) ∙ least.1))
