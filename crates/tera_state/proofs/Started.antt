-- How a loop begins.
use Rattle.std.proofs.Common.{◌≡◌, ℕ, List, [], ◌∷◌, Option, Some, None, Result, Ok, Err, IsOk, Bool, true, false, cond, length, drop, refl, sym, ap, ◌∙◌}
use Rattle.std.specs.Prelude.{slice_get, ◌&&◌, not}
use Rattle.std.specs.Option.{is_some}
use Rattle.tera_errors.specs.Fault.{message}
use Rattle.tera_errors.specs.Answer.{SeenError, Gives}
use Rattle.tera_values.specs.Alphabet.{plain}
use Rattle.tera_values.specs.Val.{Val, array, text, vals}
use Rattle.tera_state.specs.Items.{Item, items_in, unkeyed, clusters_in}
use Rattle.tera_state.specs.Scope.{Heading, turns_from, turns_over, is_map, loop_turns, counters}
use Rattle.tera_state.specs.Opened.{names_of, walked, given, items_for, turn_of, to_come, heading_of, items_of}
use Rattle.tera_state.specs.declared.loops.ForLoop.{ForLoop}
use Rattle.tera_state.proofs.Walked.{list_of_vals}

-- what a loop goes over and its turns are the same items
with_items : (h : Heading) (b : Bool) (o : Option (List Item)) (is : List Item) → cond b (Err message) (given o) ≡ Ok is → (o ≡ Some is) × (cond b (Err message) (turns_over h o) ≡ Ok (turns_from h (length is) 0 is))
with_items h true o is e = cc
with_items h false None is e = cc
with_items h false (Some js) is e = let same : js ≡ is = cc in (ap Some same, ap (λ (x : List Item). Ok (turns_from h (length x) 0 x)) same)

pub turns_of_items : (h : Heading) (v : Val) (is : List Item) → items_for (is_some h.key) v ≡ Ok is → (items_in plain v ≡ Some is) × (loop_turns h v ≡ Ok (turns_from h (length is) 0 is))
turns_of_items h v is e = with_items h (is_some h.key && not (is_map v)) (items_in plain v) is e

-- where a loop has turns it has items
with_turns : (h : Heading) (b : Bool) (o : Option (List Item)) → IsOk (cond b (Err message) (turns_over h o)) → IsOk (cond b (Err message) (given o))
with_turns h true o k = k
with_turns h false None k = k
with_turns h false (Some is) k = refl

pub turns_need_items : (h : Heading) (v : Val) → IsOk (loop_turns h v) → IsOk (items_for (is_some h.key) v)
turns_need_items h v = with_turns h (is_some h.key && not (is_map v)) (items_in plain v)

-- a text is gone over by its clusters
module _ (is_keyed : Bool) (content : List ℕ) (safe : Bool) (target : Val) where
  over_clusters : (items : Val) → (is_keyed && not (is_map target)) ≡ false → text content safe ≡ target → array (vals (clusters_in plain content)) ≡ items → items_for is_keyed target ≡ Ok (walked items)
  over_clusters items fits e made =
      ap (λ (t : Bool). cond t (Err message) (given (items_in plain target))) fits
      ∙ ap (λ (v : Val). given (items_in plain v)) (sym e)
      ∙ ap (λ (l : List Val). Ok (unkeyed l)) (sym (list_of_vals (clusters_in plain content)))
      ∙ ap (λ (v : Val). Ok (walked v)) made

  pub gives_clusters : (r : Result Val SeenError) → (is_keyed && not (is_map target)) ≡ false → text content safe ≡ target → Gives (λ v. v) r (Ok (array (vals (clusters_in plain content)))) → Gives walked r (items_for is_keyed target)
  gives_clusters (Ok items) fits e made = let same : array (vals (clusters_in plain content)) ≡ items = cc in over_clusters items fits e same
  gives_clusters (Err None) fits e made = tt
  gives_clusters (Err (Some fault)) fits e made = cc

starts : (h : Heading) (n : ℕ) (is : List Item) → (0 ≡ length is → ⊥) → turns_from h n 0 is ≡ record { counters = cond h.counts (counters n 0) []; sets = []; names = names_of h (slice_get is 0) } ∷ turns_from h n 1 (drop 1 is)
starts h n [] ne = absurd (ne refl)
starts h n (x ∷ is) ne = refl

pub first_turn : (l : ForLoop) → l.index ≡ 0 → (0 ≡ length (items_of l) → ⊥) → turns_from (heading_of l) (length (items_of l)) 0 (items_of l) ≡ turn_of [] l ∷ to_come l
first_turn l z ne =
    starts (heading_of l) (length (items_of l)) (items_of l) ne
    ∙ ap (λ (i : ℕ). turn_of [] (record l { index = i }) ∷ to_come (record l { index = i })) (sym z)
