-- Each name that a look-up finds is one that is bound somewhere.
use Rattle.std.proofs.Common.{◌≡◌, Bool, true, false, ◌||◌, cond, List, [], ◌∷◌, ◌++◌, Option, Some, None, refl, sym, ap, ◌∙◌, unwrap_or}
use Rattle.std.specs.Prelude.{flat_map}
use Rattle.std.specs.List.{list_any}
use Rattle.std.specs.Option.{option_or}
use Rattle.std.specs.Str.{bytes_eq}
use Rattle.std.specs.Cmp.Lexicographic.{bytes_decides}
use Rattle.std.proofs.lemmas.List.Folds.{list_any-append}
use Rattle.tera_errors.specs.Site.{Name}
use Rattle.tera_values.specs.Val.{Val, undefined}
use Rattle.tera_values.specs.Access.{is_undefined}
use Rattle.tera_values.specs.Named.{Named, at_name, put, IsAscending}
use Rattle.tera_values.proofs.Named.{at_put}
use Rattle.tera_values.proofs.Contexts.{put_ascends, named_ascend}
use Rattle.tera_state.specs.Scope.{Around, Bindings, Frame, Kind, whole, included, called, Turn, Variables, defined, handed_down, in_turn, in_turns, in_variables, outermost, bound, look}
use Rattle.tera_state.specs.Scopes.{around_of, variables_of}
use Rattle.tera_state.specs.FoundNames.{names_in, turn_names, variable_names, frame_names, body_names, bound_names, found_among, IsMapOf}
use Rattle.tera_state.specs.View.{look_in_source, StateNamesAreAMap}
use Rattle.tera_state.specs.declared.state.StateSource.TheVariants.{Context, Scopes}

-- whether a name is among some
abbrev is_among : Name → List Name → Bool
is_among n ns = list_any (bytes_eq n) ns

neither : (a b : Bool) → (a || b) ≡ false → (a ≡ false) × (b ≡ false)
neither true b h = absurd (cc)
neither false b h = (refl, h)

split : (n : Name) (ns ms : List Name) → is_among n (ns ++ ms) ≡ false → (is_among n ns ≡ false) × (is_among n ms ≡ false)
split n ns ms h = neither (is_among n ns) (is_among n ms) (sym (list_any-append (bytes_eq n) ns ms) ∙ h)

or_none : {A : Type 0} (o p : Option A) → o ≡ None → p ≡ None → option_or o p ≡ None
or_none None p h k = k
or_none (Some a) p h k = absurd (cc)

unbound : (n : Name) (bs : Bindings) → is_among n (names_in bs) ≡ false → at_name n bs ≡ None
unbound n [] h = refl
unbound n (b ∷ bs) h =
    let parts = neither (bytes_eq n b.0) (is_among n (names_in bs)) h in
    ap (λ t. cond t (Some b.1) (at_name n bs)) parts.0 ∙ unbound n bs parts.1

turn_unbound : (n : Name) (t : Turn) → is_among n (turn_names t) ≡ false → in_turn n t ≡ None
turn_unbound n t h =
    let outer = split n (names_in t.counters ++ names_in t.sets) (names_in t.names) h in
    let inner = split n (names_in t.counters) (names_in t.sets) outer.0 in
    or_none (at_name n t.counters) _ (unbound n t.counters inner.0) (or_none (at_name n t.sets) _ (unbound n t.sets inner.1) (unbound n t.names outer.1))

turns_unbound : (n : Name) (ts : List Turn) → is_among n (flat_map turn_names ts) ≡ false → in_turns n ts ≡ None
turns_unbound n [] h = refl
turns_unbound n (t ∷ ts) h =
    let parts = split n (turn_names t) (flat_map turn_names ts) h in
    or_none (in_turn n t) _ (turn_unbound n t parts.0) (turns_unbound n ts parts.1)

variables_unbound : (n : Name) (v : Variables) → is_among n (variable_names v) ≡ false → in_variables n v ≡ None
variables_unbound n v h =
    let parts = split n (flat_map turn_names v.turns) (names_in v.sets) h in
    or_none (in_turns n v.turns) _ (turns_unbound n v.turns parts.0) (unbound n v.sets parts.1)

frame_unbound : (n : Name) (f : Frame) → is_among n (frame_names f) ≡ false → outermost n f ≡ None
frame_unbound n f h =
    let parts = split n (names_in f.context) (names_in f.global) h in
    or_none (at_name n f.context) _ (unbound n f.context parts.0) (unbound n f.global parts.1)

nothing_handed : (k : Kind) (o : Option Val) → o ≡ None → handed_down k o ≡ None
nothing_handed whole o h = refl
nothing_handed included o h = ap defined h
nothing_handed called o h = refl

-- what is bound nowhere is not found
bound_nowhere : (n : Name) (f : Frame) (us : List (Frame × Variables)) (v : Variables) → is_among n (body_names (f, v)) ≡ false → is_among n (flat_map body_names us) ≡ false → bound n f us v ≡ None
bound_nowhere n f [] v h k =
    let parts = split n (variable_names v) (frame_names f) h in
    or_none (in_variables n v) _ (variables_unbound n v parts.0) (frame_unbound n f parts.1)
bound_nowhere n f (u ∷ us) v h k =
    let parts = split n (variable_names v) (frame_names f) h in
    let above = split n (body_names u) (flat_map body_names us) k in
    or_none (in_variables n v) _ (variables_unbound n v parts.0)
    (or_none (handed_down f.kind (bound n u.0 us u.1)) _ (nothing_handed f.kind _ (bound_nowhere n u.0 us u.1 above.0 above.1)) (frame_unbound n f parts.1))

pub looked_nowhere : (n : Name) (around : Around) (v : Variables) → is_among n (bound_names around v) ≡ false → look n around v ≡ undefined
looked_nowhere n around v h =
    let parts = split n (body_names (around.frame, v)) (flat_map body_names around.above) h in
    ap (λ o. unwrap_or o undefined) (bound_nowhere n around.frame around.above v parts.0 parts.1)

module _ (look_up : Name → Val) where
  rest_too : (there : Bool) (found : Option Val) → found ≡ None → cond there found None ≡ found
  rest_too true found h = refl
  rest_too false found h = sym h

  -- what stands for a name of the list, and nothing for any other
  among : (n : Name) (ns : List Name) → at_name n (found_among look_up ns) ≡ cond (is_among n ns) (defined (Some (look_up n))) None
  among n [] = refl
  among n (m ∷ ns) = next (bytes_eq n m) refl (is_undefined (look_up m)) refl (among n ns)
    where
      rest : Named Val
      rest = found_among look_up ns

      found : bytes_eq n m ≡ true → (b : Bool) → is_undefined (look_up m) ≡ b → defined (Some (look_up n)) ≡ cond b None (Some (look_up m))
      found same b u =
          ap (λ (v : Val). defined (Some v)) (ap look_up ((bytes_decides n m).0 same))
          ∙ ap (λ (t : Bool). cond t None (Some (look_up m))) u

      next : (same : Bool) → bytes_eq n m ≡ same → (b : Bool) → is_undefined (look_up m) ≡ b → at_name n rest ≡ cond (is_among n ns) (defined (Some (look_up n))) None → at_name n (cond b rest (put m (look_up m) rest)) ≡ cond (same || is_among n ns) (defined (Some (look_up n))) None
      next true same true u h = h ∙ rest_too (is_among n ns) (defined (Some (look_up n))) (found same true u)
      next true same false u h =
          at_put n m (look_up m) rest
          ∙ ap (λ (t : Bool). cond t (Some (look_up m)) (at_name n rest)) same
          ∙ sym (found same false u)
      next false other true u h = h
      next false other false u h =
          at_put n m (look_up m) rest
          ∙ ap (λ (t : Bool). cond t (Some (look_up m)) (at_name n rest)) other
          ∙ h

  ascending : (ns : List Name) → IsAscending (found_among look_up ns)
  ascending [] = named_ascend {A = Val} [] [] refl
  ascending (n ∷ ns) = next (is_undefined (look_up n)) (ascending ns)
    where
      next : (b : Bool) → IsAscending (found_among look_up ns) → IsAscending (cond b (found_among look_up ns) (put n (look_up n) (found_among look_up ns)))
      next true h = h
      next false h = put_ascends n (look_up n) (found_among look_up ns) h

  covered : (n : Name) → (there : Bool) → (there ≡ false → look_up n ≡ undefined) → cond there (defined (Some (look_up n))) None ≡ defined (Some (look_up n))
  covered n true h = refl
  covered n false h = sym (ap (λ (v : Val). defined (Some v)) (h refl))

  -- a list with all names that stand for something gives the map of the look-up
  pub map_of : (ns : List Name) → ((n : Name) → is_among n ns ≡ false → look_up n ≡ undefined) → IsMapOf look_up (found_among look_up ns)
  map_of ns h = record { finds = λ n. among n ns ∙ covered n (is_among n ns) (h n); ascends = ascending ns }

pub state_names : StateNamesAreAMap
state_names (Context context) = map_of (look_in_source (Context context)) (names_in context.now) (λ n h. ap (λ o. unwrap_or o undefined) (unbound n context.now h))
state_names (Scopes scopes) = map_of (look_in_source (Scopes scopes)) (bound_names (around_of scopes.now) (variables_of scopes.now)) (λ n. looked_nowhere n (around_of scopes.now) (variables_of scopes.now))
