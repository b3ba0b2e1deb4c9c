-- What the calls do to variables and to what is around.
use Rattle.std.proofs.Common.{◌≡◌, ℕ, suc, Bool, true, false, List, [], ◌∷◌, length, drop, map, refl, sym, ap, ap₂, ◌∙◌, true≢false, Result, Ok, Err, OnOk, OnErr, subst}
use Rattle.tera_errors.specs.Site.{Name}
use Rattle.tera_values.specs.Val.{Val}
use Rattle.tera_state.specs.Scope.{Bindings, Turn, Variables, Around, set_variable, set_global, open_turn, close_turn, nothing_set, Frame as FrameMeant}
use Rattle.tera_state.specs.Bound.{layer_of, with_binding, without, without_frame, AreAlike}
use Rattle.tera_state.specs.Opened.{turn_of, to_come, turns_of, InnermostGoesOn}
use Rattle.tera_state.specs.Scopes.{begun, variables_at, variables_of, around_of, coming_of, GoesRound, TakesTurn, above_of, frame_of}
use Rattle.tera_state.specs.declared.bindings.Binding.{Binding}
use Rattle.tera_state.specs.declared.loops.ForLoop.{ForLoop}
use Rattle.tera_state.specs.declared.frame.Frame.{Frame}
use Rattle.tera_state.specs.declared.frame.FrameKind.{FrameKind}
use Rattle.tera_state.specs.declared.scopes.Scopes.{Scopes}
use Rattle.tera_state.proofs.Layers.{variables_same, above_same, set_law, open_law, close_law, bind_above, without_above, frame_above, frame_there, set_global_law}

-- only what each layer binds is seen
alike_variables : (s : Scopes) (bs cs : List Binding) → AreAlike bs cs → variables_of (record s { bindings = bs }) ≡ variables_of (record s { bindings = cs })
alike_variables s bs cs same = variables_same cs bs (length s.below) s.frame (λ j. same (length s.below) j)

alike_around : (s : Scopes) (bs cs : List Binding) → AreAlike bs cs → around_of (record s { bindings = bs }) ≡ around_of (record s { bindings = cs })
alike_around s bs cs same =
    ap (λ (us : List (FrameMeant × Variables)). record { frame = frame_of s.frame.standing s.below; above = us }) (above_same cs bs s.below (λ g j lt. same g j))

module _ {E : Type 0} where
  on_ok : {P Q : Type 0} → (r : Result (Unit {0}) E) → (P → Q) → OnOk r P → OnOk r Q
  on_ok (Ok x) f p = f p
  on_ok (Err e) f p = tt

  either_way : {P Q R : Type 0} → (r : Result (Unit {0}) E) → (P → R) → (Q → R) → OnOk r P → OnErr r Q → R
  either_way (Ok x) f g p q = f p
  either_way (Err e) f g p q = g q

  pub sets : (s : Scopes) (bs : List Binding) (f l : ℕ) (n : Name) (v : Val) (r : Result (Unit {0}) E) → f ≡ length s.below → l ≡ length (s.frame.loops) → OnOk r (AreAlike bs (with_binding s.bindings f l n v)) → OnOk r (variables_of (record s { bindings = bs }) ≡ set_variable n v (variables_of s))
  sets s bs f l n v r ef el = on_ok r (λ e. alike_variables s bs (with_binding s.bindings f l n v) e ∙ ap₂ (λ (g k : ℕ). variables_of (record s { bindings = with_binding s.bindings g k n v })) ef el ∙ set_law s.bindings (length s.below) (s.frame.loops) n v)

  pub sets_global : (s : Scopes) (bs : List Binding) (f : ℕ) (n : Name) (v : Val) (r : Result (Unit {0}) E) → f ≡ length s.below → OnOk r (AreAlike bs (with_binding s.bindings f 0 n v)) → OnOk r (variables_of (record s { bindings = bs }) ≡ set_global n v (variables_of s))
  sets_global s bs f n v r ef = on_ok r (λ e. alike_variables s bs (with_binding s.bindings f 0 n v) e ∙ ap (λ (g : ℕ). variables_of (record s { bindings = with_binding s.bindings g 0 n v })) ef ∙ set_global_law s.bindings (length s.below) (s.frame.loops) n v)

  pub sets_stays : (s : Scopes) (bs : List Binding) (f l : ℕ) (n : Name) (v : Val) (r : Result (Unit {0}) E) → f ≡ length s.below → OnOk r (AreAlike bs (with_binding s.bindings f l n v)) → OnErr r (bs ≡ s.bindings) → around_of (record s { bindings = bs }) ≡ around_of s
  sets_stays s bs f l n v r ef =
      either_way r
      (λ e. alike_around s bs (with_binding s.bindings f l n v) e ∙ ap (λ (g : ℕ). around_of (record s { bindings = with_binding s.bindings g l n v })) ef ∙ ap (λ (us : List (FrameMeant × Variables)). record { frame = frame_of s.frame.standing s.below; above = us }) (bind_above s.bindings s.below l n v))
      (λ e. ap (λ (x : List Binding). around_of (record s { bindings = x })) e)

-- a layer of the frame that runs is taken out
abbrev cleared : Scopes → List Binding → List ForLoop → Scopes
cleared s bs ls = record s { bindings = bs; frame = record s.frame { loops = ls } }

turn_stays : (s : Scopes) (bs : List Binding) (f l : ℕ) → f ≡ length s.below → bs ≡ without s.bindings f l → above_of bs s.below ≡ above_of s.bindings s.below
turn_stays s bs f l ef e = ap (λ (x : List Binding). above_of x s.below) (e ∙ ap (λ (g : ℕ). without s.bindings g l) ef) ∙ without_above s.bindings s.below l

-- the same of all that is around
pub cleared_stays : (s : Scopes) (ls : List ForLoop) (bs : List Binding) (f l : ℕ) → f ≡ length s.below → bs ≡ without s.bindings f l → around_of (cleared s bs ls) ≡ around_of s
cleared_stays s ls bs f l ef e = ap (λ us. record { frame = frame_of s.frame.standing s.below; above = us }) (turn_stays s bs f l ef e)

abbrev variables_with : List Binding → ℕ → List ForLoop → Variables
variables_with bs f ls = record { turns = turns_of bs f ls; sets = layer_of bs f 0 }

-- this is the layer of the innermost loop
module _ (s : Scopes) (bs : List Binding) (f k : ℕ) (ef : f ≡ length s.below) (e : bs ≡ without s.bindings f k) where
  abbrev here : ℕ
  here = length s.below

  abbrev before : List ForLoop → Variables
  before ls = variables_with s.bindings here ls

  abbrev after : List ForLoop → Variables
  after ls = variables_with bs here ls

  from_here : (ls new : List ForLoop) (l : ForLoop) → k ≡ length new → new ≡ l ∷ ls → after new ≡ open_turn (turn_of [] l) (before ls)
  from_here ls new l ek same =
      ap₂ (λ (x : List Binding) (ms : List ForLoop). variables_with x here ms) (e ∙ ap₂ (λ (g j : ℕ). without s.bindings g j) ef (ek ∙ ap length same)) same
      ∙ open_law s.bindings here ls l

  pub opens : (new : List ForLoop) (l : ForLoop) → k ≡ length new → new ≡ l ∷ s.frame.loops → variables_of (cleared s bs new) ≡ open_turn (turn_of [] l) (variables_of s)
  opens new l ek same = from_here s.frame.loops new l ek same

  closes_by : (old new : List ForLoop) → (map to_come old ≡ [] → ⊥) → k ≡ length old → new ≡ drop 1 old → after new ≡ close_turn (before old)
  closes_by [] new some ek same = absurd (some refl)
  closes_by (l ∷ ls) new some ek same =
      ap₂ (λ (x : List Binding) (ms : List ForLoop). variables_with x here ms) (e ∙ ap₂ (λ (g j : ℕ). without s.bindings g j) ef ek) same
      ∙ close_law s.bindings here ls

  pub closes : (new : List ForLoop) → (coming_of s ≡ [] → ⊥) → k ≡ length s.frame.loops → new ≡ drop 1 s.frame.loops → variables_of (cleared s bs new) ≡ close_turn (variables_of s)
  closes new some ek same = closes_by s.frame.loops new some ek same

  takes_by : (old new : List ForLoop) → k ≡ length new → InnermostGoesOn true old new → GoesRound true (map to_come old) (before old) (map to_come new) (after new)
  takes_by [] new ek h = absurd (true≢false h.0)
  takes_by (l ∷ ls) new ek (l', same, goes) =
      subst (λ (c : List Turn). GoesRound true (c ∷ map to_come ls) (before (l ∷ ls)) (map to_come new) (after new)) (sym goes)
      (refl, ap (map to_come) same, from_here ls new l' ek same)

  pub takes_turn : (new : List ForLoop) (r : Bool) → r ≡ true → k ≡ length new → InnermostGoesOn r s.frame.loops new → TakesTurn true s (cleared s bs new)
  takes_turn new r it ek h = takes_by s.frame.loops new ek (subst (λ (b : Bool). InnermostGoesOn b s.frame.loops new) it h)

-- the innermost loop has no turn to come
module _ (bs : List Binding) (f : ℕ) where
  abbrev at : List ForLoop → Variables
  at ls = variables_with bs f ls

  stops_by : (old new : List ForLoop) → InnermostGoesOn false old new → GoesRound false (map to_come old) (at old) (map to_come new) (at new)
  stops_by [] new h = (refl, ap (map to_come) h.1, ap at h.1)
  stops_by (l ∷ ls) new (l', same, stops) =
      let e : new ≡ l ∷ ls = same ∙ ap (λ x. x ∷ ls) stops.1 in
      subst (λ (c : List Turn). GoesRound false (c ∷ map to_come ls) (at (l ∷ ls)) (map to_come new) (at new)) (sym stops.0)
      (refl, ap (map to_come) e ∙ ap (λ c. c ∷ map to_come ls) stops.0, ap at e)

pub stops : (s : Scopes) (new : List ForLoop) (r : Bool) → r ≡ false → InnermostGoesOn r s.frame.loops new → TakesTurn false s (cleared s s.bindings new)
stops s new r it h = stops_by s.bindings (length s.below) s.frame.loops new (subst (λ (b : Bool). InnermostGoesOn b s.frame.loops new) it h)

-- a frame begins with nothing bound, and ends with all that it bound
pub begins_with_nothing : (bs : List Binding) (f : ℕ) → ◌≡◌ {A = Variables} (record { turns = []; sets = layer_of (without_frame bs f) f 0 }) nothing_set
begins_with_nothing bs f = ap (λ (sets : Bindings). record { turns = []; sets = sets }) (frame_there bs f 0)

pub frames_stay : (old bs : List Binding) (below more : List Frame) → below ≡ more → bs ≡ without_frame old (length more) → above_of bs below ≡ above_of old more
frames_stay old bs below more e made = ap₂ above_of made e ∙ frame_above old more

module _ {E : Type 0} where
  pub begins : (old new : Scopes) (st : FrameKind) (r : Result (Unit {0}) E) → OnOk r (new.frame ≡ begun st) → OnOk r (new.below ≡ old.frame ∷ old.below) → OnOk r (new.bindings ≡ without_frame old.bindings (suc (length old.below))) → OnOk r (variables_of new ≡ nothing_set)
  begins old new st (Ok x) fr be bs = ap₂ (λ (k : ℕ) (f : Frame). variables_at new.bindings k f) (ap length be) fr ∙ ap (λ (b : List Binding). record { turns = []; sets = layer_of b (suc (length old.below)) 0 }) bs ∙ begins_with_nothing old.bindings (suc (length old.below))
  begins old new st (Err e) fr be bs = tt

  pub begins_under : (old new : Scopes) (st : FrameKind) (r : Result (Unit {0}) E) → OnOk r (new.frame ≡ begun st) → OnOk r (new.below ≡ old.frame ∷ old.below) → OnOk r (new.bindings ≡ without_frame old.bindings (suc (length old.below))) → OnOk r (◌≡◌ {A = Around} (around_of new) (record { frame = frame_of st (old.frame ∷ old.below); above = above_of old.bindings (old.frame ∷ old.below) }))
  begins_under old new st (Ok x) fr be bs =
      ap₂ (λ (fm : FrameMeant) (us : List (FrameMeant × Variables)). record { frame = fm; above = us })
      (ap₂ (λ (f : Frame) (gs : List Frame). frame_of f.standing gs) fr be)
      (frames_stay old.bindings new.bindings new.below (old.frame ∷ old.below) be bs)
  begins_under old new st (Err e) fr be bs = tt
