-- What a body reads of those above it.
use Rattle.std.proofs.Common.{◌≡◌, ℕ, ◌-◌, ◌<◌, ◌≤◌, List, [], ◌∷◌, Bool, true, false, cond, Option, Some, None, IfSome, length, reverse, refl, sym, ap, ap₂, ◌∙◌, true≢false, arith}
use Rattle.std.specs.Prelude.{slice_get, unwrap_or}
use Rattle.std.specs.Option.{option_or}
use Rattle.tera_errors.specs.Site.{Name}
use Rattle.tera_values.specs.Val.{Val, undefined}
use Rattle.tera_values.specs.Access.{is_undefined}
use Rattle.tera_values.specs.Named.{Named, at_name}
use Rattle.tera_state.specs.FoundValue.{found_value}
use Rattle.tera_state.specs.Scope.{Variables, Turn, in_turn, in_turns, in_innermost, bound, bound_above, defined, handed_down, outermost, in_variables, nothing_set, Frame as FrameMeant}
use Rattle.tera_state.specs.Bound.{layer_of}
use Rattle.tera_state.specs.Opened.{turns_of}
use Rattle.tera_state.specs.Stack.{lower}
use Rattle.tera_state.specs.Scopes.{context_of, frame_of, above_of, variables_at, handed_at}
use Rattle.tera_state.specs.declared.bindings.Binding.{Binding}
use Rattle.tera_state.specs.declared.found_value.FoundValue.{FoundValue}
use Rattle.tera_state.specs.declared.found_value.FoundValue.TheVariants as found
use Rattle.tera_state.specs.declared.frame.Frame.{Frame}
use Rattle.tera_state.specs.declared.scopes.Scopes.{Scopes}
use Rattle.tera_state.specs.declared.loops.ForLoop.{ForLoop}
use Rattle.tera_state.specs.declared.frame.FrameKind.{FrameKind}
use Rattle.tera_state.specs.declared.frame.FrameKind.TheVariants as standing
use Rattle.tera_state.proofs.Finds.{first, second, lower_at, lower_length, lower_none}

pub kept_first : (r : FoundValue) (a b : Option Val) → (r ≡ found.Unbound → ⊥) → found_value r ≡ a → found_value r ≡ option_or a b
kept_first (found.Kept v) a b n e = first _ a b e _ refl
kept_first (found.Key k) a b n e = first _ a b e _ refl
kept_first (found.Number z) a b n e = first _ a b e _ refl
kept_first (found.Index1 z) a b n e = first _ a b e _ refl
kept_first (found.Flag t) a b n e = first _ a b e _ refl
kept_first found.Unbound a b n e = absurd (n refl)

or_none : (a : Option Val) → option_or a None ≡ a
or_none None = refl
or_none (Some v) = refl

abbrev pub beyond : Name → FrameMeant → List (FrameMeant × Variables) → Option Val
beyond n f [] = outermost n f
beyond n f (u ∷ us) = option_or (handed_down f.kind (bound n u.0 us u.1)) (outermost n f)

pub bound_split : (n : Name) (f : FrameMeant) (us : List (FrameMeant × Variables)) (v : Variables) → bound n f us v ≡ option_or (in_variables n v) (beyond n f us)
bound_split n f [] v = refl
bound_split n f (u ∷ us) v = refl

-- what the innermost turn binds is what the body binds
turn_first : (r : FoundValue) (n : Name) (ts : List Turn) → (r ≡ found.Unbound → ⊥) → found_value r ≡ in_innermost n ts → found_value r ≡ in_turns n ts
turn_first r n [] some e = e
turn_first r n (t ∷ ts) some e = kept_first r (in_turn n t) (in_turns n ts) some e

pub innermost_first : (r : FoundValue) (n : Name) (f : FrameMeant) (us : List (FrameMeant × Variables)) (v : Variables) → (r ≡ found.Unbound → ⊥) → found_value r ≡ in_innermost n v.turns → found_value r ≡ bound n f us v
innermost_first r n f us v some e =
    kept_first r _ _ some (kept_first r _ _ some (turn_first r n v.turns some e)) ∙ sym (bound_split n f us v)

-- the same of a value that is told by itself
turn_bound : (n : Name) (ts : List Turn) (x : Val) → in_innermost n ts ≡ Some x → in_turns n ts ≡ Some x
turn_bound n [] x e = e
turn_bound n (t ∷ ts) x e = sym (first (Some x) (in_turn n t) (in_turns n ts) (sym e) x refl)

innermost_bound : (n : Name) (f : FrameMeant) (us : List (FrameMeant × Variables)) (v : Variables) (x : Val) → in_innermost n v.turns ≡ Some x → bound n f us v ≡ Some x
innermost_bound n f us v x e =
    let turns = sym (turn_bound n v.turns x e) in
    let variables = first (Some x) (in_turns n v.turns) (at_name n v.sets) turns x refl in
    bound_split n f us v ∙ sym (first (Some x) (in_variables n v) (beyond n f us) variables x refl)

-- and of one that is lent
pub innermost_lent : {B : Type 0} (o : Option B) (now : B → Val) (n : Name) (f : FrameMeant) (us : List (FrameMeant × Variables)) (v : Variables) → IfSome o (λ b. in_innermost n v.turns ≡ Some (now b)) → IfSome o (λ b. unwrap_or (bound n f us v) undefined ≡ now b)
innermost_lent None now n f us v h = tt
innermost_lent (Some b) now n f us v h = ap (λ (o : Option Val). unwrap_or o undefined) (innermost_bound n f us v (now b) h)

module _ (n : Name) (bs : List Binding) where
  abbrev pub at : FrameKind → List Frame → Option Val
  at s fs = beyond n (frame_of s fs) (above_of bs fs)

  pub whole_beyond : (s : FrameKind) (c : Named Val × Named Val) (fs : List Frame) → s ≡ standing.Template c → at s fs ≡ option_or (at_name n c.0) (at_name n c.1)
  whole_beyond s c [] e = ap (λ (t : FrameKind). at t []) e
  whole_beyond s c (f ∷ fs) e = ap (λ (t : FrameKind). at t (f ∷ fs)) e

  pub called_beyond : (s : FrameKind) (context : Named Val) (fs : List Frame) → s ≡ standing.Component context → at s fs ≡ at_name n context
  called_beyond s context [] e = ap (λ (t : FrameKind). at t []) e ∙ or_none (at_name n context)
  called_beyond s context (f ∷ fs) e = ap (λ (t : FrameKind). at t (f ∷ fs)) e ∙ or_none (at_name n context)

  abbrev of_includer : Frame → List Frame → ℕ → Option Val
  of_includer f fs k = bound n (frame_of f.standing fs) (above_of bs fs) (variables_at bs k f)

  pub included_beyond : (s : FrameKind) (f : Frame) (gs fs : List Frame) (k : ℕ) → s ≡ standing.Include → gs ≡ f ∷ fs → length fs ≡ k → at s gs ≡ option_or (defined (of_includer f fs k)) (at_name n (context_of f.standing fs))
  included_beyond s f gs fs k e g ek =
      ap₂ at e g
      ∙ ap₂ (λ (j : ℕ) (o : Option Val). option_or (defined (of_includer f fs j)) o) ek (or_none (at_name n (context_of f.standing fs)))

-- with one loop open at most, what the innermost turn does not bind no turn does
pub one_turn : (n : Name) (bs : List Binding) (k : ℕ) (ls : List ForLoop) → length ls ≤ 1 → None ≡ in_innermost n (turns_of bs k ls) → None ≡ in_turns n (turns_of bs k ls)
one_turn n bs k [] few none = refl
one_turn n bs k (l ∷ []) few none = ap (λ (o : Option Val). option_or o None) none
one_turn n bs k (l ∷ m ∷ ls) few none = absurd (omega (arith, few))

pub nothing_bound : (n : Name) (bs : List Binding) (k : ℕ) (body : Frame) → bs ≡ [] → length body.loops ≤ 1 → None ≡ in_innermost n (turns_of bs k body.loops) → None ≡ in_variables n (variables_at bs k body)
nothing_bound n bs k body unset few none =
    second _ _ _ (one_turn n bs k body.loops few none) (ap (λ (cs : List Binding). at_name n (layer_of cs k 0)) (sym unset))

-- where the includer's look-up gives undefined, and where not
pub handed_none : (o a x : Option Val) → is_undefined (unwrap_or o undefined) ≡ true → x ≡ a → x ≡ option_or (defined o) a
handed_none None a x u e = e
handed_none (Some v) a x u e = e ∙ ap (λ (t : Bool). option_or (cond t None (Some v)) a) (sym u)

pub handed_some : (o a : Option Val) → is_undefined (unwrap_or o undefined) ≡ false → o ≡ option_or (defined o) a
handed_some None a u = absurd (true≢false u)
handed_some (Some v) a u = ap (λ (t : Bool). option_or (cond t None (Some v)) a) (sym u)

-- a body that binds nothing of the name has what is beyond it
module _ (n : Name) (bs : List Binding) (k : ℕ) (body : Frame) (fs : List Frame) where
  pub from_beyond : (o : Option Val) → None ≡ in_variables n (variables_at bs k body) → o ≡ at n bs body.standing fs → o ≡ bound n (frame_of body.standing fs) (above_of bs fs) (variables_at bs k body)
  from_beyond o none e =
      second _ _ _ none e ∙ sym (bound_split n (frame_of body.standing fs) (above_of bs fs) (variables_at bs k body))

-- what is handed down is asked for once
once : (t : Bool) (c : Val) → option_or (cond t None (Some c)) (Some c) ≡ Some c
once true c = refl
once false c = refl

once_all : (c : Option Val) → option_or (defined c) c ≡ c
once_all None = refl
once_all (Some c) = once (is_undefined c) c

twice : (t : Bool) (v : Val) (c : Option Val) → is_undefined v ≡ t → option_or (defined (option_or (cond t None (Some v)) c)) c ≡ option_or (cond t None (Some v)) c
twice true v c u = once_all c
twice false v c u = ap (λ (b : Bool). option_or (cond b None (Some v)) c) u

twice_all : (o c : Option Val) → option_or (defined (option_or (defined o) c)) c ≡ option_or (defined o) c
twice_all None c = once_all c
twice_all (Some v) c = twice (is_undefined v) v c refl

module _ (n : Name) (bs : List Binding) where
  abbrev pub passed : List Frame → Option Val
  passed fs = at n bs standing.Include fs

  passed_own : (fs : List Frame) → option_or (defined (passed fs)) (at_name n (context_of standing.Include fs)) ≡ passed fs
  passed_own [] = refl
  passed_own (f ∷ fs) =
      let c = at_name n (context_of f.standing fs) in
      let o = bound n (frame_of f.standing fs) (above_of bs fs) (variables_at bs (length fs) f) in
      ap (λ (x : Option Val). option_or (defined (option_or (defined o) x)) c) (or_none c) ∙ twice_all o c ∙ ap (λ (x : Option Val). option_or (defined o) x) (sym (or_none c))

  -- an include that binds nothing of the name passes it on
  pub pass_on : (f : Frame) (gs fs : List Frame) (k : ℕ) → gs ≡ f ∷ fs → length fs ≡ k → f.standing ≡ standing.Include → in_variables n (variables_at bs k f) ≡ None → passed gs ≡ passed fs
  pass_on f gs fs k g ek is none =
      included_beyond n bs standing.Include f gs fs k refl g ek
      ∙ ap (λ (x : Option Val). option_or (defined x) (at_name n (context_of f.standing fs))) (sym (from_beyond n bs k f fs (at n bs f.standing fs) (sym none) refl))
      ∙ ap (λ (s : FrameKind). option_or (defined (at n bs s fs)) (at_name n (context_of s fs))) is
      ∙ passed_own fs

pub handed-is : (s : Scopes) (k : ℕ) (n : Name) → handed_at s k n ≡ passed n s.bindings (lower k s.below)
handed-is s k n =
    bound_split n (frame_of standing.Include (lower k s.below)) (above_of s.bindings (lower k s.below)) nothing_set

pub handed-none : (s : Scopes) (n : Name) → None ≡ handed_at s 0 n
handed-none s n = ap (passed n s.bindings) (sym (lower_none s.below)) ∙ sym (handed-is s 0 n)

-- The includer stands below so many frames, and o is what that one has.
module _ (n : Name) (bs : List Binding) (below : List Frame) (k : ℕ) (f : Frame) (some : 0 < k) (le : k ≤ length below) (there : slice_get (reverse below) (k - 1) ≡ Some f) where
  pub pass_down : f.standing ≡ standing.Include → in_variables n (variables_at bs (k - 1) f) ≡ None → passed n bs (lower k below) ≡ passed n bs (lower (k - 1) below)
  pass_down is none =
      let less : k - 1 ≤ length below = omega (arith, le) in
      pass_on n bs f (lower k below) (lower (k - 1) below) (k - 1) (lower_at below k f some there) (lower_length below (k - 1) less) is none

  module _ (o : Option Val) (e : o ≡ bound n (frame_of f.standing (lower (k - 1) below)) (above_of bs (lower (k - 1) below)) (variables_at bs (k - 1) f)) where
    abbrev own : Option Val
    own = at_name n (context_of f.standing (lower (k - 1) below))

    to_includer : (x : Option Val) → x ≡ option_or (defined o) own → x ≡ passed n bs (lower k below)
    to_includer x ex =
        let less : k - 1 ≤ length below = omega (arith, le) in
        ex
        ∙ ap (λ (p : Option Val). option_or (defined p) own) e
        ∙ sym (included_beyond n bs standing.Include f (lower k below) (lower (k - 1) below) (k - 1) refl (lower_at below k f some there) (lower_length below (k - 1) less))

    pub from_context : (x : Option Val) → is_undefined (unwrap_or o undefined) ≡ true → x ≡ own → x ≡ passed n bs (lower k below)
    from_context x u ex = to_includer x (handed_none o own x u ex)

    pub from_includer : is_undefined (unwrap_or o undefined) ≡ false → o ≡ passed n bs (lower k below)
    from_includer u = to_includer o (handed_some o own u)

-- the bodies above one that has nothing but undefined
abbrev pub from_above : Name → List (FrameMeant × Variables) → Option Val
from_above n [] = None
from_above n (u ∷ us) = bound_above n u.0 us u.1

implicit_split : (n : Name) (f : FrameMeant) (us : List (FrameMeant × Variables)) (v : Variables) → bound_above n f us v ≡ option_or (defined (bound n f us v)) (from_above n us)
implicit_split n f [] v = sym (or_none (defined (bound n f [] v)))
implicit_split n f (u ∷ us) v = refl

pub implicit_here : (n : Name) (f : FrameMeant) (us : List (FrameMeant × Variables)) (v : Variables) (o : Option Val) → o ≡ bound n f us v → is_undefined (unwrap_or o undefined) ≡ false → o ≡ bound_above n f us v
implicit_here n f us v o e u = handed_some o (from_above n us) u ∙ ap (λ (p : Option Val). option_or (defined p) (from_above n us)) e ∙ sym (implicit_split n f us v)

pub implicit_above : (n : Name) (f : FrameMeant) (us : List (FrameMeant × Variables)) (v : Variables) (o x : Option Val) → o ≡ bound n f us v → is_undefined (unwrap_or o undefined) ≡ true → x ≡ from_above n us → x ≡ bound_above n f us v
implicit_above n f us v o x e u h = handed_none o (from_above n us) x u h ∙ ap (λ (p : Option Val). option_or (defined p) (from_above n us)) e ∙ sym (implicit_split n f us v)

above_step : (n : Name) (bs : List Binding) (f : Frame) (gs fs : List Frame) (k : ℕ) → gs ≡ f ∷ fs → length fs ≡ k → from_above n (above_of bs gs) ≡ bound_above n (frame_of f.standing fs) (above_of bs fs) (variables_at bs k f)
above_step n bs f gs fs k g ek = ap (λ (hs : List Frame). from_above n (above_of bs hs)) g ∙ ap (λ (j : ℕ). bound_above n (frame_of f.standing fs) (above_of bs fs) (variables_at bs j f)) ek

-- the caller stands below so many frames
pub above_caller : (n : Name) (bs : List Binding) (below : List Frame) (k : ℕ) (f : Frame) → 0 < k → k ≤ length below → slice_get (reverse below) (k - 1) ≡ Some f → from_above n (above_of bs (lower k below)) ≡ bound_above n (frame_of f.standing (lower (k - 1) below)) (above_of bs (lower (k - 1) below)) (variables_at bs (k - 1) f)
above_caller n bs below k f some le there =
    let less : k - 1 ≤ length below = omega (arith, le) in
    above_step n bs f (lower k below) (lower (k - 1) below) (k - 1) (lower_at below k f some there) (lower_length below (k - 1) less)
