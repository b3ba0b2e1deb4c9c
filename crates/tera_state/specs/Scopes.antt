-- What the frames and the list of bindings stand for.
use Rattle.std.specs.Prelude.{◌≡◌, ℕ, Bool, true, false, List, [], ◌∷◌, Option, None, length, map}
use Rattle.tera_errors.specs.Site.{Name}
use Rattle.tera_values.specs.Val.{Val}
use Rattle.tera_values.specs.Named.{Named}
use Rattle.tera_state.specs.Scope.{bound, bound_above, in_variables, nothing_set, open_turn, close_turn, Turn, Variables, Around, Kind, whole, included, called, Frame as FrameMeant}
use Rattle.tera_state.specs.Bound.{layer_of}
use Rattle.tera_state.specs.Stack.{lower}
use Rattle.tera_state.specs.Opened.{turns_of, to_come}
use Rattle.tera_state.specs.declared.bindings.Binding.{Binding}
use Rattle.tera_state.specs.declared.frame.Frame.{Frame}
use Rattle.tera_state.specs.declared.frame.FrameKind.{FrameKind}
use Rattle.tera_state.specs.declared.frame.FrameKind.TheVariants as standing
use Rattle.tera_state.specs.declared.scopes.Scopes.{Scopes}

-- a body with no open loop
abbrev pub begun : FrameKind → Frame
begun s = record { standing = s; loops = [] }

abbrev pub variables_at : List Binding → ℕ → Frame → Variables
variables_at bs k f = record { turns = turns_of bs k f.loops; sets = layer_of bs k 0 }

abbrev pub kind_of : FrameKind → Kind
kind_of (standing.Template c) = whole
kind_of standing.Include = included
kind_of (standing.Component c) = called

-- an include has its includer's context
abbrev pub own_context : FrameKind → Named Val → Named Val
own_context (standing.Template c) above = c.0
own_context standing.Include above = above
own_context (standing.Component c) above = c

abbrev pub own_global : FrameKind → Named Val
own_global (standing.Template c) = c.1
own_global standing.Include = []
own_global (standing.Component c) = []

abbrev pub context_of : FrameKind → List Frame → Named Val
context_of s [] = own_context s []
context_of s (f ∷ fs) = own_context s (context_of f.standing fs)

abbrev pub frame_of : FrameKind → List Frame → FrameMeant
frame_of s below = record { kind = kind_of s; context = context_of s below; global = own_global s }

-- a frame's number is how many are below it
abbrev pub above_of : List Binding → List Frame → List (FrameMeant × Variables)
above_of bs [] = []
above_of bs (f ∷ fs) = (frame_of f.standing fs, variables_at bs (length fs) f) ∷ above_of bs fs

abbrev pub variables_of : Scopes → Variables
variables_of s = variables_at s.bindings (length s.below) s.frame

abbrev pub around_of : Scopes → Around
around_of s =
    record { frame = frame_of s.frame.standing s.below; above = above_of s.bindings s.below }

-- what a name stands for in a body with so many frames below it, and in that or one above it
abbrev pub bound_at : Scopes → ℕ → Frame → Name → Option Val
bound_at s k f n =
    bound n (frame_of f.standing (lower k s.below)) (above_of s.bindings (lower k s.below))
    (variables_at s.bindings k f)

abbrev pub bound_above_at : Scopes → ℕ → Frame → Name → Option Val
bound_above_at s k f n =
    bound_above n (frame_of f.standing (lower k s.below)) (above_of s.bindings (lower k s.below))
    (variables_at s.bindings k f)

-- such a body is an include that binds nothing of the name, and so passes it on
abbrev pub PassesOn : Scopes → ℕ → Frame → Name → Type 0
PassesOn s k f n =
    (f.standing ≡ standing.Include) × (in_variables n (variables_at s.bindings k f) ≡ None)

-- what one with so many frames below it is handed down
abbrev pub handed_at : Scopes → ℕ → Name → Option Val
handed_at s k n =
    bound n (frame_of standing.Include (lower k s.below)) (above_of s.bindings (lower k s.below))
    nothing_set

-- the turns that are still to come of each open loop, the innermost loop first
abbrev pub coming_of : Scopes → List (List Turn)
coming_of s = map to_come s.frame.loops

-- the same for the bodies around, the nearest first
abbrev pub coming_around : Scopes → List (List (List Turn))
coming_around s = map (λ f. map to_come f.loops) s.below

-- the innermost loop's next turn is opened in the place of its last, or nothing changes where it
-- has none
abbrev pub GoesRound : Bool → List (List Turn) → Variables → List (List Turn) → Variables → Type 0
GoesRound more [] v coming v' = (more ≡ false) × (coming ≡ []) × (v' ≡ v)
GoesRound more ([] ∷ outer) v coming v' = (more ≡ false) × (coming ≡ [] ∷ outer) × (v' ≡ v)
GoesRound more ((t ∷ ts) ∷ outer) v coming v' =
    (more ≡ true) × (coming ≡ ts ∷ outer) × (v' ≡ open_turn t (close_turn v))

abbrev pub TakesTurn : Bool → Scopes → Scopes → Type 0
TakesTurn more old new =
    GoesRound more (coming_of old) (variables_of old) (coming_of new) (variables_of new)
