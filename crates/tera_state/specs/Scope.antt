-- The variables of a rendering, what a name stands for, and how that changes.
use Rattle.std.specs.Prelude.{ℕ, suc, ◌+◌, ◌&&◌, not, pos, Bool, true, false, nat_eq, cond, List, [], ◌∷◌, length, Option, Some, None, Result, Ok, Err, unwrap_or, codes, bytes_eq}
use Rattle.std.specs.Option.{option_or, is_some}
use Rattle.tera_errors.specs.Fault.{Fault, message}
use Rattle.tera_errors.specs.Site.{Name}
use Rattle.tera_values.specs.Val.{ValOf, undefined, int, bool, map as map_of, entries}
use Rattle.tera_values.specs.Access.{is_undefined}
use Rattle.tera_values.specs.Alphabet.{Alphabet, plain}
use Rattle.tera_values.specs.Named.{Named, at_name, put_all, text_keys}
pub use Rattle.tera_values.specs.Named.{put_all, text_keys}
use Rattle.tera_state.specs.Items.{ItemOf, items_in}

-- values by name, the name that was bound first standing first
abbrev pub BindingsOf : Type 0 → Type 0
BindingsOf C = List (Name × ValOf C)

-- those of texts of bytes, as each type below without `Of`
abbrev pub Bindings : Type 0
Bindings = BindingsOf ℕ

-- binds the name, in place of what it was bound to
abbrev pub bind : {C : Type 0} → Name → ValOf C → BindingsOf C → BindingsOf C
bind n v [] = (n, v) ∷ []
bind n v (b ∷ bs) = cond (bytes_eq n b.0) ((b.0, v) ∷ bs) (b ∷ bind n v bs)

-- a turn of an open loop: its counters, what was set in it, and its value and key by their names
pub record TurnOf (C : Type 0) : Type 0 where
  pub counters : BindingsOf C
  pub sets : BindingsOf C
  pub names : BindingsOf C

abbrev pub Turn : Type 0
Turn = TurnOf ℕ

-- the open turns, the innermost first, and what was set outside of them
pub record VariablesOf (C : Type 0) : Type 0 where
  pub turns : List (TurnOf C)
  pub sets : BindingsOf C

abbrev pub Variables : Type 0
Variables = VariablesOf ℕ

-- a template by itself, an include, which reads its includer, and a component, which reads no one
pub data Kind : Type 0 where
  whole : Kind
  included : Kind
  called : Kind

-- what stays as it is while a body runs
pub record FrameOf (C : Type 0) : Type 0 where
  pub kind : Kind
  pub context : Named (ValOf C)
  pub global : Named (ValOf C)

abbrev pub Frame : Type 0
Frame = FrameOf ℕ

-- the frame of the body that runs, and those above it with their variables, the nearest first
pub record AroundOf (C : Type 0) : Type 0 where
  pub frame : FrameOf C
  pub above : List (FrameOf C × VariablesOf C)

abbrev pub Around : Type 0
Around = AroundOf ℕ

-- what a turn binds the name to
abbrev pub in_turn : {C : Type 0} → Name → TurnOf C → Option (ValOf C)
in_turn n t = option_or (at_name n t.counters) (option_or (at_name n t.sets) (at_name n t.names))

abbrev pub in_turns : {C : Type 0} → Name → List (TurnOf C) → Option (ValOf C)
in_turns n [] = None
in_turns n (t ∷ ts) = option_or (in_turn n t) (in_turns n ts)

abbrev pub in_innermost : {C : Type 0} → Name → List (TurnOf C) → Option (ValOf C)
in_innermost n [] = None
in_innermost n (t ∷ ts) = in_turn n t

abbrev pub in_variables : {C : Type 0} → Name → VariablesOf C → Option (ValOf C)
in_variables n v = option_or (in_turns n v.turns) (at_name n v.sets)

-- the context, and around that the global context
abbrev pub outermost : {C : Type 0} → Name → FrameOf C → Option (ValOf C)
outermost n f = option_or (at_name n f.context) (at_name n f.global)

-- what is bound, unless it is undefined
abbrev pub defined : {C : Type 0} → Option (ValOf C) → Option (ValOf C)
defined None = None
defined (Some v) = cond (is_undefined v) None (Some v)

-- what a body has of the look-up of the one above it
abbrev pub handed_down : {C : Type 0} → Kind → Option (ValOf C) → Option (ValOf C)
handed_down whole o = None
handed_down included o = defined o
handed_down called o = None

-- open turns, set variables, the includer, the context, the global context: the first that binds
-- the name answers
abbrev pub bound : {C : Type 0} → Name → FrameOf C → List (FrameOf C × VariablesOf C)
    → VariablesOf C → Option (ValOf C)
bound n f [] v = option_or (in_variables n v) (outermost n f)
bound n f (u ∷ us) v =
    option_or (in_variables n v)
    (option_or (handed_down f.kind (bound n u.0 us u.1)) (outermost n f))

abbrev pub look : {C : Type 0} → Name → AroundOf C → VariablesOf C → ValOf C
look n around v = unwrap_or (bound n around.frame around.above v) undefined

-- the first in this frame and those above that is not undefined
abbrev pub bound_above : {C : Type 0} → Name → FrameOf C → List (FrameOf C × VariablesOf C)
    → VariablesOf C → Option (ValOf C)
bound_above n f [] v = defined (bound n f [] v)
bound_above n f (u ∷ us) v = option_or (defined (bound n f (u ∷ us) v)) (bound_above n u.0 us u.1)

abbrev pub look_implicit : {C : Type 0} → Name → AroundOf C → VariablesOf C → ValOf C
look_implicit n around v = unwrap_or (bound_above n around.frame around.above v) undefined

-- `set` writes to the innermost turn, or where none is open to the set variables
abbrev pub set_in : {C : Type 0} → List (TurnOf C) → Name → ValOf C → VariablesOf C → VariablesOf C
set_in [] n a v = record v { sets = bind n a v.sets }
set_in (t ∷ ts) n a v = record v { turns = record t { sets = bind n a t.sets } ∷ ts }

abbrev pub set_variable : {C : Type 0} → Name → ValOf C → VariablesOf C → VariablesOf C
set_variable n a v = set_in v.turns n a v

-- `set_global` writes to the set variables
abbrev pub set_global : {C : Type 0} → Name → ValOf C → VariablesOf C → VariablesOf C
set_global n a v = record v { sets = bind n a v.sets }

-- `set_global` where the flag is up, else `set`
abbrev pub assign : {C : Type 0} → Bool → Name → ValOf C → VariablesOf C → VariablesOf C
assign true n a v = set_global n a v
assign false n a v = set_variable n a v

abbrev pub open_turn : {C : Type 0} → TurnOf C → VariablesOf C → VariablesOf C
open_turn t v = record v { turns = t ∷ v.turns }

abbrev pub inner_turns : {C : Type 0} → List (TurnOf C) → List (TurnOf C)
inner_turns [] = []
inner_turns (t ∷ ts) = ts

-- the innermost turn is over
abbrev pub close_turn : {C : Type 0} → VariablesOf C → VariablesOf C
close_turn v = record v { turns = inner_turns v.turns }

-- the counters of a turn, of so many in all, after this many
abbrev pub counters : {C : Type 0} → ℕ → ℕ → BindingsOf C
counters size index =
    (codes "__tera_loop_index", int (pos (index + 1)))
    ∷ (codes "__tera_loop_index0", int (pos index))
    ∷ (codes "__tera_loop_first", bool (nat_eq index 0))
    ∷ (codes "__tera_loop_last", bool (nat_eq (index + 1) size))
    ∷ (codes "__tera_loop_length", int (pos size)) ∷ []

-- the names of a turn: that of the value, then that of the key
abbrev pub named_item : {C : Type 0} → Option Name → Name → ItemOf C → BindingsOf C
named_item (Some key) name (Some k, v) = (name, v) ∷ (key, k) ∷ []
named_item (Some key) name (None, v) = (name, v) ∷ []
named_item None name i = (name, i.1) ∷ []

-- what a loop calls its items, and whether it counts: a comprehension does not
pub record Heading : Type 0 where
  pub name : Name
  pub key : Option Name
  pub counts : Bool

-- a fresh turn
abbrev pub turn : {C : Type 0} → Heading → ℕ → ℕ → ItemOf C → TurnOf C
turn h size index i =
    record {
      counters = cond h.counts (counters size index) [];
      sets = [];
      names = named_item h.key h.name i;
    }

abbrev pub turns_from : {C : Type 0} → Heading → ℕ → ℕ → List (ItemOf C) → List (TurnOf C)
turns_from h size index [] = []
turns_from h size index (i ∷ is) = turn h size index i ∷ turns_from h size (suc index) is

abbrev pub is_map : {C : Type 0} → ValOf C → Bool
is_map (map_of es) = true
is_map v = false

-- the turns of a loop over the items, which with a key must be those of a map
abbrev pub turns_over : {C : Type 0} → Heading → Option (List (ItemOf C))
    → Result (List (TurnOf C)) Fault
turns_over h None = Err message
turns_over h (Some is) = Ok (turns_from h (length is) 0 is)

abbrev pub loop_turns_in : {C : Type 0} → Alphabet C → Heading → ValOf C
    → Result (List (TurnOf C)) Fault
loop_turns_in a h v =
    cond (is_some h.key && not (is_map v)) (Err message) (turns_over h (items_in a v))

abbrev pub loop_turns : Heading → ValOf ℕ → Result (List (TurnOf ℕ)) Fault
loop_turns = loop_turns_in plain

-- a body that has bound nothing yet
abbrev pub nothing_set : {C : Type 0} → VariablesOf C
nothing_set = record { turns = []; sets = [] }

-- around the body of a template, of an include and of a component
abbrev pub outside : {C : Type 0} → Named (ValOf C) → Named (ValOf C) → AroundOf C
outside context global =
    record { frame = record { kind = whole; context = context; global = global }; above = [] }

abbrev pub in_include : {C : Type 0} → AroundOf C → VariablesOf C → AroundOf C
in_include around v =
    record {
      frame = record { kind = included; context = around.frame.context; global = [] };
      above = (around.frame, v) ∷ around.above;
    }

abbrev pub in_component : {C : Type 0} → Named (ValOf C) → AroundOf C → VariablesOf C → AroundOf C
in_component context around v =
    record {
      frame = record { kind = called; context = context; global = [] };
      above = (around.frame, v) ∷ around.above;
    }

-- what is set in the turns, that of inner ones over that of outer ones
abbrev pub put_turns : {C : Type 0} → List (TurnOf C) → Named (ValOf C) → Named (ValOf C)
put_turns [] m = m
put_turns (t ∷ ts) m = put_all t.sets (put_turns ts m)

abbrev pub dumped : {C : Type 0} → AroundOf C → VariablesOf C → Named (ValOf C)
dumped around v =
    put_turns v.turns (put_all v.sets (put_all around.frame.context around.frame.global))

-- `__tera_context`: what this state alone binds, in byte order of the names
abbrev pub dump : {C : Type 0} → AroundOf C → VariablesOf C → ValOf C
dump around v = map_of (entries (text_keys (dumped around v)))
