-- What an open loop stands for.
use Rattle.std.specs.Prelude.{◌≡◌, ℕ, suc, pos, Bool, true, false, cond, List, [], ◌∷◌, Option, Some, None, Result, Ok, Err, length, drop, slice_get, map, not, ◌&&◌}
use Rattle.tera_values.specs.Val.{Val, int, bytes, array, map as map_of, list_of}
use Rattle.tera_values.specs.Access.{pairs}
use Rattle.tera_state.specs.FoundValue.{key_as_value}
use Rattle.tera_errors.specs.Fault.{Fault, message}
use Rattle.tera_errors.specs.Site.{Name}
use Rattle.tera_state.specs.Items.{Item, items, unkeyed}
use Rattle.tera_state.specs.Scope.{is_map, Bindings, Turn, Heading, counters, named_item, turns_from}
use Rattle.tera_state.specs.Bound.{layer_of}
use Rattle.tera_state.specs.declared.bindings.Binding.{Binding}
use Rattle.tera_state.specs.declared.loops.ForLoop.{ForLoop}

abbrev pub heading : Name → Option Name → Bool → Heading
heading name key counts = record { name = name; key = key; counts = counts }

abbrev pub heading_of : ForLoop → Heading
heading_of l = heading l.name l.key l.counts

-- what is gone over; a text was made an array before
abbrev pub walked : Val → List Item
walked (array vs) = unkeyed (list_of vs)
walked (map_of es) = map (λ e. (Some (key_as_value e.0), e.1)) (pairs es)
walked (bytes t) = unkeyed (map (λ b. int (pos b)) t)
walked v = []

abbrev pub items_of : ForLoop → List Item
items_of l = walked l.items

abbrev pub item_at : ForLoop → Option Item
item_at l = slice_get (items_of l) l.index

abbrev pub names_of : Heading → Option Item → Bindings
names_of h None = []
names_of h (Some i) = named_item h.key h.name i

-- the names that the loop binds at its turn, and what it counts there
abbrev pub names_at : ForLoop → Bindings
names_at l = names_of (heading_of l) (item_at l)

abbrev pub counters_of : ForLoop → Bindings
counters_of l = cond l.counts (counters (length (items_of l)) l.index) []

-- the turn that the loop is at, with what was set in it
abbrev pub turn_of : Bindings → ForLoop → Turn
turn_of sets l =
    record { counters = counters_of l; sets = sets; names = names_at l }

-- the turns that are still to come
abbrev pub to_come : ForLoop → List Turn
to_come l =
    turns_from (heading_of l) (length (items_of l)) (suc l.index) (drop (suc l.index) (items_of l))

abbrev pub value_at : Option Item → Option Val
value_at None = None
value_at (Some i) = Some i.1

abbrev pub key_at : Option Item → Option Val
key_at None = None
key_at (Some i) = i.0

-- the items of a loop over the value, which with a key must be a map
abbrev pub given : Option (List Item) → Result (List Item) Fault
given None = Err message
given (Some is) = Ok is

abbrev pub items_for : Bool → Val → Result (List Item) Fault
items_for is_keyed v = cond (is_keyed && not (is_map v)) (Err message) (given (items v))

-- the items of a loop that may be open, from that at which it stands
abbrev pub items_over : Option ForLoop → List Item
items_over None = []
items_over (Some l) = drop l.index (items_of l)

-- the turns of a loop that may be open, that at which it stands first
abbrev pub turns_left : Option ForLoop → List Turn
turns_left None = []
turns_left (Some l) = turn_of [] l ∷ to_come l

-- how the loop goes on: to its next turn, or nowhere where that was the last
abbrev pub GoesOn : Bool → ForLoop → ForLoop → Type 0
GoesOn true old new = to_come old ≡ turn_of [] new ∷ to_come new
GoesOn false old new = (to_come old ≡ []) × (new ≡ old)

-- a loop's layer is how many are open up to it; the set variables are layer 0
abbrev pub turns_of : List Binding → ℕ → List ForLoop → List Turn
turns_of bs f [] = []
turns_of bs f (l ∷ ls) = turn_of (layer_of bs f (suc (length ls))) l ∷ turns_of bs f ls

-- the open loops, where the innermost stands apart
abbrev pub opened : Option ForLoop → List ForLoop → List ForLoop
opened None around = around
opened (Some l) around = l ∷ around

-- without an innermost loop there is none
abbrev pub IsNested : Option ForLoop → List ForLoop → Type 0
IsNested None around = around ≡ []
IsNested (Some l) around = Unit {0}

-- how the innermost of the open loops goes on
abbrev pub InnermostGoesOn : Bool → List ForLoop → List ForLoop → Type 0
InnermostGoesOn more [] new = (more ≡ false) × (new ≡ [])
InnermostGoesOn more (l ∷ ls) new = (l' : ForLoop) × (new ≡ l' ∷ ls) × GoesOn more l l'
