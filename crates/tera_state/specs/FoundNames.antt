-- The finite map of the names that a look-up finds.
use Rattle.std.specs.Prelude.{◌≡◌, List, [], ◌∷◌, ◌++◌, map, flat_map, Some, if◌then◌else◌}
use Rattle.tera_errors.specs.Site.{Name}
use Rattle.tera_values.specs.Val.{Val}
use Rattle.tera_values.specs.Access.{is_undefined}
use Rattle.tera_values.specs.Named.{Named, at_name, put, IsAscending}
use Rattle.tera_state.specs.Scope.{Around, Bindings, Frame, Turn, Variables, defined, look}

abbrev pub names_in : Bindings → List Name
names_in bs = map (λ b. b.0) bs

abbrev pub turn_names : Turn → List Name
turn_names t = names_in t.counters ++ names_in t.sets ++ names_in t.names

abbrev pub variable_names : Variables → List Name
variable_names v = flat_map turn_names v.turns ++ names_in v.sets

abbrev pub frame_names : Frame → List Name
frame_names f = names_in f.context ++ names_in f.global

abbrev pub body_names : Frame × Variables → List Name
body_names u = variable_names u.1 ++ frame_names u.0

-- all names that are bound in a body or in one above it
abbrev pub bound_names : Around → Variables → List Name
bound_names around v = body_names (around.frame, v) ++ flat_map body_names around.above

-- those of the names that stand for something, each with what it stands for
abbrev pub found_among : (Name → Val) → List Name → Named Val
found_among look_up [] = []
found_among look_up (n ∷ ns) =
    if is_undefined (look_up n) then found_among look_up ns
    else put n (look_up n) (found_among look_up ns)

-- the names to which the look-up gives a value that is not undefined, each with that value
abbrev pub found_names : Around → Variables → Named Val
found_names around v = found_among (λ n. look n around v) (bound_names around v)

-- the map gives to each name what the look-up gives, if that is not undefined, and has each name
-- once
pub record IsMapOf (look_up : Name → Val) (names : Named Val) : Type 0 where
  pub finds : (n : Name) → at_name n names ≡ defined (Some (look_up n))
  pub ascends : IsAscending names
