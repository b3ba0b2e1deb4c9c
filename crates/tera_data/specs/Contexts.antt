-- What an object of JSON is as a context.
use Rattle.std.specs.Prelude.{[], Result, Ok, Err}
use Rattle.json.specs.Json.{Json, null, boolean, number, string, array as list, object, Members}
use Rattle.tera_errors.specs.Prelude.{Fault, message, Text}
use Rattle.tera_value_types.specs.Val.{Val}
use Rattle.tera_values.specs.Named.{Named, put_all}
use Rattle.tera_data.specs.Values.{then, of_members, read}
use Rattle.tera_data.specs.declared.number.Floats.{Floats}

-- the members' values by name: of two with one name the later one
abbrev pub named : Floats → Members → Result (Named Val) Fault
named f ms = then (of_members f ms) (λ vs. Ok (put_all vs []))

-- of an object; nothing else has names
abbrev pub of_object : Floats → Json → Result (Named Val) Fault
of_object f null = Err message
of_object f (boolean b) = Err message
of_object f (number t) = Err message
of_object f (string t) = Err message
of_object f (list js) = Err message
of_object f (object ms) = named f ms

-- the context that a text spells
abbrev pub context_in : Floats → Text → Result (Named Val) Fault
context_in f t = then (read t) (of_object f)

-- what is meant, put over what is there name by name
abbrev pub over : Named Val → Result (Named Val) Fault → Result (Named Val) Fault
over old meant = then meant (λ new. Ok (put_all new old))
