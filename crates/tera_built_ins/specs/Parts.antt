-- Answers that are safe where one of the texts that they are made of is.
use Rattle.std.specs.Prelude.{Bool, false, List, ◌&&◌, not, Option, Some, None, if◌then◌else◌}
use Rattle.tera_values.specs.Alphabet.{Alphabet}
use Rattle.tera_built_ins.specs.Arguments.{GivenOf}
use Rattle.tera_built_ins.specs.Escaping.{Escaping, escape_of}

-- a text as it goes into an answer: into a safe one its escape, unless it is safe itself
abbrev pub part : {C : Type 0} → Alphabet C → Escaping → Bool → GivenOf C → List C
part alphabet view safe g = if safe && not g.safe then escape_of alphabet view g.text else g.text

-- what is left out is not safe
abbrev pub given_safe : {C : Type 0} → Option (GivenOf C) → Bool
given_safe None = false
given_safe (Some g) = g.safe
