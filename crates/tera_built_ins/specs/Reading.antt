-- What a text that is read as an argument stands for.
use Rattle.tera_built_ins.specs.Arguments.{Given}
use Rattle.tera_built_ins.specs.declared.arguments.Given as declared

abbrev pub given_of : declared.Given → Given
given_of g = record { text = g.text.now; safe = g.is_safe }
