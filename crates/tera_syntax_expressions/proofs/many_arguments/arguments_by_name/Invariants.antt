use Rattle.std.proofs.Common.{◌≡◌}
use Rattle.tera_syntax_expressions.specs.Parts.{named_arguments}
use Rattle.tera_syntax_expressions.proofs.ByName.{joined}
use Rattle.tera_syntax_expressions.proofs.many_arguments.arguments_by_name.Given as goal

abbrev pub invariant-loop-name : goal.invariant-loop-name
invariant-loop-name l = joined l.all.items l.name-iterator ≡ named_arguments l.fn.found.entries
