use Rattle.std.proofs.Common.{◌≡◌, drop}
use Rattle.std.specs.Option.{option_copied}
use Rattle.tera_syntax_tree.specs.Definitions.{has_fit_parameters}
use Rattle.tera_syntax_tree.specs.View.{signature_of}
use Rattle.tera_syntax_expressions.specs.Parts.{signature_names}
use Rattle.tera_syntax_expressions.proofs.Beside.{are_new, has}
use Rattle.tera_syntax_expressions.proofs.parameters.are_many_fit.Given as goal

abbrev pub invariant-loop-parameter : goal.invariant-loop-parameter
invariant-loop-parameter l =
    are_new (has l.seen) (signature_names (drop l.parameter-index l.parameter-items) (option_copied l.signature.rest))
    ≡ has_fit_parameters (signature_of l.signature)
