use Rattle.std.proofs.Common.{◌≡◌, drop}
use Rattle.std.specs.Option.{option_copied}
use Rattle.tera_syntax_tree.specs.Blocks.{are_distinct}
use Rattle.tera_syntax_tree.specs.Definitions.{has_fit_parameters}
use Rattle.tera_syntax_tree.specs.View.{signature_of}
use Rattle.tera_syntax_expressions.specs.Parts.{signature_names}
use Rattle.tera_syntax_expressions.proofs.parameters.are_few_fit.Given as goal

abbrev pub invariant-loop-at : goal.invariant-loop-at
invariant-loop-at l =
    are_distinct (signature_names (drop l.at l.parameters) (option_copied l.signature.rest))
    ≡ has_fit_parameters (signature_of l.signature)
