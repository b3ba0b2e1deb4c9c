use Rattle.std.proofs.Common.{◌≡◌, drop}
use Rattle.std.specs.Option.{option_copied}
use Rattle.tera_syntax_tree.specs.Blocks.{is_among}
use Rattle.tera_syntax_expressions.specs.Parts.{signature_names}
use Rattle.tera_syntax_expressions.proofs.parameters.is_taken.Given as goal

abbrev pub invariant-loop-parameter : goal.invariant-loop-parameter
invariant-loop-parameter l =
    is_among l.name (signature_names l.parameters (option_copied l.rest))
    ≡ is_among l.name (signature_names (drop l.parameter-index l.parameters) (option_copied l.rest))
