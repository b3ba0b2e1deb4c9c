use Rattle.std.proofs.Common.{rules, Ok, ap, ◌∙◌}
use Rattle.tera_operators.proofs.InPlace.{binary_of-made}
use Rattle.tera_operators.proofs.in_place.binary_in_place.Goals as goal

pub returns-in-Some-clause-settled : goal.returns-in-Some-clause-settled
returns-in-Some-clause-settled c file span =
    binary_of-made c.args.operator _ _ _ c.args.left.now c.args.right.now c.in-Some.ensures (search rules) (search rules) file span ∙ ap Ok (search rules)
