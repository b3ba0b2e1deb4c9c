use Rattle.std.proofs.Common.{IfSome, ◌∙◌, sym, subst}
use Rattle.tera_syntax_tree.specs.Inside.{Within}
use Rattle.tera_syntax.proofs.Doubled.{within-again}
use Rattle.tera_syntax.proofs.blocks.refuse_repeats.Goals as goal

pub returns-in-Some-clause-points : goal.returns-in-Some-clause-points
returns-in-Some-clause-points c size inside = subst (λ o. IfSome o (Within size)) (sym c.in_ok-first_repeat.ensures.ok ∙ c.in-Some.is) (within-again size c.args.names.now inside)
