use Rattle.std.proofs.Common.{ap, arith}
use Rattle.std.proofs.lemmas.Grind.{common_steps}
use Rattle.tera_syntax_tree.proofs.variables.expressions.add_filters.Goals as goal

pub loop-filter-preserved : goal.loop-filter-preserved
loop-filter-preserved c = λ n. grind (arith, common_steps, ap (λ names. names n) c.in_ok-add_arguments.ensures)
