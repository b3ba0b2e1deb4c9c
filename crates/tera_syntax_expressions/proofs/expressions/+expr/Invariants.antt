use Rattle.tera_syntax_expressions.proofs.expressions.+expr.Given as goal

abbrev pub decreases-expr : goal.decreases-expr
decreases-expr l = l.limit
