use Rattle.std.proofs.Common.{◌≡◌, vec_len}
use Rattle.tera_syntax.specs.Reader as spec
use Rattle.tera_syntax.specs.View.{statements_of}
use Rattle.tera_syntax_tree.specs.View.{nodes_of}
use Rattle.tera_syntax.proofs.open_statements.OpenStatements.close_chain.Given as goal

abbrev pub invariant-loop-statement : goal.invariant-loop-statement
invariant-loop-statement l = spec.closed (statements_of l.initial.self.statements.items) (nodes_of l.initial.self.found.items) ≡ spec.closed (statements_of l.self.statements.items) (nodes_of l.self.found.items)

abbrev pub decreases-loop-statement : goal.decreases-loop-statement
decreases-loop-statement l = vec_len l.self.statements
