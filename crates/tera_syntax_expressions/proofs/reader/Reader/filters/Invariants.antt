use Rattle.std.proofs.Common.{◌≡◌, ◌-◌}
use Rattle.tera_syntax_tree.specs.Tree.{NoFilters}
use Rattle.tera_syntax_tree.specs.View.{filters_of}
use Rattle.tera_syntax_tokens.specs.Input.{left}
use Rattle.tera_syntax_tokens.specs.Takes.{input}
use Rattle.tera_syntax_expressions.specs.Expressions.{filters_from, expr}
use Rattle.tera_syntax_expressions.proofs.reader.Reader.filters.Given as goal

abbrev pub invariant-loop-round : goal.invariant-loop-round
invariant-loop-round g l = filters_from l.self.limit (expr l.self.below) (left (input l.fn.tokens)) NoFilters 0 (input l.fn.tokens)
    ≡ filters_from l.self.limit (expr l.self.below) (l._round-end - l._round) (filters_of l.found.items) l.depth (input l.tokens)
