use Rattle.std.proofs.Common.{◌≡◌, ◌-◌}
use Rattle.tera_syntax_tree.specs.View.{items_of}
use Rattle.tera_syntax_tokens.specs.Input.{left}
use Rattle.tera_syntax_tokens.specs.Takes.{input}
use Rattle.tera_syntax_expressions.specs.Expressions.{items_from, expr}
use Rattle.tera_syntax_expressions.proofs.reader.Reader.items.Given as goal

abbrev pub invariant-loop-round : goal.invariant-loop-round
invariant-loop-round g l = items_from l.self.limit (expr l.self.below) (left (input l.fn.tokens)) (items_of l.fn.all.items) l.fn.depth (input l.fn.tokens)
    ≡ items_from l.self.limit (expr l.self.below) (l._round-end - l._round) (items_of l.found.items) l.depth (input l.tokens)
