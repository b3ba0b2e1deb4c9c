use Rattle.std.proofs.Common.{◌≡◌, ◌-◌}
use Rattle.tera_syntax_tree.specs.Tree.{NoArguments}
use Rattle.tera_syntax_tree.specs.View.{arguments_of}
use Rattle.tera_syntax_tokens.specs.Input.{left}
use Rattle.tera_syntax_tokens.specs.Takes.{input}
use Rattle.tera_syntax_expressions.specs.Expressions.{arguments_from, expr}
use Rattle.tera_syntax_expressions.proofs.reader.Reader.few_arguments.Given as goal

abbrev pub invariant-loop-round : goal.invariant-loop-round
invariant-loop-round g l = arguments_from l.self.limit (expr l.self.below) (left (input l.fn.tokens)) NoArguments 0 (input l.fn.tokens)
    ≡ arguments_from l.self.limit (expr l.self.below) (l._round-end - l._round) (arguments_of l.found.items) l.depth (input l.tokens)
