use Rattle.std.proofs.Common.{◌≡◌, ◌-◌}
use Rattle.tera_syntax_tree.specs.Tree.{NoEntries}
use Rattle.tera_syntax_tree.specs.View.{entries_of}
use Rattle.tera_syntax_tokens.specs.Input.{left}
use Rattle.tera_syntax_tokens.specs.Takes.{input}
use Rattle.tera_syntax_expressions.specs.Expressions.{attributes_from, expr}
use Rattle.tera_syntax_expressions.proofs.reader.Reader.attributes.Given as goal

abbrev pub invariant-loop-round : goal.invariant-loop-round
invariant-loop-round g l = attributes_from l.self.limit (expr l.self.below) (left (input l.fn.tokens)) NoEntries 0 (input l.fn.tokens)
    ≡ attributes_from l.self.limit (expr l.self.below) (l._round-end - l._round) (entries_of l.found.items) l.depth (input l.tokens)
