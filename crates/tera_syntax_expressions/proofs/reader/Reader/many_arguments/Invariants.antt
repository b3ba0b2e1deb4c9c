use Rattle.std.proofs.Common.{◌≡◌, ◌-◌}
use Rattle.std.specs.BTreeMap.{IsOrdered}
use Rattle.tera_syntax_tree.specs.Tree.{NoArguments}
use Rattle.tera_syntax_tokens.specs.Input.{left}
use Rattle.tera_syntax_tokens.specs.Takes.{input}
use Rattle.tera_syntax_expressions.specs.Expressions.{arguments_from, expr}
use Rattle.tera_syntax_expressions.specs.Parts.{by_name, named_arguments}
use Rattle.tera_syntax_expressions.proofs.reader.Reader.many_arguments.Given as goal

abbrev pub invariant-loop-round : goal.invariant-loop-round
invariant-loop-round g l = record {
  ordered : IsOrdered by_name l.found;
  read : arguments_from l.self.limit (expr l.self.below) (left (input l.fn.tokens)) NoArguments 0 (input l.fn.tokens)
      ≡ arguments_from l.self.limit (expr l.self.below) (l._round-end - l._round) (named_arguments l.found.entries) l.depth (input l.tokens);
}
