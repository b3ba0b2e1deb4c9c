use Rattle.std.proofs.Common.{◌≡◌, drop}
use Rattle.tera_syntax_tree.specs.View.{arguments_of}
use Rattle.tera_syntax_expressions.specs.Parts.{position_of}
use Rattle.tera_syntax_expressions.proofs.Placed.{from}
use Rattle.tera_syntax_expressions.proofs.arguments.position.Given as goal

abbrev pub invariant-loop-argument : goal.invariant-loop-argument
invariant-loop-argument l = record {
  counted : l.at ≡ l.argument-index;
  placed : position_of l.name (arguments_of l.found) ≡ from l.at (position_of l.name (arguments_of (drop l.at l.found)));
}
