use Rattle.std.proofs.Common.{◌≡◌, ◌++◌, drop}
use Rattle.tera_syntax_tree.specs.View.{arguments_of}
use Rattle.tera_code.specs.Code.{argument_names}
use Rattle.tera_code.proofs.calls.argument_names.Given as goal

abbrev pub invariant-loop-argument : goal.invariant-loop-argument
invariant-loop-argument l =
    l.names.items ++ argument_names (arguments_of (drop l.argument-index l.arguments)) ≡ argument_names (arguments_of l.arguments)
