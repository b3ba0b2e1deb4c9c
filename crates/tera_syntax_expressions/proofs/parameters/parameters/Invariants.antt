use Rattle.std.proofs.Common.{◌≡◌, ◌-◌, [], map}
use Rattle.tera_syntax_tree.specs.View.{parameter_of}
use Rattle.tera_syntax_tokens.specs.Input.{left}
use Rattle.tera_syntax_tokens.specs.Takes.{input}
use Rattle.tera_syntax_expressions.specs.Parameters.{parameters_from}
use Rattle.tera_syntax_expressions.proofs.parameters.parameters.Given as goal

abbrev pub invariant-loop-round : goal.invariant-loop-round
invariant-loop-round l = parameters_from l.limit (left (input l.fn.tokens)) [] (input l.fn.tokens)
    ≡ parameters_from l.limit (l._round-end - l._round) (map parameter_of l.found.items) (input l.tokens)
