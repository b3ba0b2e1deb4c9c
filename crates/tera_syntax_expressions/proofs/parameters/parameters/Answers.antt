use Rattle.std.proofs.Common.{map}
use Rattle.tera_syntax_tree.specs.View.{parameter_of}
use Rattle.tera_syntax_tokens.specs.declared.token.Kind.TheVariants.{Spread, Comma}
use Rattle.tera_syntax_tokens.specs.Input.{same}
use Rattle.tera_syntax_tokens.specs.Takes.{input}
use Rattle.tera_syntax_expressions.proofs.ParameterRows.{with_none, with_read, parameters_last, parameters_round, parameters_more, parameters_over}
use Rattle.tera_syntax_expressions.proofs.Rounds.{tested, tested-not, refused}
use Rattle.tera_syntax_expressions.proofs.parameters.parameters.Goals as goal

pub returns-in-Ok : goal.returns-in-Ok
returns-in-Ok c = parameters_last c.args.limit _ _ (map parameter_of c.loop-round.found.items) (input c.loop-round.tokens) c.loop-round-test.true c.loop-round.invariant (tested (same Spread) c.kind.ensures c.eq.ensures c.if-eq.true) c.take.ensures c.in-Ok.ensures

pub returns-in-Err : goal.returns-in-Err
returns-in-Err c = refused c.in-Err.refusal (parameters_last c.args.limit _ _ (map parameter_of c.loop-round.found.items) (input c.loop-round.tokens) c.loop-round-test.true c.loop-round.invariant (tested (same Spread) c.kind.ensures c.eq.ensures c.if-eq.true) c.take.ensures) c.in-Err.ensures

pub returns-in-Err-parameter : goal.returns-in-Err-parameter
returns-in-Err-parameter c = refused c.in-Err-parameter.refusal (λ none. parameters_round c.args.limit _ _ (map parameter_of c.loop-round.found.items) (input c.loop-round.tokens) c.loop-round-test.true c.loop-round.invariant (tested (same Spread) c.kind.ensures c.eq.ensures c.if-eq.false)
    (with_none c.args.limit (map parameter_of c.loop-round.found.items) (input c.loop-round.tokens) none)) c.in-Err-parameter.ensures

pub returns-then-ne : goal.returns-then-ne
returns-then-ne c = parameters_over c.args.limit _ _ (map parameter_of c.loop-round.found.items) (input c.loop-round.tokens) c.loop-round-test.true c.loop-round.invariant (tested (same Spread) c.kind.ensures c.eq.ensures c.if-eq.false)
    (with_read c.args.limit c.loop-round.found.items c.in-Ok-parameter.parameter (input c.loop-round.tokens) c.in-Ok-parameter.ensures c.in_ok-push.ensures.items) (tested-not (same Comma) c.kind-in-loop-round.ensures c.ne.ensures c.if-ne.true)

pub loop-round-preserved : goal.loop-round-preserved
loop-round-preserved c = parameters_more c.args.limit _ _ (map parameter_of c.loop-round.found.items) (input c.loop-round.tokens) c.loop-round-test.true c.loop-round.invariant (tested (same Spread) c.kind.ensures c.eq.ensures c.if-eq.false)
    (with_read c.args.limit c.loop-round.found.items c.in-Ok-parameter.parameter (input c.loop-round.tokens) c.in-Ok-parameter.ensures c.in_ok-push.ensures.items) (tested-not (same Comma) c.kind-in-loop-round.ensures c.ne.ensures c.if-ne.false) c.take-in-loop-round.ensures
