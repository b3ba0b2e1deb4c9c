use Rattle.tera_syntax_tree.specs.View.{filters_of}
use Rattle.tera_syntax_tokens.specs.declared.token.Kind.TheVariants.{Bar}
use Rattle.tera_syntax_tokens.specs.Input.{same}
use Rattle.tera_syntax_tokens.specs.Takes.{input}
use Rattle.tera_syntax_expressions.specs.Expressions.{expr}
use Rattle.tera_syntax_expressions.proofs.Rounds.{tested-not, refused}
use Rattle.tera_syntax_expressions.proofs.FilterRows.{filters_round, filters_more, filters_over}
use Rattle.tera_syntax_expressions.proofs.reader.Reader.filters.Goals as goal

pub returns-in-Err : goal.returns-in-Err
returns-in-Err g c = refused c.in-Err.refusal (filters_round c.args.self.now.limit (expr c.args.self.now.below) _ _ (filters_of c.loop-round.found.items) c.loop-round.depth (input c.loop-round.tokens) c.loop-round-test.true c.loop-round.invariant) c.in-Err.ensures

pub loop-round-preserved : goal.loop-round-preserved
loop-round-preserved g c = filters_more c.args.self.now.limit (expr c.args.self.now.below) _ _ (filters_of c.loop-round.found.items) c.loop-round.depth (input c.loop-round.tokens) c.loop-round-test.true c.loop-round.invariant
    c.in-Ok.ensures (tested-not (same Bar) c.kind.ensures c.ne.ensures c.if-ne.false) c.max-depth.ensures c.take.ensures

pub returns-then-ne : goal.returns-then-ne
returns-then-ne g c = filters_over c.args.self.now.limit (expr c.args.self.now.below) _ _ (filters_of c.loop-round.found.items) c.loop-round.depth (input c.loop-round.tokens) c.loop-round-test.true c.loop-round.invariant
    c.in-Ok.ensures (tested-not (same Bar) c.kind.ensures c.ne.ensures c.if-ne.true) c.max-depth.ensures
