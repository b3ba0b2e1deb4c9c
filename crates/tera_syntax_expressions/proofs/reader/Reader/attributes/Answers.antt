use Rattle.std.proofs.Common.{◌-◌, ◌+◌, ap, sym, ◌∙◌}
use Rattle.tera_syntax_tree.specs.View.{entries_of}
use Rattle.tera_syntax_tokens.specs.Takes.{input}
use Rattle.tera_syntax_expressions.specs.Arguments.{begins_attribute}
use Rattle.tera_syntax_expressions.specs.Expressions.{attributes_from, expr}
use Rattle.tera_syntax_expressions.proofs.Rounds.{tested, refused}
use Rattle.tera_syntax_expressions.proofs.AttributeRows.{attributes-round, attributes-stop}
use Rattle.tera_syntax_expressions.proofs.reader.Reader.attributes.Goals as goal

pub returns-then-not-begins_attribute : goal.returns-then-not-begins_attribute
returns-then-not-begins_attribute g c = c.loop-round.invariant
    ∙ attributes-stop c.args.self.now.limit (expr c.args.self.now.below) (c.count_left-round-end.result - c.loop-round._round) (entries_of c.loop-round.found.items) c.loop-round.depth (input c.loop-round.tokens)
    (tested begins_attribute c.kind.ensures c.begins_attribute.ensures c.if-not-begins_attribute.true)

pub returns-in-Err : goal.returns-in-Err
returns-in-Err g c = refused c.in-Err.refusal (attributes-round c.args.self.now.limit (expr c.args.self.now.below) _ _ (entries_of c.loop-round.found.items) c.loop-round.depth (input c.loop-round.tokens) c.loop-round-test.true c.loop-round.invariant
    (tested begins_attribute c.kind.ensures c.begins_attribute.ensures c.if-not-begins_attribute.false)) c.in-Err.ensures

pub loop-round-preserved : goal.loop-round-preserved
loop-round-preserved g c =
    let e = attributes-round c.args.self.now.limit (expr c.args.self.now.below) _ _ (entries_of c.loop-round.found.items) c.loop-round.depth (input c.loop-round.tokens) c.loop-round-test.true c.loop-round.invariant
    (tested begins_attribute c.kind.ensures c.begins_attribute.ensures c.if-not-begins_attribute.false) c.in-Ok.ensures in
    e ∙ ap (λ m. attributes_from c.args.self.now.limit (expr c.args.self.now.below) (c.count_left-round-end.result - (c.loop-round._round + 1)) (entries_of c.any_attribute.new.found.items) m (input c.any_attribute.new.tokens)) (sym c.max-depth.ensures)
