use Rattle.std.proofs.Common.{ℕ, ◌-◌, ◌+◌, max, ap, sym, ◌∙◌}
use Rattle.tera_syntax_tree.specs.Tree.{Items}
use Rattle.tera_syntax_tree.specs.View.{items_of}
use Rattle.tera_syntax_tokens.specs.declared.token.Kind.TheVariants.{RightBracket}
use Rattle.tera_syntax_tokens.specs.Input.{same, left}
use Rattle.tera_syntax_tokens.specs.Takes.{input}
use Rattle.tera_syntax_expressions.specs.Expressions.{items_from, expr}
use Rattle.tera_syntax_expressions.proofs.Rounds.{tested, Behind, read_behind, items_end, items_next, items_read, refused}
use Rattle.tera_syntax_expressions.proofs.reader.Reader.items.Given.{Over}
use Rattle.tera_syntax_expressions.proofs.reader.Reader.items.Goals.{After-max-depth}
use Rattle.tera_syntax_expressions.proofs.reader.Reader.items.Goals as goal

-- an item was read behind those that were found: what the loop stands for is what is behind it
behind-item : (g : Over) (c : After-max-depth g) → Behind (items_from c.args.self.now.limit (expr c.args.self.now.below) (left (input c.args.tokens.now)) (items_of c.args.all.items) c.args.depth (input c.args.tokens.now)) RightBracket
    (λ (p : Items × ℕ). items_from c.args.self.now.limit (expr c.args.self.now.below) (c.count_left-round-end.result - (c.loop-round._round + 1)) p.0 p.1) (items_of c.item.new.found.items, c.max-depth.result) (input c.item.new.tokens)
behind-item g c =
    let x = c.in-Ok.ensures in
    items_read c.args.self.now.limit (expr c.args.self.now.below) _ _ (items_of c.loop-round.found.items) c.loop-round.depth (input c.loop-round.tokens) c.loop-round-test.true c.loop-round.invariant
    (tested (same RightBracket) c.kind.ensures c.eq.ensures c.if-eq.false) x.1 x.3 (c.max-depth.ensures ∙ ap (max c.loop-round.depth) (sym x.2))

pub returns-then-eq : goal.returns-then-eq
returns-then-eq g c = items_end c.args.self.now.limit (expr c.args.self.now.below) _ _ (items_of c.loop-round.found.items) c.loop-round.depth (input c.loop-round.tokens) c.loop-round-test.true c.loop-round.invariant
    (tested (same RightBracket) c.kind.ensures c.eq.ensures c.if-eq.true) c.take.ensures

pub returns-in-Err : goal.returns-in-Err
returns-in-Err g c = refused c.in-Err.refusal (items_next c.args.self.now.limit (expr c.args.self.now.below) _ _ (items_of c.loop-round.found.items) c.loop-round.depth (input c.loop-round.tokens) c.loop-round-test.true c.loop-round.invariant
    (tested (same RightBracket) c.kind.ensures c.eq.ensures c.if-eq.false)) c.in-Err.ensures

pub loop-round-preserved : goal.loop-round-preserved
loop-round-preserved g c = read_behind (behind-item g (goal.at.loop-round-preserved g c).After-max-depth) (rw c.in-Ok-true.field-0-test at c.in-Ok-true.ensures)

pub returns-in-Ok-false : goal.returns-in-Ok-false
returns-in-Ok-false g c = read_behind (behind-item g (goal.at.returns-in-Ok-false g c).After-max-depth) (rw c.in-Ok-false.field-0-test at c.in-Ok-false.ensures)

pub returns-in-Err-take_comma : goal.returns-in-Err-take_comma
returns-in-Err-take_comma g c = refused c.in-Err-take_comma.refusal (read_behind (behind-item g (goal.at.returns-in-Err-take_comma g c).After-max-depth)) c.in-Err-take_comma.ensures
