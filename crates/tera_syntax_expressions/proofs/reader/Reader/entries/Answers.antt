use Rattle.std.proofs.Common.{ℕ, ◌-◌, ◌+◌, max, ap, sym, ◌∙◌}
use Rattle.tera_syntax_tree.specs.Tree.{Entries, NoEntries}
use Rattle.tera_syntax_tree.specs.View.{entries_of}
use Rattle.tera_syntax_tokens.specs.declared.token.Kind.TheVariants.{RightBrace}
use Rattle.tera_syntax_tokens.specs.Input.{same, left}
use Rattle.tera_syntax_tokens.specs.Takes.{input}
use Rattle.tera_syntax_expressions.specs.Expressions.{entries_from, expr}
use Rattle.tera_syntax_expressions.proofs.Rounds.{tested, Behind, read_behind, entries_end, entries_none, entries_read, refused}
use Rattle.tera_syntax_expressions.proofs.reader.Reader.entries.Given.{Over}
use Rattle.tera_syntax_expressions.proofs.reader.Reader.entries.Goals.{After-max-depth}
use Rattle.tera_syntax_expressions.proofs.reader.Reader.entries.Goals as goal

-- an entry was read behind those that were found: what the loop stands for is what is behind it
behind-entry : (g : Over) (c : After-max-depth g) → Behind (entries_from c.args.self.now.limit (expr c.args.self.now.below) (left (input c.args.tokens.now)) NoEntries 0 (input c.args.tokens.now)) RightBrace
    (λ (p : Entries × ℕ). entries_from c.args.self.now.limit (expr c.args.self.now.below) (c.count_left-round-end.result - (c.loop-round._round + 1)) p.0 p.1) (entries_of c.entry.new.found.items, c.max-depth.result) (input c.entry.new.tokens)
behind-entry g c =
    let x = c.in-Ok.ensures in
    entries_read c.args.self.now.limit (expr c.args.self.now.below) _ _ (entries_of c.loop-round.found.items) c.loop-round.depth (input c.loop-round.tokens) c.loop-round-test.true c.loop-round.invariant
    (tested (same RightBrace) c.kind.ensures c.eq.ensures c.if-eq.false) x.3 x.4 x.6 (c.max-depth.ensures ∙ ap (max c.loop-round.depth) (sym x.5))

pub returns-then-eq : goal.returns-then-eq
returns-then-eq g c = entries_end c.args.self.now.limit (expr c.args.self.now.below) _ _ (entries_of c.loop-round.found.items) c.loop-round.depth (input c.loop-round.tokens) c.loop-round-test.true c.loop-round.invariant
    (tested (same RightBrace) c.kind.ensures c.eq.ensures c.if-eq.true) c.take.ensures

pub returns-in-Err : goal.returns-in-Err
returns-in-Err g c = refused c.in-Err.refusal (entries_none c.args.self.now.limit (expr c.args.self.now.below) _ _ (entries_of c.loop-round.found.items) c.loop-round.depth (input c.loop-round.tokens) c.loop-round-test.true c.loop-round.invariant
    (tested (same RightBrace) c.kind.ensures c.eq.ensures c.if-eq.false)) c.in-Err.ensures

pub loop-round-preserved : goal.loop-round-preserved
loop-round-preserved g c = read_behind (behind-entry g (goal.at.loop-round-preserved g c).After-max-depth) (rw c.in-Ok-true.field-0-test at c.in-Ok-true.ensures)

pub returns-in-Ok-false : goal.returns-in-Ok-false
returns-in-Ok-false g c = read_behind (behind-entry g (goal.at.returns-in-Ok-false g c).After-max-depth) (rw c.in-Ok-false.field-0-test at c.in-Ok-false.ensures)

pub returns-in-Err-take_comma : goal.returns-in-Err-take_comma
returns-in-Err-take_comma g c = refused c.in-Err-take_comma.refusal (read_behind (behind-entry g (goal.at.returns-in-Err-take_comma g c).After-max-depth)) c.in-Err-take_comma.ensures
