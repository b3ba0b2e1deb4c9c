use Rattle.std.proofs.Common.{◌-◌, ◌+◌, ap, sym, ◌∙◌, Some, refl}
use Rattle.tera_syntax_tree.specs.Tree.{NoLiterals, NoLiteralEntries}
use Rattle.tera_syntax_tree.specs.View.{literal_entries_of, literals_of}
use Rattle.tera_syntax_tokens.specs.declared.token.Kind.TheVariants.{RightBracket, RightBrace}
use Rattle.tera_syntax_tokens.specs.Input.{same}
use Rattle.tera_syntax_tokens.specs.Takes.{input}
use Rattle.tera_syntax_expressions.specs.Literals.{parts_from, written, written_item, written_items, written_entry, written_entries}
use Rattle.tera_syntax_expressions.proofs.PartRows.{round_first, round_end, round_part, round_over, written_none, written_more, literals_of-push, literal_entries_of-push}
use Rattle.tera_syntax_expressions.proofs.Rounds.{tested, Behind, read_behind, refused, refuses}
use Rattle.tera_syntax_expressions.proofs.literals.+written_value.Goals.{items-In-Ok, entries-In-Ok}
use Rattle.tera_syntax_expressions.proofs.literals.+written_value.Goals as goal

-- a value was read behind those that were found: what the loop stands for is what is behind it
behind-item : (t : _) (c : items-In-Ok t) → Behind (written_items (written c.args.limit) (input c.args.tokens.now)) RightBracket (parts_from RightBracket (written_item (written c.args.limit)) (c.count_left-round-end.result - (c.loop-round._round + 1))) (literals_of c.item.new.found.items) (input c.item.new.tokens)
behind-item t c = record { is = round_part RightBracket (written_item (written c.args.limit)) _ _ (literals_of c.loop-round.found.items) (input c.loop-round.tokens) c.loop-round-test.true c.loop-round.invariant (tested (same RightBracket) c.kind.ensures c.eq.ensures c.if-eq.false) c.in-Ok.ensures }

-- the same of an entry
behind-entry : (t : _) (c : entries-In-Ok t) → Behind (written_entries (written c.args.limit) (input c.args.tokens.now)) RightBrace (parts_from RightBrace (written_entry (written c.args.limit)) (c.count_left-round-end.result - (c.loop-round._round + 1))) (literal_entries_of c.entry.new.found.items) (input c.entry.new.tokens)
behind-entry t c = record { is = round_part RightBrace (written_entry (written c.args.limit)) _ _ (literal_entries_of c.loop-round.found.items) (input c.loop-round.tokens) c.loop-round-test.true c.loop-round.invariant (tested (same RightBrace) c.kind.ensures c.eq.ensures c.if-eq.false) c.in-Ok.ensures }

pub items-returns-then-eq : goal.items-returns-then-eq
items-returns-then-eq t c = round_end RightBracket (written_item (written c.args.limit)) _ _ (literals_of c.loop-round.found.items) (input c.loop-round.tokens) c.loop-round-test.true c.loop-round.invariant (tested (same RightBracket) c.kind.ensures c.eq.ensures c.if-eq.true) _ c.take.ensures

pub entries-returns-then-eq : goal.entries-returns-then-eq
entries-returns-then-eq t c = round_end RightBrace (written_entry (written c.args.limit)) _ _ (literal_entries_of c.loop-round.found.items) (input c.loop-round.tokens) c.loop-round-test.true c.loop-round.invariant (tested (same RightBrace) c.kind.ensures c.eq.ensures c.if-eq.true) _ c.take.ensures

pub items-returns-in-Err : goal.items-returns-in-Err
items-returns-in-Err t c = refused c.in-Err.refusal (round_part RightBracket (written_item (written c.args.limit)) _ _ (literals_of c.loop-round.found.items) (input c.loop-round.tokens) c.loop-round-test.true c.loop-round.invariant (tested (same RightBracket) c.kind.ensures c.eq.ensures c.if-eq.false)) c.in-Err.ensures

pub entries-returns-in-Err : goal.entries-returns-in-Err
entries-returns-in-Err t c = refused c.in-Err.refusal (round_part RightBrace (written_entry (written c.args.limit)) _ _ (literal_entries_of c.loop-round.found.items) (input c.loop-round.tokens) c.loop-round-test.true c.loop-round.invariant (tested (same RightBrace) c.kind.ensures c.eq.ensures c.if-eq.false)) c.in-Err.ensures

pub items-loop-round-preserved : goal.items-loop-round-preserved
items-loop-round-preserved t c = read_behind (behind-item t (goal.at.items-loop-round-preserved t c).In-Ok) (rw c.in-Ok-true.field-0-test at c.in-Ok-true.ensures)

pub entries-loop-round-preserved : goal.entries-loop-round-preserved
entries-loop-round-preserved t c = read_behind (behind-entry t (goal.at.entries-loop-round-preserved t c).In-Ok) (rw c.in-Ok-true.field-0-test at c.in-Ok-true.ensures)

pub items-returns-in-Ok-false : goal.items-returns-in-Ok-false
items-returns-in-Ok-false t c = read_behind (behind-item t (goal.at.items-returns-in-Ok-false t c).In-Ok) (rw c.in-Ok-false.field-0-test at c.in-Ok-false.ensures)

pub entries-returns-in-Ok-false : goal.entries-returns-in-Ok-false
entries-returns-in-Ok-false t c = read_behind (behind-entry t (goal.at.entries-returns-in-Ok-false t c).In-Ok) (rw c.in-Ok-false.field-0-test at c.in-Ok-false.ensures)

pub items-returns-in-Err-take_comma : goal.items-returns-in-Err-take_comma
items-returns-in-Err-take_comma t c = refused c.in-Err-take_comma.refusal (read_behind (behind-item t (goal.at.items-returns-in-Err-take_comma t c).In-Ok)) c.in-Err-take_comma.ensures

pub entries-returns-in-Err-take_comma : goal.entries-returns-in-Err-take_comma
entries-returns-in-Err-take_comma t c = refused c.in-Err-take_comma.refusal (read_behind (behind-entry t (goal.at.entries-returns-in-Err-take_comma t c).In-Ok)) c.in-Err-take_comma.ensures

pub items-returns : goal.items-returns
items-returns t c = refuses c.refuse.result c.refuse.ensures (round_over RightBracket (written_item (written c.args.limit)) _ _ (literals_of c.loop-round.found.items) (input c.loop-round.tokens) c.loop-round-test.false c.loop-round.invariant)

pub entries-returns : goal.entries-returns
entries-returns t c = refuses c.refuse.result c.refuse.ensures (round_over RightBrace (written_entry (written c.args.limit)) _ _ (literal_entries_of c.loop-round.found.items) (input c.loop-round.tokens) c.loop-round-test.false c.loop-round.invariant)

pub item-returns : goal.item-returns
unfolding written_item
item-returns t c =
    rw (c.in-Ok.ensures) (ap (λ xs. Some (xs, input c.written_value.new.tokens)) (sym (ap literals_of c.in_ok-push.ensures.items ∙ literals_of-push c.args.found.now.items _)))

pub entry-returns : goal.entry-returns
unfolding written_entry
entry-returns t c =
    rw (c.in-Ok.ensures, c.in-Ok-written_value.ensures) (ap (λ xs. Some (xs, input c.written_value.new.tokens)) (sym (ap literal_entries_of c.in_ok-push.ensures.items ∙ literal_entries_of-push c.args.found.now.items _)))

pub written_value-returns-then-limit-eq0 : goal.written_value-returns-then-limit-eq0
written_value-returns-then-limit-eq0 t c = refuses c.refuse.result c.refuse.ensures (written_none c.args.limit (input c.args.tokens.now) c.if-limit-eq0.true)

pub written_value-returns : goal.written_value-returns
written_value-returns t c = rw (written_more c.args.limit (input c.args.tokens.now) c.if-limit-eq0.false) c.with_parts.ensures

pub items-loop-round-init : goal.items-loop-round-init
unfolding written_items
items-loop-round-init t c = round_first RightBracket (written_item (written c.args.limit)) _ NoLiterals _ (input c.args.tokens.now) c.count_left-round-end.ensures (ap literals_of c.new-found.ensures.items)

pub entries-loop-round-init : goal.entries-loop-round-init
unfolding written_entries
entries-loop-round-init t c = round_first RightBrace (written_entry (written c.args.limit)) _ NoLiteralEntries _ (input c.args.tokens.now) c.count_left-round-end.ensures (ap literal_entries_of c.new-found.ensures.items)

pub item-returns-in-Err : goal.item-returns-in-Err
unfolding written_item
item-returns-in-Err t c = refused c.in-Err.refusal (λ z. rw z refl) c.in-Err.ensures

pub entry-returns-in-Err : goal.entry-returns-in-Err
unfolding written_entry
entry-returns-in-Err t c = refused c.in-Err.refusal (λ z. rw z refl) c.in-Err.ensures

pub entry-returns-in-Err-written_value : goal.entry-returns-in-Err-written_value
unfolding written_entry
entry-returns-in-Err-written_value t c = refused c.in-Err-written_value.refusal (λ z. rw (c.in-Ok.ensures, z) refl) c.in-Err-written_value.ensures
