use Rattle.std.proofs.Common.{◌≡◌, ◌+◌, ◌-◌, ◌*◌}
use Rattle.tera_syntax_tree.specs.View.{literal_entries_of, literals_of}
use Rattle.tera_syntax_tokens.specs.declared.token.Kind.TheVariants.{RightBracket, RightBrace}
use Rattle.tera_syntax_tokens.specs.Takes.{input}
use Rattle.tera_syntax_expressions.specs.Literals.{parts_from, written, written_item, written_items, written_entry, written_entries}
use Rattle.tera_syntax_expressions.proofs.literals.+written_value.Given as goal

abbrev pub decreases-written_value : goal.decreases-written_value
decreases-written_value l = 4 * l.limit

abbrev pub decreases-item : goal.decreases-item
decreases-item l = 4 * l.limit + 1

abbrev pub decreases-entry : goal.decreases-entry
decreases-entry l = 4 * l.limit + 1

abbrev pub decreases-items : goal.decreases-items
decreases-items l = 4 * l.limit + 2

abbrev pub decreases-entries : goal.decreases-entries
decreases-entries l = 4 * l.limit + 2

abbrev pub decreases-with_parts : goal.decreases-with_parts
decreases-with_parts l = 4 * l.limit + 3

abbrev pub invariant-items-loop-round : goal.invariant-items-loop-round
invariant-items-loop-round l =
    written_items (written l.limit) (input l.fn.tokens) ≡ parts_from RightBracket (written_item (written l.limit)) (l._round-end - l._round) (literals_of l.found.items) (input l.tokens)

abbrev pub invariant-entries-loop-round : goal.invariant-entries-loop-round
invariant-entries-loop-round l =
    written_entries (written l.limit) (input l.fn.tokens) ≡ parts_from RightBrace (written_entry (written l.limit)) (l._round-end - l._round) (literal_entries_of l.found.items) (input l.tokens)
