-- The reader of a text as a function, which computes the tree of a text that is written out.
use Rattle.std.specs.Prelude.{◌≡◌, Option, Some, None, Result, Ok, Err}
use Rattle.std.specs.Str as str
use lib.Utf8 as utf8
use Rattle.tera_errors.specs.Site.{Text, Name}
use Rattle.tera_errors.specs.Fault.{Fault}
use Rattle.tera_syntax_tree.specs.Delimiters.{Delims}
use Rattle.tera_syntax_tree.specs.Depth.{max_tree_depth}
use Rattle.tera_syntax_tree.specs.Tree.{Tree}
use Rattle.tera_syntax_tokens.specs.Bytes as bytes
use Rattle.tera_syntax_tokens.specs.Cut as cut
use Rattle.tera_syntax_tokens.specs.Input as input
use Rattle.tera_syntax_tokens.specs.Inside as inside
use Rattle.tera_syntax_tokens.specs.Literal as literal
use Rattle.tera_syntax_tokens.specs.Token as token
use Rattle.tera_syntax_expressions.specs.Arguments as a
use Rattle.tera_syntax_expressions.specs.CommaLists as commas
use Rattle.tera_syntax_expressions.specs.Expressions as e
use Rattle.tera_syntax_expressions.specs.Headings as headings
use Rattle.tera_syntax_expressions.specs.Keys as keys
use Rattle.tera_syntax_expressions.specs.Literals as l
use Rattle.tera_syntax_expressions.specs.Loops as loops
use Rattle.tera_syntax_expressions.specs.Parameters as p
use Rattle.tera_syntax.specs.Reader as reader
use Rattle.tera_syntax.specs.File.{file}
use Rattle.tera_syntax.specs.Reads.{Reads, SpellsNone, IsSyntaxError}

-- The tree of a text, if it spells one that is well formed. A proof in which this unfolds computes it
-- where the text is written out: all that the reader is made of unfolds with it.
unfoldable pub tree_read : Delims → Text → Option Tree
unfolding str.chars str.trim_start str.trim_end utf8.encode bytes.position bytes.leading cut.opening_at cut.comment cut.endraw cut.raw cut.piece cut.cut input.kind input.text input.start input.next input.left input.is_word input.expect inside.inside literal.unescaped literal.literal token.quoted token.sign token.measured token.word_kind token.next_token a.is_call a.call_form a.is_test_name a.argument_name a.begins_attribute commas.comma_or e.gives e.needs e.begins e.opened e.node e.entry_key e.prefix_form e.infix_form e.applied e.not_in e.other e.choice e.attribute e.part e.step e.index_at e.slice_made e.slice e.subscript e.argument e.arguments_from e.optional_arguments e.application e.filter e.test_by_name e.tested e.suffix_form e.operation e.items_from e.items_after_first e.array e.condition e.comprehension_made e.comprehension e.brackets e.entries_from e.map e.section_filter e.filters_from e.call e.braced e.attribute_value e.named_attribute e.spread_attribute e.any_attribute e.attributes_from e.component_of e.component e.head e.climb e.level_with e.level e.expr e.filters e.attributes headings.name headings.called headings.calls_behind headings.calls keys.key_at l.plain_at l.parts_from l.negative l.written_key l.written_item l.written_entry l.written_items l.written_entries l.written loops.loop_name p.parameter_type p.rest_name p.default_value p.named_parameter p.parameter_by_name p.parameter p.with_parameter p.parameters_from p.all_parameters p.signature_from p.signature reader.whole reader.pipe reader.signed reader.called reader.named reader.tag reader.statement
tree_read d text = file max_tree_depth (cut.pieces d text)

-- A tree is what the text spells, well formed, and no other; where there is none, it spells none.
abbrev pub IsSpelled : Name → Delims → Text → Option Tree → Type 0
IsSpelled name d text (Some tree) = Reads name d text (Ok tree)
IsSpelled name d text None = SpellsNone name d text

-- Reading answers this tree; where there is none, a syntax error.
abbrev pub IsReading : Name → Text → Option Tree → Result Tree Fault → Type 0
IsReading name text (Some tree) reading = reading ≡ Ok tree
IsReading name text None reading = (fault : Fault) × (reading ≡ Err fault) × IsSyntaxError name text fault
