use Rattle.std.proofs.Common.{Some, ap, sym, ◌∙◌}
use Rattle.tera_syntax_tree.specs.Tree.{TextKey}
use Rattle.tera_syntax_tree.specs.View.{entries_of, expr_of}
use Rattle.tera_syntax_tokens.specs.Takes.{input}
use Rattle.tera_syntax_expressions.specs.Expressions.{expr, join_entries, one_entry}
use Rattle.tera_syntax_expressions.specs.Parts.{deep_of}
use Rattle.tera_syntax_expressions.proofs.AttributeRows.{named_read}
use Rattle.tera_syntax_expressions.proofs.Rounds.{entries_of-push}
use Rattle.tera_syntax_expressions.proofs.reader.Reader.named_attribute.Goals as goal

pub returns : goal.returns
returns g c =
    let all = c.args.found.now.items in
    let found = entries_of all in
    let x = c.in-Ok-attribute_value.x in
    let j = input c.attribute_value.new.tokens in
    named_read c.args.self.now.limit (expr c.args.self.now.below) found (input c.args.tokens.now) (input c.argument_name.new.tokens) j (deep_of x) c.in-Ok.ensures c.in-Ok-attribute_value.ensures
    ∙ ap (λ e. Some ((e, x.depth), j)) (ap (λ t. join_entries found (one_entry (Some (TextKey t)) (expr_of x.expression))) (sym c.text-name.ensures)
    ∙ sym (ap entries_of c.in_ok-push.ensures.items ∙ entries_of-push all _))
