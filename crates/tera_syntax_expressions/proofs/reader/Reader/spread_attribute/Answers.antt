use Rattle.std.proofs.Common.{Some, ap, sym, ◌∙◌}
use Rattle.tera_syntax_tree.specs.View.{entries_of}
use Rattle.tera_syntax_tokens.specs.Takes.{input}
use Rattle.tera_syntax_expressions.specs.Expressions.{expr}
use Rattle.tera_syntax_expressions.specs.Parts.{deep_of}
use Rattle.tera_syntax_expressions.proofs.AttributeRows.{spread_read}
use Rattle.tera_syntax_expressions.proofs.Rounds.{entries_of-push}
use Rattle.tera_syntax_expressions.proofs.reader.Reader.spread_attribute.Goals as goal

pub returns : goal.returns
returns g c =
    let all = c.args.found.now.items in
    let x = c.in-Ok-braces.x in
    let j = input c.braces.new.tokens in
    spread_read c.args.self.now.limit (expr c.args.self.now.below) (entries_of all) (input c.args.tokens.now) (input c.expect.new.self) j c.in-Ok.field-0 (deep_of x) c.in-Ok.ensures c.in-Ok-braces.ensures
    ∙ ap (λ e. Some ((e, x.depth), j)) (sym (ap entries_of c.in_ok-push.ensures.items ∙ entries_of-push all _))
