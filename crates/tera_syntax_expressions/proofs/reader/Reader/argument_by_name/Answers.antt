use Rattle.std.proofs.Common.{◌≡◌, true, false, Some, None, ap, sym, ◌∙◌}
use Rattle.tera_syntax_tree.specs.View.{expr_of}
use Rattle.tera_syntax_tokens.specs.Input.{text}
use Rattle.tera_syntax_tokens.specs.Takes.{input}
use Rattle.tera_syntax_expressions.specs.Arguments.{put_argument}
use Rattle.tera_syntax_expressions.specs.Expressions.{expr}
use Rattle.tera_syntax_expressions.specs.Parts.{named_arguments, deep_of}
use Rattle.tera_syntax_expressions.proofs.Rounds.{refuses}
use Rattle.tera_syntax_expressions.proofs.Placed.{argument_placed, argument_refused}
use Rattle.tera_syntax_expressions.proofs.ByName.{has, put-new, put-old}
use Rattle.tera_syntax_expressions.proofs.reader.Reader.argument_by_name.Goals as goal

pub returns-then-contains_key-clause-value : goal.returns-then-contains_key-clause-value
returns-then-contains_key-clause-value g c =
    let es = c.args.found.now.entries in
    let i = input c.args.tokens.now in
    let there : has c.text-name.result es ≡ true = sym c.contains_key.ensures ∙ c.if-contains_key.true in
    refuses c.refuse.result c.refuse.ensures (argument_refused c.args.self.now.limit (expr c.args.self.now.below) (named_arguments es) i
    (λ x. ap (λ n. put_argument n x (named_arguments es)) (sym c.text-name.ensures) ∙ put-old c.text-name.result x es c.requires.ordered there))

pub returns-clause-value : goal.returns-clause-value
returns-clause-value g c =
    let es = c.args.found.now.entries in
    let i = input c.args.tokens.now in
    let x = c.in-Ok-sub.x in
    let name = c.text-name.result in
    let new : has name es ≡ false = sym c.contains_key.ensures ∙ c.if-contains_key.false in
    let p : put_argument (text i) (expr_of x.expression) (named_arguments es) ≡ Some (named_arguments c.insert.new.self.entries) = ap (λ t. put_argument t (expr_of x.expression) (named_arguments es)) (sym c.text-name.ensures)
    ∙ put-new name x.expression es new ∙ ap (λ l. Some (named_arguments l)) (sym c.in_ok-insert.ensures.entries) in
    argument_placed c.args.self.now.limit (expr c.args.self.now.below) (named_arguments es) (named_arguments c.insert.new.self.entries) i (input c.argument_name.new.tokens) (input c.sub.new.tokens) (deep_of x) c.in-Ok.ensures c.in-Ok-sub.ensures p
