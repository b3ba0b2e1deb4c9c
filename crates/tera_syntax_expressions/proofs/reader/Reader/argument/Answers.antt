use Rattle.std.proofs.Common.{◌≡◌, ap, sym, ◌∙◌, arith, Some, None}
use Rattle.tera_syntax_tree.specs.View.{arguments_of, expr_of}
use Rattle.tera_syntax_tree.specs.declared.expression.Argument as argument
use Rattle.tera_syntax_tokens.specs.Input.{text}
use Rattle.tera_syntax_tokens.specs.Takes.{input}
use Rattle.tera_syntax_expressions.specs.Arguments.{put_argument}
use Rattle.tera_syntax_expressions.specs.Expressions.{expr}
use Rattle.tera_syntax_expressions.specs.Parts.{position_of, deep_of}
use Rattle.tera_syntax_expressions.proofs.Rounds.{refuses}
use Rattle.tera_syntax_expressions.proofs.Placed.{placed-at, argument_placed, argument_unplaced}
use Rattle.tera_syntax_expressions.proofs.reader.Reader.argument.Goals as goal

pub returns-in-None : goal.returns-in-None
returns-in-None g c =
    let all = c.args.found.now.items in
    let i = input c.args.tokens.now in
    let e : position_of (text i) (arguments_of all) ≡ None = ap (λ t. position_of t (arguments_of all)) (sym c.text-name.ensures) ∙ ap (λ l. position_of c.text-name.result.now (arguments_of l)) (sym c.as_slice.ensures.value) ∙ sym c.position.ensures ∙ c.in-None.is in
    refuses c.refuse.result c.refuse.ensures (argument_unplaced c.args.self.now.limit (expr c.args.self.now.below) (arguments_of all) i e)

pub insert-requires : goal.insert-requires
insert-requires g c =
    let a : argument.Argument = record { name = c.text-name.result; value = c.in-Ok-sub.x.expression } in
    let w = placed-at c.as_slice.result.now c.in-Some.at a (sym c.position.ensures ∙ c.in-Some.is) in
    let within = w.0 in
    let len = c.as_slice.ensures.len in
    omega (arith, within, len)

pub returns : goal.returns
returns g c =
    let all = c.args.found.now.items in
    let i = input c.args.tokens.now in
    let x = c.in-Ok-sub.x in
    let name = c.text-name.result.now in
    let a : argument.Argument = record { name = c.text-name.result; value = c.in-Ok-sub.x.expression } in
    let e : position_of name (arguments_of all) ≡ Some c.in-Some.at = ap (λ l. position_of name (arguments_of l)) (sym c.as_slice.ensures.value) ∙ sym c.position.ensures ∙ c.in-Some.is in
    let w = placed-at all c.in-Some.at a e in
    let p : put_argument (text i) (expr_of x.expression) (arguments_of all) ≡ Some (arguments_of c.insert.new.self.items) = ap (λ t. put_argument t (expr_of x.expression) (arguments_of all)) (sym c.text-name.ensures)
    ∙ w.1 ∙ ap (λ l. Some (arguments_of l)) (sym c.in_ok-insert.ensures.items) in
    argument_placed c.args.self.now.limit (expr c.args.self.now.below) (arguments_of all) (arguments_of c.insert.new.self.items) i (input c.argument_name.new.tokens) (input c.sub.new.tokens) (deep_of x) c.in-Ok.ensures c.in-Ok-sub.ensures p
