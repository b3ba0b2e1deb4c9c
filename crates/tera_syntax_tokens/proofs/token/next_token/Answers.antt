use Rattle.std.proofs.Common.{◌≡◌, ◌+◌, ◌-◌, drop, take, Some, None, ◌∙◌, ap, refl, arith}
use Rattle.tera_syntax_tokens.specs.Token.{measured}
use Rattle.tera_syntax_tokens.proofs.Sizes.{no_token, a_token, start_boundary, end_boundary, end_le}
use Rattle.tera_syntax_tokens.proofs.token.next_token.Goals as goal

pub returns-in-None : goal.returns-in-None
returns-in-None c =
    let m : measured (drop c.args.i c.args.text.now) ≡ None = cc in
    no_token c.args.at c.args.i c.args.text.now m

pub overflow_add-end : goal.overflow_add-end
overflow_add-end c =
    let m : measured (drop c.args.i c.args.text.now) ≡ Some c.in-Some.measure = cc in
    let e = end_le c.args.i c.args.text.now c.in-Some.measure c.requires.inside m in
    omega arith

pub range-word-requires-clause-start_boundary : goal.range-word-requires-clause-start_boundary
range-word-requires-clause-start_boundary c =
    let m : measured (drop c.args.i c.args.text.now) ≡ Some c.in-Some.measure = cc in
    λ _. start_boundary c.args.i c.args.text.now c.in-Some.measure c.requires.inside m

pub range-word-requires-clause-end_boundary : goal.range-word-requires-clause-end_boundary
range-word-requires-clause-end_boundary c =
    let m : measured (drop c.args.i c.args.text.now) ≡ Some c.in-Some.measure = cc in
    end_boundary c.args.i c.args.text.now c.in-Some.measure c.utf8.text c.requires.inside m

pub returns : goal.returns
returns c =
    let m : measured (drop c.args.i c.args.text.now) ≡ Some c.in-Some.measure = cc in
    let n : (c.args.i + c.in-Some.measure.size) - c.args.i ≡ c.in-Some.measure.size = omega arith in
    a_token c.args.at c.args.i (c.args.i + c.in-Some.measure.size) c.args.text.now _ _ c.in-Some.measure m refl (c.range-word.ensures.value ∙ ap (λ k. take k (drop c.args.i c.args.text.now)) n) c.word_kind_of.ensures
