use Rattle.std.proofs.Common.{◌≡◌, rules, sym, ap, ◌∙◌}
use Rattle.std.specs.Option.{option_copied}
use Rattle.std.specs.Prelude.{codes}
use Rattle.tera_syntax_tree.specs.Blocks.{are_distinct, is_among}
use Rattle.tera_syntax_expressions.specs.Parts.{signature_names}
use Rattle.tera_syntax_expressions.proofs.Fit.{body_taken, body_free}
use Rattle.tera_syntax_expressions.proofs.parameters.are_few_fit.Goals as goal

pub returns-then-is_taken : goal.returns-then-is_taken
returns-then-is_taken c =
    let all = c.args.signature.now.parameters.items in
    let rest = option_copied c.args.signature.now.rest in
    let same : c.as_slice-parameters.result.now ≡ all = search rules in
    body_taken all rest (ap (λ ps. is_among (codes "body") (signature_names ps rest)) (sym same) ∙ sym c.is_taken.ensures ∙ c.if-is_taken.true)

pub loop-at-init : goal.loop-at-init
loop-at-init c =
    let all = c.args.signature.now.parameters.items in
    let rest = option_copied c.args.signature.now.rest in
    let same : c.as_slice-parameters.result.now ≡ all = search rules in
    ap (λ ps. are_distinct (signature_names ps rest)) same
    ∙ body_free all rest (ap (λ ps. is_among (codes "body") (signature_names ps rest)) (sym same) ∙ sym c.is_taken.ensures ∙ c.if-is_taken.false)
