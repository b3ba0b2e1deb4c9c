use Rattle.std.proofs.Common.{get_or, length, ap, arith}
use Rattle.std.proofs.lemmas.Str.{IsCharBoundary-after_ascii}
use Rattle.tera_syntax_tokens.proofs.literal.literal.Goals as goal

pub range-inner-requires-clause-start_boundary : goal.range-inner-requires-clause-start_boundary
range-inner-requires-clause-start_boundary c =
    let cut = c.is_quoted.ensures.cut c.if-not-is_quoted.false in
    let s = ap length c.as_bytes.ensures.value in
    let g = ap (λ t. get_or t 0 0) c.as_bytes.ensures.value in
    λ _. IsCharBoundary-after_ascii c.args.text.now 0 c.utf8.text (omega (arith, s, cut.0)) (omega (arith, g, cut.1))
