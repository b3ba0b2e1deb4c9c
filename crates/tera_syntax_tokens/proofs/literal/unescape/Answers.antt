use Rattle.std.proofs.Common.{◌≡◌, ◌<◌, ◌+◌, ◌++◌, ◌∷◌, [], lit<, drop, get_or, length, ap, ◌∙◌, arith, false, string_bytes}
use Rattle.std.proofs.lemmas.Str.{IsCharBoundary-start, IsCharBoundary-after_ascii}
use Rattle.tera_syntax_tokens.specs.Literal.{unescaped, escape_of}
use Rattle.tera_syntax_tokens.proofs.Literals.{plain_from, slash_at, end_boundary, wrote_leading, wrote_escape, wrote_slash, wrote_all}
use Rattle.tera_syntax_tokens.proofs.literal.unescape.Goals as goal

pub loop-from-init : goal.loop-from-init
loop-from-init c = record {
  boundary = IsCharBoundary-start c.args.text.now c.utf8.text;
  so_far = ap (λ t. t ++ unescaped false c.args.text.now) c.new-all.ensures.bytes;
}

pub range-requires-clause-end_boundary : goal.range-requires-clause-end_boundary
range-requires-clause-end_boundary c =
    end_boundary (plain_from c.as_bytes-bytes.ensures.value c.loop-from-test.true c.bytes_from.ensures c.plain_len.ensures.value c.plain_len.ensures.within)

pub returns-then-end-bytes : goal.returns-then-end-bytes
returns-then-end-bytes c =
    let p = plain_from c.as_bytes-bytes.ensures.value c.loop-from-test.true c.bytes_from.ensures c.plain_len.ensures.value c.plain_len.ensures.within in
    wrote_all c.args.text.now (wrote_leading _ c.loop-from.invariant.so_far p c.range.ensures.value c.in_ok-push_str.ensures.bytes) (omega (arith, ap length c.as_bytes-bytes.ensures.value, c.if-end-bytes.true))

pub loop-from-preserved-in-Some : goal.loop-from-preserved-in-Some
loop-from-preserved-in-Some c =
    let e = c.loop-from.from + c.plain_len.result in
    let text = c.args.text.now in
    let s = ap length c.as_bytes-bytes.ensures.value in
    let p = plain_from c.as_bytes-bytes.ensures.value c.loop-from-test.true c.bytes_from.ensures c.plain_len.ensures.value c.plain_len.ensures.within in
    let l : e < length text = omega (arith, s, p.fits, c.if-end-bytes.false) in
    let d = c.in-Some.ensures.low in
    let g = ap (λ t. get_or t (e + 1) 0) c.as_bytes-bytes.ensures.value in
    let two : e + 2 ≡ (e + 1) + 1 = omega arith in
    record {
      boundary = rw two (IsCharBoundary-after_ascii text (e + 1) c.utf8.text (omega (arith, s, d.1)) (omega (arith, g, d.2)));
      so_far = wrote_escape _ text (wrote_leading _ c.loop-from.invariant.so_far p c.range.ensures.value c.in_ok-push_str.ensures.bytes) l (slash_at p l)
          (c.in-Some.ensures.value ∙ ap (λ t. escape_of (drop (e + 1) t)) c.as_bytes-bytes.ensures.value)
          (c.in_ok-push-in-Some.ensures.bytes ∙ ap (λ t. string_bytes c.push_str.new.self ++ t) (c.in_ok-push-in-Some.ensures.ascii (omega (arith, d.0)) ∙ ap (λ x. x ∷ []) c.from.ensures));
    }

pub loop-from-preserved : goal.loop-from-preserved
loop-from-preserved c =
    let e = c.loop-from.from + c.plain_len.result in
    let p = plain_from c.as_bytes-bytes.ensures.value c.loop-from-test.true c.bytes_from.ensures c.plain_len.ensures.value c.plain_len.ensures.within in
    let l : e < length c.args.text.now = omega (arith, ap length c.as_bytes-bytes.ensures.value, p.fits, c.if-end-bytes.false) in
    let b = slash_at p l in
    record {
      boundary = IsCharBoundary-after_ascii c.args.text.now e c.utf8.text l (rw b (lit< tt));
      so_far = wrote_slash _ c.args.text.now (wrote_leading _ c.loop-from.invariant.so_far p c.range.ensures.value c.in_ok-push_str.ensures.bytes) l b
          (c.in-None.ensures.value ∙ ap (λ t. escape_of (drop (e + 1) t)) c.as_bytes-bytes.ensures.value)
          (c.in_ok-push-in-None.ensures.bytes ∙ ap (λ t. string_bytes c.push_str.new.self ++ t) (c.in_ok-push-in-None.ensures.ascii (lit< tt)));
    }

pub returns : goal.returns
returns c = wrote_all c.args.text.now c.loop-from.invariant.so_far (omega (arith, ap length c.as_bytes-bytes.ensures.value, c.loop-from-test.false))
