use Rattle.std.proofs.Common.{◌≡◌, ◌+◌, drop, length, ap, sym, ◌∙◌, Some, option_map, arith}
use Rattle.std.proofs.lemmas.List.{length-drop}
use Rattle.std.proofs.lemmas.Str.{IsUtf8-string_bytes, IsUtf8-drop, IsCharBoundary-from_rest}
use Rattle.std.specs.Str.{IsUtf8, IsCharBoundary}
use Rattle.tera_syntax_tree.specs.Delimiters.{delimiters_of}
use Rattle.tera_syntax_tokens.specs.Cut.{opening_at, start_size}
use Rattle.tera_syntax_tokens.specs.Found.{end_of}
use Rattle.tera_syntax_tokens.proofs.Openings.{filled, start_of, start_fits, start_boundary, start_size_fits}
use Rattle.tera_syntax_tokens.proofs.Raws.{no_opening, no_block, block_is, end_moves}
use Rattle.tera_syntax_tokens.proofs.raw.endraw.Goals as goal

pub returns-in-None-clause-value : goal.returns-in-None-clause-value
returns-in-None-clause-value c at =
    sym (ap (option_map end_of) (no_opening (delimiters_of c.args.delimiters.now) at c.args.text.now (cc)))

pub returns-then-ne-clause-value : goal.returns-then-ne-clause-value
returns-then-ne-clause-value c at =
    sym (ap (option_map end_of) (no_block (delimiters_of c.args.delimiters.now) at c.args.text.now c.in-Some.opening (cc) (sym c.ne.ensures ∙ c.if-ne.true)))

pub start_size-size-requires : goal.start_size-size-requires
start_size-size-requires c =
    let h : opening_at (delimiters_of c.args.delimiters.now) c.args.text.now ≡ Some c.in-Some.opening = cc in
    (start_fits c.args.text.now c.in-Some.opening (start_of c.args.delimiters.now c.args.text.now c.in-Some.opening c.requires.usable h)).1

pub bytes_from-requires : goal.bytes_from-requires
bytes_from-requires c =
    let h : opening_at (delimiters_of c.args.delimiters.now) c.args.text.now ≡ Some c.in-Some.opening = cc in
    let s = start_of c.args.delimiters.now c.args.text.now c.in-Some.opening c.requires.usable h in
    rw c.start_size-size.ensures (start_size_fits c.args.text.now c.in-Some.opening s)

pub ending-requires : goal.ending-requires
ending-requires c = record { some = rw c.as_bytes.ensures.value (filled (delimiters_of c.args.delimiters.now) c.requires.usable).block_end }

pub returns-in-Some-ending-clause-value : goal.returns-in-Some-ending-clause-value
returns-in-Some-ending-clause-value c at =
    let b = block_is (delimiters_of c.args.delimiters.now) at c.args.text.now c.in-Some.opening c.start_size-size.result c.as_bytes.result.now c.bytes_from.result.now (cc) (sym c.ne.ensures ∙ c.if-ne.false)
    c.start_size-size.ensures c.as_bytes.ensures.value c.bytes_from.ensures in
    sym (ap Some (end_moves at c.start_size-size.result c.in-Some-ending.ending)) ∙ c.in-Some-ending.ensures.value (at + c.start_size-size.result) ∙ ap (option_map end_of) b

pub returns-in-None-ending-clause-value : goal.returns-in-None-ending-clause-value
returns-in-None-ending-clause-value c at =
    let b = block_is (delimiters_of c.args.delimiters.now) at c.args.text.now c.in-Some.opening c.start_size-size.result c.as_bytes.result.now c.bytes_from.result.now (cc) (sym c.ne.ensures ∙ c.if-ne.false)
    c.start_size-size.ensures c.as_bytes.ensures.value c.bytes_from.ensures in
    c.in-None-ending.ensures.value (at + c.start_size-size.result) ∙ ap (option_map end_of) b

pub returns-in-Some-ending-clause-within : goal.returns-in-Some-ending-clause-within
returns-in-Some-ending-clause-within c =
    let h : opening_at (delimiters_of c.args.delimiters.now) c.args.text.now ≡ Some c.in-Some.opening = cc in
    let s = start_size_fits c.args.text.now c.in-Some.opening (start_of c.args.delimiters.now c.args.text.now c.in-Some.opening c.requires.usable h) in
    let l : length c.bytes_from.result.now ≡ length (drop c.start_size-size.result c.args.text.now) = ap length c.bytes_from.ensures in
    omega (arith, s, l, c.start_size-size.ensures, length-drop c.start_size-size.result c.args.text.now, c.in-Some-ending.ensures.within)

pub returns-in-Some-ending-clause-fits : goal.returns-in-Some-ending-clause-fits
returns-in-Some-ending-clause-fits c u =
    let h : opening_at (delimiters_of c.args.delimiters.now) c.args.text.now ≡ Some c.in-Some.opening = cc in
    let s = start_of c.args.delimiters.now c.args.text.now c.in-Some.opening c.requires.usable h in
    let n = start_size c.in-Some.opening c.args.text.now in
    let b : IsCharBoundary c.args.text.now n = start_boundary c.args.text.now c.in-Some.opening s u in
    let r : c.bytes_from.result.now ≡ drop n c.args.text.now = c.bytes_from.ensures ∙ ap (λ k. drop k c.args.text.now) c.start_size-size.ensures in
    let v : IsUtf8 c.bytes_from.result.now = rw r (IsUtf8-drop c.args.text.now n u b) in
    let w : IsUtf8 c.as_bytes.result.now = rw c.as_bytes.ensures.value (IsUtf8-string_bytes c.args.delimiters.now.block_end) in
    let f : IsCharBoundary c.bytes_from.result.now c.in-Some-ending.ending.size = c.in-Some-ending.ensures.fits v w in
    rw c.start_size-size.ensures (IsCharBoundary-from_rest c.args.text.now n c.in-Some-ending.ending.size b.0 (rw r at f))
