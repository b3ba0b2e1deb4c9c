use Rattle.std.proofs.Common.{◌≡◌, ap, sym, ◌∙◌}
use Rattle.tera_syntax_tokens.specs.Bytes.{position, heads}
use Rattle.tera_syntax_tokens.specs.Cut.{opens}
use Rattle.tera_syntax_tree.specs.Delimiters.{delimiters_of}
use Rattle.tera_syntax_tokens.proofs.Openings.{filled, first_bytes, opens_heads, opens_no_more}
use Rattle.tera_syntax_tokens.proofs.Positions.{none_before-start, none_before-step, none_before-here, none_before-end}
use Rattle.tera_syntax_tokens.proofs.cut.opening_ahead.Goals as goal

pub bounds-as_bytes-0 : goal.bounds-as_bytes-0
bounds-as_bytes-0 c = rw c.as_bytes.ensures.value (filled (delimiters_of c.args.delimiters.now) c.requires.usable).variable_start

pub bounds-as_bytes-0-2 : goal.bounds-as_bytes-0-2
bounds-as_bytes-0-2 c = rw c.as_bytes-2.ensures.value (filled (delimiters_of c.args.delimiters.now) c.requires.usable).block_start

pub bounds-as_bytes-0-3 : goal.bounds-as_bytes-0-3
bounds-as_bytes-0-3 c = rw c.as_bytes-3.ensures.value (filled (delimiters_of c.args.delimiters.now) c.requires.usable).comment_start

pub loop-i-init : goal.loop-i-init
loop-i-init c =
    let d = delimiters_of c.args.delimiters.now in
    let e : c.position_of_byte-i.result ≡ position (heads (first_bytes d)) c.args.text.now = rw (c.as_bytes.ensures.value, c.as_bytes-2.ensures.value, c.as_bytes-3.ensures.value) at c.position_of_byte-i.ensures.value in
    none_before-start (heads (first_bytes d)) (opens d) (opens_heads d (filled d c.requires.usable)) c.position_of_byte-i.result c.args.text.now e

pub returns-then-is_some-clause-value : goal.returns-then-is_some-clause-value
returns-then-is_some-clause-value c =
    none_before-here (opens (delimiters_of c.args.delimiters.now)) c.loop-i.i c.args.text.now c.loop-i.invariant c.loop-i-test.true (cc)

pub loop-i-preserved : goal.loop-i-preserved
loop-i-preserved c =
    let d = delimiters_of c.args.delimiters.now in
    let b : c.position_of_byte.result ≡ position (heads (first_bytes d)) c.bytes_from-in-loop-i.result.now = rw (c.as_bytes.ensures.value, c.as_bytes-2.ensures.value, c.as_bytes-3.ensures.value) at c.position_of_byte.ensures.value in
    let e = b ∙ ap (position (heads (first_bytes d))) c.bytes_from-in-loop-i.ensures in
    none_before-step (heads (first_bytes d)) (opens d) (opens_heads d (filled d c.requires.usable)) c.loop-i.i c.position_of_byte.result c.args.text.now c.loop-i.invariant c.loop-i-test.true (cc) e

pub returns-clause-value : goal.returns-clause-value
returns-clause-value c = none_before-end (opens (delimiters_of c.args.delimiters.now)) c.loop-i.i c.args.text.now c.loop-i.invariant c.loop-i-test.false

pub returns-clause-known : goal.returns-clause-known
returns-clause-known c =
    let d = delimiters_of c.args.delimiters.now in
    sym (opens_no_more d (filled d c.requires.usable) c.loop-i.i c.args.text.now c.loop-i-test.false)
