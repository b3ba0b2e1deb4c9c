use Rattle.std.proofs.Common.{◌≡◌, ◌<◌, ◌==◌, take, length, ap, ◌∙◌, arith}
use Rattle.std.specs.List.{ends_with}
use Rattle.tera_syntax_tokens.specs.Bytes.{begins, position}
use Rattle.tera_syntax_tokens.specs.Inside.{hyphen}
use Rattle.tera_syntax_tokens.proofs.Positions.{position_passes, boundary_after}
use Rattle.tera_syntax_tokens.proofs.Cuts.{no_comment, a_comment}
use Rattle.tera_syntax_tokens.proofs.cut.comment.Goals as goal

pub returns-then-n-bytes-clause-value : goal.returns-then-n-bytes-clause-value
returns-then-n-bytes-clause-value c tokens =
    let s = ap length c.as_bytes-bytes.ensures.value in
    let e : c.position-n.result ≡ position (begins c.args.end.now) c.args.text.now = cc in
    no_comment c.args.end.now c.args.at c.args.text.now (omega (arith, s))

pub split_at-requires : goal.split_at-requires
split_at-requires c =
    let s = ap length c.as_bytes-bytes.ensures.value in
    let e : c.position-n.result ≡ position (begins c.args.end.now) c.args.text.now = cc in
    let l : position (begins c.args.end.now) c.args.text.now < length c.args.text.now = omega (arith, s) in
    rw e (boundary_after c.args.end.now c.args.text.now _ c.utf8.text c.utf8.end (position_passes (begins c.args.end.now) c.args.text.now l) c.requires.some)

pub returns-clause-value : goal.returns-clause-value
returns-clause-value c tokens =
    let s = ap length c.as_bytes-bytes.ensures.value in
    let e : c.position-n.result ≡ position (begins c.args.end.now) c.args.text.now = cc in
    let l : c.position-n.result < length c.args.text.now = omega (arith, s) in
    let b = c.bytes_to.ensures in
    let q : c.ends_with.result ≡ ends_with (λ a b. a == b) (take c.position-n.result c.args.text.now) hyphen = c.ends_with.ensures.value ∙ ap (λ bs. ends_with (λ a b. a == b) bs hyphen) (b ∙ ap (take c.position-n.result) c.as_bytes-bytes.ensures.value) in
    a_comment c.args.end.now c.args.at c.position-n.result c.args.text.now c.ends_with.result e l q
