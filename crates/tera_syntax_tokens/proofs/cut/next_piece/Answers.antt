use Rattle.std.proofs.Common.{◌≡◌, ◌<◌, ◌+◌, [], ap, Some, None, false, is_some, arith}
use Rattle.tera_syntax_tokens.specs.Cut.{opening_at, opens}
use Rattle.tera_syntax_tree.specs.Delimiters.{delimiters_of}
use Rattle.tera_syntax_tokens.proofs.Openings.{start_of, start_fits, start_boundary, start_size_le}
use Rattle.tera_syntax_tokens.proofs.Cuts.{next_of, position_positive, points_from, if_ok}
use Rattle.tera_syntax_tokens.proofs.cut.next_piece.Goals as goal

pub start_size-size-requires : goal.start_size-size-requires
start_size-size-requires c =
    let e : opening_at (delimiters_of c.args.delimiters.now) c.args.text.now ≡ Some c.in-Some.opening = cc in
    let s = start_of c.args.delimiters.now c.args.text.now c.in-Some.opening c.requires.usable e in
    rw c.as_bytes-in-Some.ensures.value (start_fits c.args.text.now c.in-Some.opening s).1

pub split_at-requires : goal.split_at-requires
split_at-requires c =
    let e : opening_at (delimiters_of c.args.delimiters.now) c.args.text.now ≡ Some c.in-Some.opening = cc in
    let s = start_of c.args.delimiters.now c.args.text.now c.in-Some.opening c.requires.usable e in
    rw (c.start_size-size.ensures, c.as_bytes-in-Some.ensures.value) (start_boundary c.args.text.now c.in-Some.opening s c.utf8.text)

pub returns-in-None-clause-moves : goal.returns-in-None-clause-moves
returns-in-None-clause-moves c =
    let n0 : opening_at (delimiters_of c.args.delimiters.now) c.args.text.now ≡ None = cc in
    let e : opens (delimiters_of c.args.delimiters.now) c.args.text.now ≡ false = ap is_some n0 in
    let p = position_positive (opens (delimiters_of c.args.delimiters.now)) c.args.text.now c.requires.some e in
    let n = ap next_of (c.words.ensures.value []) in
    omega (arith, n, p)

pub returns-in-Some-clause-moves : goal.returns-in-Some-clause-moves
returns-in-Some-clause-moves c =
    let e : opening_at (delimiters_of c.args.delimiters.now) c.args.text.now ≡ Some c.in-Some.opening = cc in
    let s = start_fits c.args.text.now c.in-Some.opening (start_of c.args.delimiters.now c.args.text.now c.in-Some.opening c.requires.usable e) in
    let l = start_size_le c.as_bytes-in-Some.result.now c.in-Some.opening in
    let z = c.start_size-size.ensures in
    let more : c.args.at < c.args.at + c.start_size-size.result = omega (arith, s.0, l, z) in
    if_ok c.rest_of_tag.result (λ x f. omega (arith, more, f.0)) c.rest_of_tag.ensures.rest

pub returns-in-Some-clause-points : goal.returns-in-Some-clause-points
returns-in-Some-clause-points c =
    points_from c.rest_of_tag.result c.args.at (c.args.at + c.start_size-size.result) c.args.text.now c.split_at.result.1.now (omega arith) (omega (arith, c.split_at.ensures.back_len)) c.rest_of_tag.ensures.points
