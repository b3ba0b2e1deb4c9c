use Rattle.std.proofs.Common.{◌≡◌, Some}
use Rattle.tera_syntax_tokens.specs.Cut.{opening_at}
use Rattle.tera_syntax_tree.specs.Delimiters.{delimiters_of}
use Rattle.tera_syntax_tokens.proofs.Openings.{filled, start_of, start_fits, start_boundary}
use Rattle.tera_syntax_tokens.proofs.cut.block_end.Goals as goal

pub start_size-size-requires : goal.start_size-size-requires
start_size-size-requires c =
    let e : opening_at (delimiters_of c.args.delimiters.now) c.args.text.now ≡ Some c.in-Some.opening = cc in
    let s = start_of c.args.delimiters.now c.args.text.now c.in-Some.opening c.requires.usable e in
    rw c.as_bytes-2.ensures.value (start_fits c.args.text.now c.in-Some.opening s).1

pub split_at-requires : goal.split_at-requires
split_at-requires c =
    let e : opening_at (delimiters_of c.args.delimiters.now) c.args.text.now ≡ Some c.in-Some.opening = cc in
    let s = start_of c.args.delimiters.now c.args.text.now c.in-Some.opening c.requires.usable e in
    rw (c.start_size-size.ensures, c.as_bytes-2.ensures.value) (start_boundary c.args.text.now c.in-Some.opening s c.utf8.text)

pub cut_inside-requires-clause-some : goal.cut_inside-requires-clause-some
cut_inside-requires-clause-some c = rw c.as_str.ensures.value (filled (delimiters_of c.args.delimiters.now) c.requires.usable).block_end
