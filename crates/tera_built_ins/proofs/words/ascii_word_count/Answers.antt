use Rattle.std.proofs.Common.{arith, ap}
use Rattle.std.specs.List.{count_by, slice_split}
use Rattle.std.specs.Char.{is_whitespace}
use Rattle.std.proofs.lemmas.List.{at_drop_all}
use Rattle.std.proofs.lemmas.Str.{chars-IsAscii}
use Rattle.tera_built_ins.specs.Words.{has_some}
use Rattle.tera_built_ins.proofs.Begun.{begun, begun-is}
use Rattle.tera_built_ins.proofs.words.ascii_word_count.Goals as goal

pub returns : goal.returns
returns c =
    let bs = c.args.bytes.now in
    let e = at_drop_all (begun c.loop-byte.inside) bs c.loop-byte.byte-index (omega arith) in
    let same = ap (λ cs. count_by has_some (slice_split is_whitespace cs)) (chars-IsAscii bs c.requires) in
    let all = begun-is bs in
    omega (arith, e, same, all)
