use Rattle.std.proofs.Common.{take, drop, sym, ◌∙◌}
use Rattle.std.proofs.lemmas.Simd.{length-chunk, none_from_empty_mask, run_in_chunk_le, run_in_chunk_fails}
use Rattle.tera_value_types.specs.Growth.{is_one_of}
use Rattle.tera_value_types.proofs.Lanes.{mask_is, before_is}
use Rattle.tera_value_types.proofs.escape.lanes_before.Goals as goal

pub returns-then-mask-eq0-clause-others : goal.returns-then-mask-eq0-clause-others
returns-then-mask-eq0-clause-others c =
    let t = c.args.bytes.now in
    let n = length-chunk c.args.from 16 t c.requires in
    none_from_empty_mask (is_one_of c.args.a c.args.b c.args.c c.args.d c.args.e) t c.args.from 16 0 c.requires (sym (mask_is c.args.a c.args.b c.args.c c.args.d c.args.e (take 16 (drop c.args.from t)) n) ∙ c.if-mask-eq0.true)

pub returns-else-mask-eq0-clause-room : goal.returns-else-mask-eq0-clause-room
returns-else-mask-eq0-clause-room c =
    let t = c.args.bytes.now in
    let n = length-chunk c.args.from 16 t c.requires in
    run_in_chunk_le (is_one_of c.args.a c.args.b c.args.c c.args.d c.args.e) t c.args.from 16 _ 0 c.requires (before_is c.args.a c.args.b c.args.c c.args.d c.args.e (take 16 (drop c.args.from t)) n c.if-mask-eq0.false)

pub returns-else-mask-eq0-clause-others : goal.returns-else-mask-eq0-clause-others
returns-else-mask-eq0-clause-others c =
    let t = c.args.bytes.now in
    let n = length-chunk c.args.from 16 t c.requires in
    run_in_chunk_fails (is_one_of c.args.a c.args.b c.args.c c.args.d c.args.e) t c.args.from 16 _ 0 c.requires (before_is c.args.a c.args.b c.args.c c.args.d c.args.e (take 16 (drop c.args.from t)) n c.if-mask-eq0.false)
