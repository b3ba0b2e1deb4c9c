use Rattle.std.proofs.Common.{◌≡◌, Some, None, ◌++◌, ◌-◌, arith, take, slice_get, sym, ap, ◌∙◌}
use Rattle.std.proofs.lemmas.Iterator.Consumers.{nth_from_yields_List}
use Rattle.unicode_segmentation.proofs.SegmentsLemmas.{YieldsList-from_gives, IsPieceOf-slice_get}
use Rattle.tera_built_ins.proofs.Clusters.{cut-is, keep-is}
use Rattle.tera_built_ins.proofs.truncate.shorten.Goals as goal

pub range-requires-clause-end_boundary : goal.range-requires-clause-end_boundary
range-requires-clause-end_boundary c =
    let item = nth_from_yields_List (Some (c.in-Some.position, c.in-Some._cluster)) c.nth.new.self c.args.length c.in-Some.ensures.ran (YieldsList-from_gives _ _ c.grapheme_indices.result) in
    let at = ap (λ l. slice_get l c.args.length) (sym c.grapheme_indices.ensures.left) ∙ sym item in
    (IsPieceOf-slice_get _ _ c.args.length (c.in-Some.position, c.in-Some._cluster.now) c.utf8.content at).start

pub returns-in_ok-push_str-in-Some-2 : goal.returns-in_ok-push_str-in-Some-2
returns-in_ok-push_str-in-Some-2 c =
    let item = nth_from_yields_List (Some (c.in-Some.position, c.in-Some._cluster)) c.nth.new.self c.args.length c.in-Some.ensures.ran (YieldsList-from_gives _ _ c.grapheme_indices.result) in
    let at = ap (λ l. slice_get l c.args.length) (sym c.grapheme_indices.ensures.left) ∙ sym item in
    let from_start : c.in-Some.position - 0 ≡ c.in-Some.position = omega arith in
    let front = c.in_ok-push_str-in-Some.ensures.bytes ∙ ap (λ t. t ++ c.range.result.now) c.new-shortened.ensures.bytes ∙ c.range.ensures.value ∙ ap (λ m. take m c.args.content.now) from_start in
    let written = c.in_ok-push_str-in-Some-2.ensures.bytes ∙ ap (λ t. t ++ c.args.end.now) front in
    rw (cut-is c.args.content.now c.args.end.now c.args.length c.in-Some.position _ c.utf8.content at) (rw written at c.from_string.ensures)

pub returns-in-None : goal.returns-in-None
returns-in-None c =
    let item = nth_from_yields_List None c.nth.new.self c.args.length c.in-None.ensures.ran (YieldsList-from_gives _ _ c.grapheme_indices.result) in
    let at = ap (λ l. slice_get l c.args.length) (sym c.grapheme_indices.ensures.left) ∙ sym item in
    rw (keep-is c.args.content.now c.args.end.now c.args.length at) c.string.ensures
