use Rattle.std.proofs.Common.{◌≡◌, ◌<◌, ◌++◌, List, ℕ, length, take, get_or, sym, ap, ◌∙◌, rules}
use Rattle.std.specs.Str.{encode_utf8_all}
use Rattle.tera_value_types.specs.Slices.{picked_chars}
use Rattle.std.proofs.lemmas.List.{get_or_default}
use Rattle.std.specs.Char.{encode_utf8}
use Rattle.tera_value_types.proofs.Strides.{spelled_more}
use Rattle.tera_value_types.proofs.slice.pick_chars.Goals as goal

pub loop-position-preserved : goal.loop-position-preserved
loop-position-preserved c =
    let h : c.loop-position.position-index < length c.args.positions.now = search rules in
    let c1 : ℕ = c.index-letters-position.result in
    let at : c1 ≡ get_or c.args.letters.now (get_or c.args.positions.now c.loop-position.position-index 0) 0 = c.index-letters-position.is ∙ get_or_default c.args.letters.now (get_or c.args.positions.now c.loop-position.position-index 0) c1 0 (c.requires c.loop-position.position-index h) in
    c.in_ok-push.ensures.bytes ∙ ap (λ (l : List ℕ). l ++ encode_utf8 c1) c.loop-position.invariant ∙ ap (λ (x : ℕ). encode_utf8_all (picked_chars (take c.loop-position.position-index c.args.positions.now) c.args.letters.now) ++ encode_utf8 x) at ∙ sym (spelled_more c.args.positions.now c.args.letters.now c.loop-position.position-index h)
