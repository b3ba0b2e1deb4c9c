use Rattle.std.proofs.Common.{◌≤◌, ◌++◌, List, ℕ, length, string_bytes, arith, sym, ◌∙◌}
use Rattle.std.proofs.lemmas.List.{append-nil, at_drop_all}
use Rattle.tera_built_ins.specs.Words.{has_some}
use Rattle.tera_filters.proofs.Slugging.{more, slug-is}
use Rattle.tera_filters.proofs.slugs.slug_of.Goals as goal

pub returns : goal.returns
returns c =
    let made = string_bytes c.loop-byte.slug in
    let left = λ (t : List ℕ). made ++ more (has_some made) c.loop-byte.goes_on t in
    let ended : length c.args.text.now ≤ c.loop-byte.byte-index = omega arith in
    sym (append-nil made) ∙ sym (at_drop_all left c.args.text.now c.loop-byte.byte-index ended) ∙ c.loop-byte.invariant ∙ slug-is c.args.text.now
