use Rattle.std.proofs.Common.{ap, ◌∙◌, is_eq, nat_cmp}
use Rattle.std.specs.Cmp.Lexicographic.{slice_cmp, texts_ties}
use Rattle.tera_value_types.proofs.table.is_text.Goals as goal

pub returns-in-Text : goal.returns-in-Text
returns-in-Text c =
    rw c.in-Text.is (c.eq.ensures ∙ texts_ties c.args.name.now c.as_str.result.now ∙ ap (λ t. is_eq (slice_cmp nat_cmp c.args.name.now t)) c.as_str.ensures.value)
