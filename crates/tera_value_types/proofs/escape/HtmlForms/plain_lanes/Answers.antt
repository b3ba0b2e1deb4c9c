use Rattle.std.proofs.Common.{slice_index_or, nat_eq}
use Rattle.tera_value_types.proofs.Stretches.{last_form}
use Rattle.tera_value_types.proofs.escape.HtmlForms.plain_lanes.Goals as goal

pub returns-clause-plain : goal.returns-clause-plain
returns-clause-plain c = λ k low high. let x = slice_index_or c.args.bytes.now k 0 in last_form (nat_eq x 38) (nat_eq x 60) (nat_eq x 62) (nat_eq x 34) (nat_eq x 39) _ _ _ _ _ _ (c.lanes_before.ensures.others k low high)
