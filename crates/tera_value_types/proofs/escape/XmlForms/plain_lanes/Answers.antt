use Rattle.std.proofs.Common.{slice_index_or}
use Rattle.tera_value_types.proofs.Stretches.{plain_in_xml}
use Rattle.tera_value_types.proofs.escape.XmlForms.plain_lanes.Goals as goal

pub returns-clause-plain : goal.returns-clause-plain
returns-clause-plain c = λ k low high. plain_in_xml (slice_index_or c.args.bytes.now k 0) (c.plain_lanes.ensures.plain k low high)
