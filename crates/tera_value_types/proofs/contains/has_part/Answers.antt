use Rattle.std.proofs.Common.{◌∙◌, ap}
use Rattle.tera_value_types.specs.Slices.{is_part}
use Rattle.tera_value_types.proofs.Parts.{found_part}
use Rattle.tera_value_types.proofs.contains.has_part.Goals as goal

pub returns : goal.returns
returns c = c.is_some.ensures ∙ found_part c.as_bytes-2.result.now c.as_bytes.result.now c.find.result c.find.ensures ∙ ap (λ p. is_part p c.as_bytes.result.now) c.as_bytes-2.ensures.value ∙ ap (is_part c.args.part.now) c.as_bytes.ensures.value
