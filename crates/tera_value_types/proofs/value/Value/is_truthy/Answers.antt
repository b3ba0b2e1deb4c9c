use Rattle.std.proofs.Common.{ap, not, ◌∙◌}
use Rattle.tera_value_types.specs.Access.{truthy}
use Rattle.tera_value_types.proofs.Counts.{items_truthy}
use Rattle.tera_value_types.proofs.value.Value.is_truthy.Goals as goal

pub returns-in-Array : goal.returns-in-Array
returns-in-Array c = ap not c.is_empty-in-Array.ensures ∙ items_truthy c.in-Array.items.now ∙ ap truthy c.in-Array.ensures
