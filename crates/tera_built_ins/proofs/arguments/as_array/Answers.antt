use Rattle.std.proofs.Common.{ap, sym, ◌∙◌, Ok}
use Rattle.tera_built_ins.specs.Arguments.{as_array}
use Rattle.tera_value_types.proofs.Counts.{list_vals}
use Rattle.tera_built_ins.proofs.arguments.as_array.Goals as goal

-- src/arguments.rt
pub returns-in-Array : goal.returns-in-Array
returns-in-Array c = ap as_array (sym c.in-Array.ensures) ∙ ap Ok (list_vals c.in-Array.items.now)
