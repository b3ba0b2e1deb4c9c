use Rattle.std.proofs.Common.{ap, sym, ◌∙◌, Ok}
use Rattle.tera_built_ins.specs.Arguments.{as_map}
use Rattle.tera_value_types.proofs.Pairs.{pairs_entries}
use Rattle.tera_built_ins.proofs.arguments.as_map.Goals as goal

-- src/arguments.rt
pub returns-in-Map : goal.returns-in-Map
returns-in-Map c = ap as_map (sym c.in-Map.ensures) ∙ ap Ok (pairs_entries c.in-Map.all.now)
