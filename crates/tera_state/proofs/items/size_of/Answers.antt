use Rattle.std.proofs.Common.{rules, sym, ◌∙◌}
use Rattle.tera_state.proofs.Walked.{array_size, map_size}
use Rattle.tera_state.proofs.items.size_of.Goals as goal

pub returns-in-Array : goal.returns-in-Array
returns-in-Array c = sym (array_size c.args.items.now c.in-Array.items.now (search rules))

pub returns-in-Map : goal.returns-in-Map
returns-in-Map c = c.len.ensures.count ∙ sym (map_size c.args.items.now c.in-Map.entries.now (search rules))
