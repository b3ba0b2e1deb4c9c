use Rattle.std.proofs.Common.{[]}
use Rattle.tera_values.proofs.Named.{texts}
use Rattle.tera_values.proofs.Contents.{IsPut}
use Rattle.tera_values.proofs.context.Context.to_sorted_map.Given as goal

abbrev pub invariant-loop-name : goal.invariant-loop-name
invariant-loop-name l = IsPut l.name-iterator (texts l.ordered.entries) l.initial.name-iterator []
