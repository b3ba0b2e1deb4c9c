use Rattle.tera_values.proofs.Contents.{IsPut}
use Rattle.tera_values.proofs.context.Context.put_all.Given as goal

abbrev pub invariant-loop-name : goal.invariant-loop-name
invariant-loop-name l = IsPut l.name-iterator l.self l.initial.name-iterator l.initial.self
