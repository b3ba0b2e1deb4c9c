use Rattle.tera_values.proofs.Contents.{IsFilled}
use Rattle.tera_values.proofs.Named.{texts}
use Rattle.tera_values.proofs.context.Context.to_map.Given as goal

abbrev pub invariant-loop-name : goal.invariant-loop-name
invariant-loop-name l = IsFilled l.fn.self l.all (texts l.name-iterator)
