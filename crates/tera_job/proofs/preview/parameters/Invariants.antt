use Rattle.std.proofs.Common.{◌≡◌, map, take}
use Rattle.tera.specs.Prelude.{texts_of}
use Rattle.tera_job.proofs.preview.parameters.Given as goal

abbrev pub invariant-loop-argument : goal.invariant-loop-argument
invariant-loop-argument l = texts_of l.names.items ≡ map (λ formal. formal.name) (take l.argument-index l.argument-items)
