use Rattle.std.proofs.Common.{◌≡◌, map, take}
use Rattle.tera.specs.Lent.{texts_of}
use Rattle.tera_run_script.proofs.preview.parameters.Given as goal

abbrev pub invariant-loop-argument : goal.invariant-loop-argument
invariant-loop-argument l = texts_of l.names.items ≡ map (λ formal. formal.name) (take l.argument-index l.arguments)
