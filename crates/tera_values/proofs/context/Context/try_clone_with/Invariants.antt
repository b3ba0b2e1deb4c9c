use Rattle.std.proofs.Common.{◌≡◌, map, take}
use Rattle.tera_values.specs.Named.{with_names}
use Rattle.tera_values.proofs.context.Context.try_clone_with.Given as goal

abbrev pub invariant-loop-name : goal.invariant-loop-name
invariant-loop-name l = l.copy ≡ with_names (map (λ n. n.now) (take l.name-index l.names)) l.fn.self
