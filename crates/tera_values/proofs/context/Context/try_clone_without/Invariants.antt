use Rattle.std.proofs.Common.{◌≡◌, map, take}
use Rattle.tera_values.specs.Named.{without_names}
use Rattle.tera_values.proofs.context.Context.try_clone_without.Given as goal

abbrev pub invariant-loop-name : goal.invariant-loop-name
invariant-loop-name l = l.copy ≡ without_names (map (λ n. n.now) (take l.name-index l.names)) l.fn.self
