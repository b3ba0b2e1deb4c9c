use Rattle.std.proofs.Common.{◌≡◌, ◌++◌}
use Rattle.tera_renderer.proofs.naming.names_of.Given as goal

abbrev pub invariant-loop-name : goal.invariant-loop-name
invariant-loop-name l = l.names.items ++ l.name-iterator ≡ l.fn.set.keys
