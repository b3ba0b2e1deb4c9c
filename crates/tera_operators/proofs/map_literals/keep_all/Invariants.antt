use Rattle.std.proofs.Common.{◌≡◌, drop}
use Rattle.tera_operators.specs.Literals.{kept}
use Rattle.tera_operators.proofs.map_literals.keep_all.Given as goal

abbrev pub invariant-loop-position : goal.invariant-loop-position
invariant-loop-position l = kept l.initial.all l.more ≡ kept l.all (drop l.position l.more)
