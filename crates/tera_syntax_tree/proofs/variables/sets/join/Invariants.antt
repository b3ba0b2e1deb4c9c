use Rattle.std.proofs.Common.{◌≡◌}
use Rattle.tera_syntax_tree.specs.Free.{◌∪◌}
use Rattle.tera_syntax_tree.specs.Sets.{names_in}
use Rattle.tera_syntax_tree.proofs.Unions.{those}
use Rattle.tera_syntax_tree.proofs.variables.sets.join.Given as goal

abbrev pub invariant-loop-name : goal.invariant-loop-name
invariant-loop-name l =
    those l.name-iterator ∪ names_in l.found ≡ those l.initial.name-iterator ∪ names_in l.initial.found
