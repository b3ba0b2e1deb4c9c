use Rattle.std.proofs.Common.{◌≡◌}
use Rattle.tera_meaning.specs.Variables.{if_given}
use Rattle.tera_syntax_tree.specs.Free.{◌∪◌}
use Rattle.tera_syntax_tree.specs.Sets.{names_in}
use Rattle.tera_syntax_tree.proofs.Unions.{those}
use Rattle.tera_registry.proofs.variables.add_all.Given as goal

abbrev pub invariant-loop-name : goal.invariant-loop-name
invariant-loop-name l =
    if_given (those l.name-iterator) ∪ names_in l.found ≡ if_given (those l.initial.name-iterator) ∪ names_in l.initial.found
