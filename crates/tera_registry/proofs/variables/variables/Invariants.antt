use Rattle.std.proofs.Common.{◌≡◌, drop}
use Rattle.tera_meaning.specs.Variables.{in_one_of, given_in}
use Rattle.tera_syntax_tree.specs.Free.{◌∪◌}
use Rattle.tera_syntax_tree.specs.Sets.{names_in}
use Rattle.tera_registry.specs.Edges.{all_at}
use Rattle.tera_registry.specs.Kept.{entries_of}
use Rattle.tera_registry.proofs.variables.variables.Given as goal

abbrev pub invariant-loop-position : goal.invariant-loop-position
invariant-loop-position l =
    in_one_of given_in (all_at (entries_of l.templates) (drop l.position-index l.positions)) ∪ names_in l.found ≡ in_one_of given_in (all_at (entries_of l.templates) l.positions)
