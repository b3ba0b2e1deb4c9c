use Rattle.std.proofs.Common.{◌≡◌, drop}
use Rattle.tera_errors.specs.Site.{Name}
use Rattle.tera_syntax_tree.specs.View.{filters_of}
use Rattle.tera_syntax_tree.specs.Free.{filters_free, ◌∪◌}
use Rattle.tera_syntax_tree.specs.Sets.{names_in}
use Rattle.tera_syntax_tree.proofs.variables.expressions.add_filters.Given as goal

abbrev pub invariant-loop-filter : goal.invariant-loop-filter
invariant-loop-filter l =
    (n : Name) → (filters_free (filters_of l.filters) ∪ names_in l.initial.found) n ≡ (filters_free (filters_of (drop l.filter-index l.filters)) ∪ names_in l.found) n
