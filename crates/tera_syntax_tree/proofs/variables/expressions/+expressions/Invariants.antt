use Rattle.std.proofs.Common.{◌≡◌, drop}
use Rattle.tera_errors.specs.Site.{Name}
use Rattle.tera_syntax_tree.specs.View.{items_of, entries_of, arguments_of}
use Rattle.tera_syntax_tree.specs.Free.{items_free, entries_free, arguments_free, ◌∪◌}
use Rattle.tera_syntax_tree.specs.Sets.{names_in}
use Rattle.tera_syntax_tree.proofs.variables.expressions.+expressions.Given as goal

abbrev pub invariant-add_arguments-loop-part : goal.invariant-add_arguments-loop-part
invariant-add_arguments-loop-part l =
    (n : Name) → (arguments_free (arguments_of l.arguments) ∪ names_in l.initial.found) n ≡ (arguments_free (arguments_of (drop l.part-index l.arguments)) ∪ names_in l.found) n

abbrev pub invariant-add_entries-loop-part : goal.invariant-add_entries-loop-part
invariant-add_entries-loop-part l =
    (n : Name) → (entries_free (entries_of l.entries) ∪ names_in l.initial.found) n ≡ (entries_free (entries_of (drop l.part-index l.entries)) ∪ names_in l.found) n

abbrev pub invariant-add_items-loop-part : goal.invariant-add_items-loop-part
invariant-add_items-loop-part l =
    (n : Name) → (items_free (items_of l.items) ∪ names_in l.initial.found) n ≡ (items_free (items_of (drop l.part-index l.items)) ∪ names_in l.found) n
