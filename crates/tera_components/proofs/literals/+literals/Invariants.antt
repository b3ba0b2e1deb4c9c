use Rattle.std.proofs.Common.{◌≡◌, [], take, drop, map as map_list}
use Rattle.tera_syntax_tree.specs.View.{written_of, literal_entries_of}
use Rattle.tera_values.specs.Alphabet.{plain}
use Rattle.tera_components.specs.Context.{literal_value, literal_pairs_in}
use Rattle.tera_components.proofs.literals.+literals.Given as goal

abbrev pub invariant-items_from-loop-item : goal.invariant-items_from-loop-item
invariant-items_from-loop-item l = l.all.items ≡ map_list (λ v. literal_value (written_of v)) (take l.item-index l.items)

abbrev pub invariant-map_from-loop-entry : goal.invariant-map_from-loop-entry
invariant-map_from-loop-entry l =
    literal_pairs_in plain (literal_entries_of (drop l.entry-index l.entries)) l.all ≡ literal_pairs_in plain (literal_entries_of l.entries) []
