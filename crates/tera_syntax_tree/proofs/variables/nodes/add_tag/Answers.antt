use Rattle.std.proofs.Common.{◌∙◌, ap}
use Rattle.tera_syntax_tree.specs.Free.{entries_free, filters_free, ◌∪◌}
use Rattle.tera_syntax_tree.specs.Sets.{names_in}
use Rattle.tera_syntax_tree.proofs.Unions.{three}
use Rattle.tera_syntax_tree.proofs.variables.nodes.add_tag.Goals as goal

pub returns : goal.returns
returns c =
    three _ _ _ _ _ _ _ _ (c.in_ok-add_entries.ensures ∙ ap (λ x. entries_free x ∪ names_in c.args.found.now) c.attributes.ensures)
    (c.in_ok-add_filters.ensures ∙ ap (λ x. filters_free x ∪ names_in c.add_entries.new.found) c.filters.ensures) c.add_expression_in.ensures
