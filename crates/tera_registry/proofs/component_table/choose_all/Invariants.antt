use Rattle.std.proofs.Common.{◌≡◌, drop}
use Rattle.tera_errors.specs.Site.{Name}
use Rattle.tera_registry.specs.Components.{kept_names}
use Rattle.tera_registry.specs.Choices.{chosen, chosen_in}
use Rattle.tera_registry.proofs.component_table.choose_all.Given as goal

abbrev pub invariant-loop-number : goal.invariant-loop-number
invariant-loop-number l = (q : Name)
    → chosen_in q l.position l.priority l.number (drop l.number (kept_names l.of.components.items)) (chosen l.taken q) ≡ chosen_in q l.position l.priority 0 (kept_names l.of.components.items) (chosen l.fn.taken q)
