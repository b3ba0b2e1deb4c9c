use Rattle.std.proofs.Common.{◌∙◌}
use Rattle.tera_registry.specs.Kept.{entries_of}
use Rattle.tera_registry.proofs.Filled.{is_some-position}
use Rattle.tera_registry.proofs.inventory.Inventory.has_template.Goals as goal

pub returns : goal.returns
returns g c =
    c.is_some.ensures ∙ is_some-position (entries_of c.args.self.now.templates.now) _ _ c.resolve.ensures
