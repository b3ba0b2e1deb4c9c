use Rattle.std.proofs.Common.{is_some, ap, ◌∙◌}
use Rattle.tera_registry.proofs.Placing.{own-placed}
use Rattle.tera_registry.proofs.text_components.TextComponents.has.Goals as goal

pub returns : goal.returns
returns c =
    let own = c.args.self.now in
    c.contains_key.ensures ∙ ap is_some (own.placed c.args.name.now) ∙ own-placed c.args.name.now 0 own.components.now
