use Rattle.std.proofs.Common.{sym, ap, ◌∙◌}
use Rattle.tera_value_types.specs.Val.{ktext}
use Rattle.tera_value_types.specs.Access.{attr, find}
use Rattle.tera_value_types.proofs.Pairs.{pairs_entries}
use Rattle.tera_value_types.proofs.value.Value.get_attr.Goals as goal

pub returns-in-Map : goal.returns-in-Map
returns-in-Map c = c.get_text.ensures ∙ ap (find (ktext c.args.name.now)) (sym (pairs_entries c.in-Map.all.now)) ∙ ap (attr c.args.name.now) c.in-Map.ensures
