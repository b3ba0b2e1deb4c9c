use Rattle.std.proofs.Common.{sym, ap, ◌∙◌, is_some}
use Rattle.tera_state.specs.Table.{listed}
use Rattle.tera_state.proofs.Each.{at-each, is_some-map}
use Rattle.tera_values.specs.Named.{at_name}
use Rattle.tera_state.proofs.objects.caller_objects.ObjectsOver.has_registered_test.Goals as goal

pub returns : goal.returns
returns g c m =
    c.contains.ensures ∙ sym (ap is_some (at-each m.test c.args.name.now (listed c.args.self.now.tests)) ∙ is_some-map m.test (at_name c.args.name.now (listed c.args.self.now.tests)))
