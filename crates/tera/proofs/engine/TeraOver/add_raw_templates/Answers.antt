use Rattle.std.proofs.Common.{refl}
use Rattle.tera.specs.Registry.{registry_of}
use Rattle.tera.proofs.engine.TeraOver.add_raw_templates.Goals as goal

pub returns : goal.returns
returns g c = rw c.tell_of_batch.ensures (c.add-answer.ensures (registry_of g.O.Objects.engine c.args.self.now) refl refl)
