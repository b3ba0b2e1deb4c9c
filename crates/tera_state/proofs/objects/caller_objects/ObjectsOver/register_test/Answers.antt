use Rattle.std.proofs.Common.{refl, ap}
use Rattle.tera_state.specs.Kept.{each}
use Rattle.tera_state.specs.Table.{listed}
use Rattle.tera_state.proofs.Registered.{registers, same-engine, one-put}
use Rattle.tera_state.proofs.objects.caller_objects.ObjectsOver.register_test.Goals as goal

pub returns : goal.returns
returns g c =
    let self = c.args.self.now in
    registers c.put.result
    (λ m h. same-engine refl (one-put m.test c.args.name.now c.args.test (listed self.tests) (listed c.put.new.self) h) refl)
    (λ m h. same-engine refl (ap (each m.test) h) refl)
    c.put.ensures.ok c.put.ensures.err c.put.ensures.lacks
