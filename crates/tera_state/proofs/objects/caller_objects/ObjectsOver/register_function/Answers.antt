use Rattle.std.proofs.Common.{refl, ap}
use Rattle.tera_state.specs.Kept.{each}
use Rattle.tera_state.specs.Table.{listed}
use Rattle.tera_state.proofs.Registered.{registers, same-engine, one-put}
use Rattle.tera_state.proofs.objects.caller_objects.ObjectsOver.register_function.Goals as goal

pub returns : goal.returns
returns g c =
    let self = c.args.self.now in
    registers c.put.result
    (λ m h. same-engine refl refl (one-put m.function c.args.name.now c.args.function (listed self.functions) (listed c.put.new.self) h))
    (λ m h. same-engine refl refl (ap (each m.function) h))
    c.put.ensures.ok c.put.ensures.err c.put.ensures.lacks
