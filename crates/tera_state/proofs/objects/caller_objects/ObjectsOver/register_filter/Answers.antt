use Rattle.std.proofs.Common.{refl, ap}
use Rattle.tera_state.specs.Kept.{each}
use Rattle.tera_state.specs.Table.{listed}
use Rattle.tera_state.proofs.Registered.{registers, same-engine, one-put}
use Rattle.tera_state.proofs.objects.caller_objects.ObjectsOver.register_filter.Goals as goal

pub returns : goal.returns
returns g c =
    let self = c.args.self.now in
    registers c.put.result
    (λ m h. same-engine (one-put m.filter c.args.name.now c.args.filter (listed self.filters.table) (listed c.put.new.self.table) h) refl refl)
    (λ m h. same-engine (ap (each m.filter) h) refl refl)
    c.put.ensures.ok c.put.ensures.err c.put.ensures.lacks
