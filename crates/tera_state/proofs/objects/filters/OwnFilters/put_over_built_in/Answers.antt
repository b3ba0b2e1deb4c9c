use Rattle.std.proofs.Common.{◌≡◌}
use Rattle.tera_state.specs.Table.{listed}
use Rattle.tera_state.proofs.Taken.{taken-new}
use Rattle.tera_state.proofs.objects.filters.OwnFilters.put_over_built_in.Goals as goal

pub invariant_of-self-in-Ok : goal.invariant_of-self-in-Ok
invariant_of-self-in-Ok g c =
    let given = c.in_ok-taken.ensures in
    let same : c.in_ok-taken.taken ≡ c.args.name.now = cc in
    record { are_taken = taken-new c.args.self.now.taken.items c.push.new.self.items (listed c.args.self.now.table) (listed c.put.new.self) c.in_ok-taken.taken c.args.name.now c.args.filter c.in_ok-push.ensures.items same c.in-Ok.ensures.ok c.args.self.now.are_taken }
