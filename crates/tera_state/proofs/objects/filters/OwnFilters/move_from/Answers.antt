use Rattle.tera_state.specs.Table.{listed}
use Rattle.tera_state.proofs.Taken.{taken-from}
use Rattle.tera_state.proofs.objects.filters.OwnFilters.move_from.Goals as goal

pub invariant_of-self : goal.invariant_of-self
invariant_of-self g c =
    record { are_taken = taken-from c.args.self.now.taken.items (listed c.args.self.now.table) (listed c.args.other.table) (listed c.move_from.new.self) c.move_from.result c.move_from.ensures.ok c.move_from.ensures.part c.args.self.now.are_taken }
