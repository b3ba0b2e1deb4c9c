use Rattle.std.proofs.Common.{sym, ◌∙◌}
use Rattle.tera_state.specs.Table.{listed}
use Rattle.tera_state.proofs.Taken.{taken-kept}
use Rattle.tera_state.proofs.objects.filters.OwnFilters.put.Goals as goal

pub invariant_of-self : goal.invariant_of-self
invariant_of-self g c =
    record { are_taken = taken-kept c.args.self.now.taken.items (listed c.args.self.now.table) (listed c.put.new.self) c.args.name.now c.args.filter (sym c.takes_built_in.ensures ∙ c.if-takes_built_in.false) c.put.result c.put.ensures.ok c.put.ensures.err c.args.self.now.are_taken }
