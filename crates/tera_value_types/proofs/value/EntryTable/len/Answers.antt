use Rattle.std.proofs.Common.{arith, subst}
use Rattle.std.proofs.lemmas.Grind.{common_steps}
use Rattle.tera_value_types.specs.View.{entry_views}
use Rattle.tera_value_types.specs.KeyOrder.{flat}
use Rattle.tera_value_types.specs.Index.{IsDistinct, key_at}
use Rattle.tera_value_types.proofs.Keys.{key_tied}
use Rattle.tera_value_types.proofs.Positions.{distinct}
use Rattle.tera_value_types.proofs.Entries.{views_length}
use Rattle.tera_value_types.proofs.value.EntryTable.len.Goals as goal

pub returns-clause-count : goal.returns-clause-count
returns-clause-count c = rw (← c.self.view_is) (grind (arith, common_steps, views_length c.self.inside.all.items))

pub returns-clause-distinct : goal.returns-clause-distinct
returns-clause-distinct c = subst IsDistinct c.self.view_is (λ i j hi hj e.
    let es = entry_views c.self.inside.all.items in
    distinct (flat c.self.inside.by_key) es c.self.invariant.index i j hi hj (rw e (key_tied (key_at es j))))
