use Rattle.tera.proofs.engine.TeraOver.escapes.Goals as goal

pub returns : goal.returns
returns g c = rw c.as_slice.ensures.value at c.ends_with_one_of.ensures
