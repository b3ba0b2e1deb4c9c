use Rattle.tera.proofs.Registered.{is-standard}
use Rattle.tera.proofs.engine.TeraOver+CallerObjects.new.Goals as goal

pub returns : goal.returns
returns g c =
    is-standard _ c.with_objects.result _ (c.new.ensures (record {
      escape = λ b. (goal.EscapeFn-dyn g (b.vtable, b.value)).escaped b.value;
      filter = λ b. record { meaning = (goal.Filter-dyn g (b.vtable, b.value)).meaning b.value; safe = (goal.Filter-dyn g (b.vtable, b.value)).safe b.value };
      test = λ b. record { meaning = (goal.Test-dyn g (b.vtable, b.value)).meaning b.value };
      function = λ b. record { meaning = (goal.Function-dyn g (b.vtable, b.value)).meaning b.value; safe = (goal.Function-dyn g (b.vtable, b.value)).safe b.value };
    }))
    c.with_objects.ensures
