use Rattle.std.proofs.Common.{◌≡◌, ◌++◌, ◌+◌, ◌≤◌, length, vec_len, vec_capacity}
use Rattle.std.specs.Vec.Iter.{into_iter_items, into_iter_len}
use Rattle.tera_calls.proofs.InARow.{Made}
use Rattle.tera_calls.proofs.call.make_calls.Given as goal

-- The calls that were made led from the registry of before to the one that is there.
abbrev pub invariant-loop-call : goal.invariant-loop-call
invariant-loop-call g l = record {
  whole : l.yielded ++ into_iter_items l.call-iterator ≡ l.fn.calls.items;
  size : into_iter_len l.call-iterator ≡ length (into_iter_items l.call-iterator);
  made : Made (record {
    escape = λ b. (goal.EscapeFn-dyn g (b.vtable, b.value)).escaped b.value;
    filter = λ b. record { meaning = (goal.Filter-dyn g (b.vtable, b.value)).meaning b.value; safe = (goal.Filter-dyn g (b.vtable, b.value)).safe b.value };
    test = λ b. record { meaning = (goal.Test-dyn g (b.vtable, b.value)).meaning b.value };
    function = λ b. record { meaning = (goal.Function-dyn g (b.vtable, b.value)).meaning b.value; safe = (goal.Function-dyn g (b.vtable, b.value)).safe b.value };
  }) l.fn.engine l.yielded l.answers.items l.engine;
  room : vec_len l.answers + into_iter_len l.call-iterator ≤ vec_capacity l.answers;
}
