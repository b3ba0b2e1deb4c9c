use Rattle.std.proofs.Common.{◌≡◌, Ok, Result, take}
use Rattle.tera.specs.Fault.{Fault}
use Rattle.tera.specs.Val.{Val}
use Rattle.tera.specs.Named.{Named}
use Rattle.tera_job.specs.Data.{IsContextOf}
use Rattle.tera_job.proofs.Laying.{LaysFrom}
use Rattle.tera_job.proofs.datum.context_of.Given as goal

abbrev pub invariant-loop-datum : goal.invariant-loop-datum
invariant-loop-datum l = record {
  laid : IsContextOf l.floats (take l.datum-index l.given) (Ok l.context);
  rest : (r : Result (Named Val) Fault) → LaysFrom l.floats l.context l.given l.datum-index r → IsContextOf l.floats l.given r;
  at : l.position ≡ l.datum-index;
}
