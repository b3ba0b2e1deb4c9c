-- What a job makes with an engine and a context, or why it makes nothing.
use Rattle.std.proofs.Common.{◌≡◌, Some, None, Result, Ok, subst}
use Rattle.tera.specs.Fault.{Fault}
use Rattle.tera.specs.Answer.{SeenError, Gives}
use Rattle.tera.specs.Batch.{pairs_of}
use Rattle.tera.specs.MeaningRegistry.{Registry}
use Rattle.tera.specs.Val.{Val}
use Rattle.tera.specs.Named.{Named}
use Rattle.tera_job.specs.Data.{IsContextOf}
use Rattle.tera_job.specs.Engines.{prepared, AddsTo}
use Rattle.tera_job.specs.Made.{Furnished, Makes, FailsBy, Refuses, of_task}
use Rattle.tera_job.specs.declared.job.Job.{Job}
use Rattle.tera_job.specs.declared.job.Made.{Made}
use Rattle.tera_job.specs.declared.job.JobError.TheVariants as error

abbrev furnished : (start : Registry) (job : Job) (r : Registry) (context : Named Val) → AddsTo (prepared job.settings start) (pairs_of job.templates.now) (Ok r) → IsContextOf job.floats job.given.now (Ok context) → Furnished start job
furnished start job r context adds gives = record { registry = r; context = context; adds = adds; gives = gives }

-- an engine that is there begins as it is meant to
pub starts : {X : Type 0} (seen : X → Registry) {engine : Result X SeenError} {x : X} (meant : Result Registry Fault) → engine ≡ Ok x → Gives seen engine meant → meant ≡ Ok (seen x)
starts seen meant is = subst (λ r. Gives seen r meant) is

-- the engine that a job begins with
pub started : (start : Registry) (job : Job) (q r : Registry) → (let begun : Result Registry Fault = Ok start in begun ≡ Ok q) → AddsTo (prepared job.settings q) (pairs_of job.templates.now) (Ok r) → AddsTo (prepared job.settings start) (pairs_of job.templates.now) (Ok r)
started start job q r e h = let same : q ≡ start = cc in subst (λ (x : Registry). AddsTo (prepared job.settings x) (pairs_of job.templates.now) (Ok r)) same h

pub made_with : (start : Registry) (job : Job) (r : Registry) (context : Named Val) (made : Made) → AddsTo (prepared job.settings start) (pairs_of job.templates.now) (Ok r) → IsContextOf job.floats job.given.now (Ok context) → Makes r context job.task made → (f : Furnished start job) × Makes f.registry f.context job.task made
made_with start job r context made adds gives makes = (furnished start job r context adds gives, makes)

pub refused_with : (start : Registry) (job : Job) (r : Registry) (context : Named Val) (e : SeenError) → AddsTo (prepared job.settings start) (pairs_of job.templates.now) (Ok r) → IsContextOf job.floats job.given.now (Ok context) → FailsBy r context job.task e → Refuses start job (error.Fault e)
refused_with start job r context None adds gives fails = tt
refused_with start job r context (Some fault) adds gives fails = of_task (furnished start job r context adds gives) fails
