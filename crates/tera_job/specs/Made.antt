-- What a job makes, or why it makes nothing.
use Rattle.std.specs.Prelude.{◌≡◌, ◌≢◌, [], map, take, Some, None, Ok, Err, string_bytes}
use Rattle.tera.specs.Fault.{Fault}
use Rattle.tera.specs.Answer.{SeenError, SaysOneOf}
use Rattle.tera.specs.Val.{Val}
use Rattle.tera.specs.Named.{Named}
use Rattle.tera.specs.Batch.{pairs_of}
use Rattle.tera.specs.MeaningRegistry.{Registry}
use Rattle.tera.specs.Resolve.{resolve}
use Rattle.tera.specs.Variables.{AnswersVariables}
use Rattle.tera.specs.Rendering.{ByName, BlockByName}
use Rattle.tera_job.specs.Data.{IsContextOf, AreReadable}
use Rattle.tera_job.specs.Engines.{prepared, delimiters_given, AddsTo}
use Rattle.tera_job.specs.Unread.{AreUnread}
use Rattle.tera_job.specs.Pages.{pages_seen, ArePages}
use Rattle.tera_job.specs.Previews.{ArePreviews}
use Rattle.tera_job.specs.declared.job.Job.{Job}
use Rattle.tera_job.specs.declared.job.Task.{Task}
use Rattle.tera_job.specs.declared.job.Task.TheVariants as task
use Rattle.tera_job.specs.declared.job.Made.{Made}
use Rattle.tera_job.specs.declared.job.Made.TheVariants as made
use Rattle.tera_job.specs.declared.job.JobError.{JobError}
use Rattle.tera_job.specs.declared.job.JobError.TheVariants as error

-- the registry that the templates give with the settings, from this one on, and the context that
-- the data gives
pub record Furnished (start : Registry) (job : Job) : Type 0 where
  pub registry : Registry
  pub context : Named Val
  pub adds : AddsTo (prepared job.settings start) (pairs_of job.templates.now) (Ok registry)
  pub gives : IsContextOf job.floats job.given.now (Ok context)

-- what a task makes: exactly what the engine means by it
abbrev pub Makes : Registry → Named Val → Task → Made → Type 0
Makes r context (task.One name) (made.Text t) = ByName r name.now context (Ok (string_bytes t))
Makes r context (task.Block name block) (made.Text t) =
    BlockByName r name.now block.now context (Ok (string_bytes t))
Makes r context task.All (made.Pages ps) = ArePages r context (Ok (pages_seen ps.items))
Makes r context task.Check made.Sound = Unit {0}
Makes r context (task.Variables name) (made.Names ns) =
    AnswersVariables r (resolve r name.now) (Ok (map string_bytes ns.items))
Makes r context (task.Components autoescape) (made.Previews ps) =
    ArePreviews r context autoescape ps.items
Makes r context other unfit = ⊥

-- why a task makes nothing
abbrev pub Fails : Registry → Named Val → Task → Fault → Type 0
Fails r context (task.One name) fault = ByName r name.now context (Err fault)
Fails r context (task.Block name block) fault = BlockByName r name.now block.now context (Err fault)
Fails r context task.All fault = ArePages r context (Err fault)
Fails r context task.Check fault = ⊥
Fails r context (task.Variables name) fault = AnswersVariables r (resolve r name.now) (Err fault)
Fails r context (task.Components autoescape) fault = ⊥

-- the same of an error; want of memory is a fault without a name
abbrev pub FailsBy : Registry → Named Val → Task → SeenError → Type 0
FailsBy r context t None = Unit {0}
FailsBy r context t (Some fault) = Fails r context t fault

-- a fault of the templates together, or of what is made of them
pub data IsFault (start : Registry) (job : Job) (fault : Fault) : Type 0 where
  of_templates : AddsTo (prepared job.settings start) (pairs_of job.templates.now) (Err fault)
      → IsFault start job fault
  of_task : (f : Furnished start job) → Fails f.registry f.context job.task fault
      → IsFault start job fault

-- Why a job is refused: the first datum that can't be read; templates, or what is made of them; or
-- all texts that spell no tree.
abbrev pub Refuses : Registry → Job → JobError → Type 0
Refuses start job (error.Unreadable u) =
    AreReadable job.floats (take u.position job.given.now)
    × SaysOneOf u.error (IsContextOf job.floats job.given.now)
Refuses start job (error.Fault None) = Unit {0}
Refuses start job (error.Fault (Some fault)) = IsFault start job fault
Refuses start job (error.Syntax es) =
    (job.task ≡ task.Check) × (es.items ≢ [])
    × AreUnread (delimiters_given job.settings) (pairs_of job.templates.now) es.items
