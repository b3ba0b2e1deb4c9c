-- What a run comes to.
use Rattle.std.specs.Prelude.{◌≡◌, ℕ, ◌<◌, ◌++◌, List, codes, decimal, Option, Some, None}
use Rattle.tera.specs.Site.{Text}
use Rattle.tera.specs.Registry.{Registry}
use Rattle.tera_run_script.specs.Passage.{Passage, PassesAll, PassesPart}
use Rattle.tera_run_script.specs.Script.{script_of}
use Rattle.tera_run_script.specs.Session.{Program}
use Rattle.tera_run_script.specs.declared.outcome.Outcome.{Outcome}
use Rattle.tera_run_script.specs.declared.outcome.Outcome.TheVariants.{Done, Unreadable, Device, NoMemory}

abbrev pub status_of : Outcome → ℕ
status_of Done = 0
status_of (Unreadable line) = 2
status_of Device = 3
status_of NoMemory = 4

-- The input was read to its end, and its commands were run. The output is their replies.
pub record HasRun (registry_old registry_new : Registry) (reader_old reader_new : Passage)
    (ended : Type 0) : Type 0 where
  pub input : List ℕ
  pub output : List ℕ
  pub read : PassesAll reader_old reader_new input
  pub at_end : ended
  pub program : Program registry_old registry_new input output

-- The replies were written and handed on. Neither stream failed. The first unreadable line is this
-- one, if there is one.
pub record Finishes (registry_old registry_new : Registry) (reader_old reader_new : Passage)
    (ended : Type 0) (writer_old writer_new : Passage) (settled : Type 0)
    (unreadable : Option ℕ) : Type 0 where
  pub run : HasRun registry_old registry_new reader_old reader_new ended
  pub written : PassesAll writer_old writer_new run.output
  pub handed_on : settled
  pub stops : (script_of run.input).unreadable ≡ unreadable

-- the same, but the writer failed behind a beginning of the replies
pub record BreaksOff (registry_old registry_new : Registry) (reader_old reader_new : Passage)
    (ended : Type 0) (writer_old writer_new : Passage) : Type 0 where
  pub run : HasRun registry_old registry_new reader_old reader_new ended
  pub written : PassesPart writer_old writer_new run.output

-- a stream failed
pub data Fails (registry_old registry_new : Registry) (reader_old reader_new : Passage)
    (ended : Type 0) (writer_old writer_new : Passage) : Type 0 where
  -- Of an input that was not read, nothing is run or written.
  at_read : (failed : reader_old.failures < reader_new.failures)
      (unrun : registry_new ≡ registry_old) (unwritten : writer_new ≡ writer_old)
      → Fails registry_old registry_new reader_old reader_new ended writer_old writer_new
  at_write :
      (broken : BreaksOff registry_old registry_new reader_old reader_new ended writer_old
      writer_new)
      → Fails registry_old registry_new reader_old reader_new ended writer_old writer_new

-- A run of the program, by what it comes to.
abbrev pub Ran : Registry → Registry → Passage → Passage → Type 0 → Passage → Passage → Type 0
    → Outcome → Type 0
Ran registry_old registry_new reader_old reader_new ended writer_old writer_new settled Done =
    Finishes registry_old registry_new reader_old reader_new ended writer_old writer_new settled
    None
Ran registry_old registry_new reader_old reader_new ended writer_old writer_new settled
    (Unreadable line) =
    Finishes registry_old registry_new reader_old reader_new ended writer_old writer_new settled
    (Some line)
Ran registry_old registry_new reader_old reader_new ended writer_old writer_new settled Device =
    Fails registry_old registry_new reader_old reader_new ended writer_old writer_new
Ran registry_old registry_new reader_old reader_new ended writer_old writer_new settled NoMemory =
    (registry_new ≡ registry_old) × (writer_new ≡ writer_old)

abbrev pub complaint_line : ℕ → Text
complaint_line line = codes "unreadable command at line " ++ decimal line ++ codes "\n"

-- the line is written and handed on, or as much of it is written as the writer takes before it
-- fails
pub data Complained (old new : Passage) (settled : Type 0) (line : ℕ) : Type 0 where
  whole :
      (all : PassesAll old new (complaint_line line)) (handed_on : settled)
      → Complained old new settled line
  broken : (part : PassesPart old new (complaint_line line)) → Complained old new settled line

abbrev pub Complains : Passage → Passage → Type 0 → Outcome → Type 0
Complains old new settled Done = new ≡ old
Complains old new settled (Unreadable line) = Complained old new settled line
Complains old new settled Device = new ≡ old
Complains old new settled NoMemory = new ≡ old
