-- The end of a run.
use Rattle.std.proofs.Common.{◌≡◌, ℕ, List, Option, Result, Ok, Err, OnOk, sym, ap, ◌∙◌, subst}
use Rattle.std.specs.List.{flat_map}
use Rattle.tera.specs.Registry.{Registry}
use Rattle.tera_run_script.specs.Act.{acts_of}
use Rattle.tera_run_script.specs.Passage.{Passage, PassesAll, PassesPart, Puts}
use Rattle.tera_run_script.specs.Reply.{line_of, reply_seen, replies_seen}
use Rattle.tera_run_script.specs.Run.{HasRun, Finishes, BreaksOff, Complained, whole, broken, complaint_line}
use Rattle.tera_run_script.specs.Script.{script_of}
use Rattle.tera_run_script.specs.Seen.{script_seen}
use Rattle.tera_run_script.specs.Session.{Program, Leads}
use Rattle.tera_run_script.specs.declared.command.Command.{Command}
use Rattle.tera_run_script.specs.declared.reply.Reply.{Reply}
use Rattle.tera_run_script.specs.declared.script.Script.{Script}
use Rattle.tera_run_script.specs.declared.stream.Failure.{Failure}
use Rattle.tera_run_script.proofs.Passages.{flat_map-map}

-- the replies, as they are written
abbrev pub output_of : List Reply → List ℕ
output_of replies = flat_map (λ reply. line_of (reply_seen reply)) replies

-- a script that was read, and the replies to its commands, which lead from the old registry to the new one
pub record Replied (old new : Registry) (bytes : List ℕ) (script : Script) (replies : List Reply) : Type 0 where
  pub read : script_seen script ≡ script_of bytes
  pub leads : Leads old (acts_of script.commands.items) (replies_seen replies) new

-- the same, from slices of the bytes and of the commands
pub replied : (old new : Registry) (bytes read : List ℕ) (script : Script) (commands : List Command) (replies : List Reply) → read ≡ bytes → script_seen script ≡ script_of read → commands ≡ script.commands.items → Leads old (acts_of commands) (replies_seen replies) new → Replied old new bytes script replies
replied old new bytes read script commands replies b s c r = record {
  read = s ∙ ap script_of b;
  leads = subst (λ commands. Leads old (acts_of commands) (replies_seen replies) new) c r;
}

program_of : (old new : Registry) (bytes : List ℕ) (script : Script) (replies : List Reply) → Replied old new bytes script replies → Program old new bytes (output_of replies)
program_of old new bytes script replies r = record {
  replies = replies_seen replies;
  leads = subst (λ acts. Leads old acts (replies_seen replies) new) (ap (λ s. s.acts) r.read) r.leads;
  written = sym (flat_map-map line_of reply_seen replies);
}

abbrev run_of : (old new : Registry) (reader_old reader_new : Passage) (ended : Type 0) (bytes : List ℕ) (script : Script) (replies : List Reply) → PassesAll reader_old reader_new bytes × ended → Replied old new bytes script replies → HasRun old new reader_old reader_new ended
run_of old new reader_old reader_new ended bytes script replies read r = record {
  input = bytes;
  output = output_of replies;
  read = read.0;
  at_end = read.1;
  program = program_of old new bytes script replies r;
}

pub finishes : (old new : Registry) (reader_old reader_new : Passage) (ended : Type 0) (writer_old writer_new : Passage) (settled : Type 0) (unreadable : Option ℕ) (bytes : List ℕ) (script : Script) (replies : List Reply) → PassesAll reader_old reader_new bytes × ended → Replied old new bytes script replies → PassesAll writer_old writer_new (output_of replies) → settled → script.unreadable ≡ unreadable → Finishes old new reader_old reader_new ended writer_old writer_new settled unreadable
finishes old new reader_old reader_new ended writer_old writer_new settled unreadable bytes script replies read r written handed_on stops = record {
  run = run_of old new reader_old reader_new ended bytes script replies read r;
  written = written;
  handed_on = handed_on;
  stops = sym (ap (λ s. s.unreadable) r.read) ∙ stops;
}

pub breaks_off : (old new : Registry) (reader_old reader_new : Passage) (ended : Type 0) (writer_old writer_new : Passage) (bytes : List ℕ) (script : Script) (replies : List Reply) → PassesAll reader_old reader_new bytes × ended → Replied old new bytes script replies → PassesPart writer_old writer_new (output_of replies) → BreaksOff old new reader_old reader_new ended writer_old writer_new
breaks_off old new reader_old reader_new ended writer_old writer_new bytes script replies read r written =
    record { run = run_of old new reader_old reader_new ended bytes script replies read r; written = written }

-- a complaint that was put
pub complained : (old new : Passage) (settled : Type 0) (line : ℕ) (text : List ℕ) (result : Result (Unit {0}) Failure) → text ≡ complaint_line line → Puts old new text result → OnOk result settled → Complained old new settled line
complained old new settled line text (Ok done) e h handed_on = whole (subst (PassesAll old new) e h) handed_on
complained old new settled line text (Err failure) e h handed_on = broken (subst (PassesPart old new) e h)
