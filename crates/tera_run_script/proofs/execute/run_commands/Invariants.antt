use Rattle.std.proofs.Common.{◌≡◌, ◌≤◌, length, vec_len, vec_capacity}
use Rattle.tera.specs.Registry.{registry_of}
use Rattle.tera_run_script.specs.Seen.{session_of}
use Rattle.tera_run_script.proofs.Sessions.{Answered}
use Rattle.tera_run_script.proofs.execute.run_commands.Given as goal

abbrev pub invariant-loop-command : goal.invariant-loop-command
invariant-loop-command g l = record {
  answered : Answered (registry_of g.O.Objects.engine l.fn.engine) l.commands l.command-index l.replies.items (session_of (registry_of g.O.Objects.engine l.engine) l.session);
  counted : vec_len l.replies ≡ l.command-index;
  room : length l.commands ≤ vec_capacity l.replies;
}
