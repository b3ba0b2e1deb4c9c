use Rattle.std.proofs.Common.{take}
use Rattle.tera.specs.Delimiters.{delimiters_of}
use Rattle.tera.specs.Prelude.{pairs_of}
use Rattle.tera_job.specs.Unread.{AreUnread}
use Rattle.tera_job.proofs.syntax.errors_of.Given as goal

abbrev pub invariant-loop-template : goal.invariant-loop-template
invariant-loop-template l = AreUnread (delimiters_of l.delimiters) (take l.template-index (pairs_of l.templates)) l.errors.items
