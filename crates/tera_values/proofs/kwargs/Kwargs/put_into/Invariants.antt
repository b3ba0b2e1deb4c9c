use Rattle.std.proofs.Common.{◌≡◌, drop}
use Rattle.tera_values.specs.Named.{put_all}
use Rattle.tera_values.proofs.kwargs.Kwargs.put_into.Given as goal

abbrev pub invariant-loop-entry : goal.invariant-loop-entry
invariant-loop-entry l =
    put_all (drop l.entry-index l.entry-items) l.names ≡ put_all l.entry-items l.initial.names
