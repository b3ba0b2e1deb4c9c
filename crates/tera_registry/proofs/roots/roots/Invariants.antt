use Rattle.std.proofs.Common.{◌≡◌, length}
use Rattle.tera_registry.specs.Links.{AreTops, AreRoots}
use Rattle.tera_registry.proofs.Checked.{Checked}
use Rattle.tera_registry.proofs.First.{NotPast}
use Rattle.tera_registry.proofs.roots.roots.Given as goal

abbrev pub invariant-loop-position : goal.invariant-loop-position
invariant-loop-position g l = record {
  checked : Checked g.registry l.position;
  not_past : NotPast l.circle l.position;
  no_tie : NotPast l.tie l.position;
  all_tops : length l.tops ≡ length l.ups;
  tops : AreTops g.registry l.tops;
  roots : AreRoots g.registry l.roots.items l.position;
}
