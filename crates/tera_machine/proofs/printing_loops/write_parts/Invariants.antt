use Rattle.std.proofs.Common.{◌≡◌, ◌-◌, ◌≤◌, Some}
use Rattle.tera_errors.specs.Site.{Name}
use Rattle.tera_state.specs.Scope.{look}
use Rattle.tera_code.specs.Printing.{puts_up_to}
use Rattle.tera_machine.specs.Config.{Config}
use Rattle.tera_machine.specs.Paths.{Start}
use Rattle.tera_machine.specs.Printing.{IsAt, Before, saying}
use Rattle.tera_machine.proofs.printing_loops.write_parts.Given as goal

abbrev pub invariant-loop-position : goal.invariant-loop-position
invariant-loop-position g l = record {
  within : l.position ≤ l.end;
  below : l.texts.below ≡ l.initial.texts.below;
  comes : (s : Start _) (name : Name) (c : Config) → IsAt g.O.Objects.engine l.machine s.cursor.chunk.now.file s.here → puts_up_to name s.cursor.chunk.now.code (l.end - l.start) l.start ≡ Some l.end → look name s.here.around c.run.vars ≡ l.item → Before s l.initial.cursor l.start (saying l.initial.texts.now c) → (puts_up_to name s.cursor.chunk.now.code (l.end - l.position) l.position ≡ Some l.end) × Before s l.cursor l.position (saying l.texts.now c);
}

abbrev pub decreases-loop-position : goal.decreases-loop-position
decreases-loop-position g l = l.end - l.position
