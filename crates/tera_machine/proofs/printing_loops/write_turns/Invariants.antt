use Rattle.std.proofs.Common.{◌≡◌, ◌≢◌, [], Bool, drop, length}
use Rattle.tera_errors.specs.Site.{Name}
use Rattle.tera_state.specs.Items.{unkeyed}
use Rattle.tera_machine.specs.Config.{Config}
use Rattle.tera_machine.specs.Paths.{Start}
use Rattle.tera_machine.specs.Printing.{IsAt, Before, PrintsItems, Turning, at_items, items_called, saying}
use Rattle.tera_machine.proofs.printing_loops.write_turns.Given as goal

abbrev pub invariant-loop-item : goal.invariant-loop-item
invariant-loop-item g l = record {
  below : l.texts.below ≡ l.initial.texts.below;
  comes : (s : Start _) (name : Name) (counts : Bool) (c : Config) → IsAt g.O.Objects.engine l.machine s.cursor.chunk.now.file s.here → PrintsItems s.cursor.chunk.now.code l.start l.size name → l.items ≢ [] → Before s l.initial.cursor l.start (at_items (items_called name counts) (length (unkeyed l.items)) 0 l.start l.size l.items (saying l.initial.texts.now c)) → Turning s l.cursor l.start l.size (items_called name counts) (length (unkeyed l.items)) l.item-index (drop l.item-index l.items) (saying l.texts.now c);
}
