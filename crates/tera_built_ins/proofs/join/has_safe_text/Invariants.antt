use Rattle.std.proofs.Common.{◌≡◌, drop}
use Rattle.std.specs.List.{list_any}
use Rattle.tera_built_ins.specs.Join.{is_safe_text}
use Rattle.tera_built_ins.proofs.join.has_safe_text.Given as goal

abbrev pub invariant-loop-item : goal.invariant-loop-item
invariant-loop-item l = list_any is_safe_text (drop l.item-index l.items) ≡ list_any is_safe_text l.items
