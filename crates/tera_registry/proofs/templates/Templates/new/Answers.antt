use Rattle.tera_registry.proofs.Aboves.{none-climbed}
use Rattle.tera_registry.proofs.Empty.{none-rises, none-faultless, none-placed, none-rooted, none-chosen}
use Rattle.tera_registry.proofs.Leading.{none-right, none-whole, none-starting}
use Rattle.tera_registry.proofs.templates.Templates.new.Goals as goal

pub invariant_of-result : goal.invariant_of-result
invariant_of-result c = record {
  rises = none-rises _ c.new.ensures.items;
  faultless = none-faultless _ _ c.new.ensures.items;
  placed = none-placed _ _ _ c.new.ensures.items c.new-2.ensures.items;
  rooted = none-rooted _ _ _ c.new.ensures.items c.new-3.ensures.items;
  chosen = none-chosen _ _ c.new-4.result c.new.ensures.items c.new-4.ensures.empty;
  whole = none-whole c.new.result.items _ c.new.ensures.items c.new-5.ensures.entries;
  starting = none-starting c.new.result.items _ c.new.ensures.items c.new-5.ensures.starts;
  right = none-right c.new.result.items c.args.prefixes.items c.new-4.result _ c.new-5.ensures.entries;
  climbed = none-climbed c.new.result.items c.args.prefixes.items _ c.new.ensures.items c.new-5.ensures.entries;
}
