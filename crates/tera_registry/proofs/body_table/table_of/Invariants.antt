use Rattle.std.proofs.Common.{◌≡◌, map, take}
use Rattle.std.specs.List.{flat_map}
use Rattle.tera_registry.specs.Bodies.{listings}
use Rattle.tera_registry.specs.Kept.{entries_of}
use Rattle.tera_registry.specs.Linking.{AreLinked}
use Rattle.tera_registry.specs.Numbers.{above_in, above_of, blocks_in}
use Rattle.tera_registry.specs.References.{chunk_of}
use Rattle.tera_registry.proofs.body_table.table_of.Given as goal

abbrev pub invariant-loop-position : goal.invariant-loop-position
invariant-loop-position g l = record {
  codes : map chunk_of l.entries.items ≡ listings (take l.position (entries_of l.templates));
  aboves : map above_of l.entries.items ≡ map (above_in g.registry) (flat_map blocks_in (take l.position g.registry.templates));
  right : AreLinked l.linking.targets l.entries.items;
}

abbrev pub ghost-add : goal.ghost-add
ghost-add g a = g.registry
