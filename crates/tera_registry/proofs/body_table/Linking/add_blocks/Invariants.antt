use Rattle.std.proofs.Common.{◌≡◌, ◌++◌, map, drop, slice_get, Some}
use Rattle.tera_meaning.specs.Registry.{Entry}
use Rattle.tera_registry.specs.Linking.{AreLinked, above_block}
use Rattle.tera_registry.specs.Numbers.{above_of}
use Rattle.tera_registry.specs.References.{chunk_of}
use Rattle.tera_registry.proofs.body_table.Linking.add_blocks.Given as goal

abbrev pub invariant-loop-block : goal.invariant-loop-block
invariant-loop-block g l = record {
  codes : map chunk_of l.entries.items ++ map (λ b. b.code.value.chunk) (drop l.block-index l.blocks) ≡ map chunk_of l.initial.entries.items ++ map (λ b. b.code.value.chunk) l.blocks;
  aboves : (t : Entry) → slice_get g.registry.templates l.of ≡ Some t → map above_of l.entries.items ++ map (above_block g.registry t) (drop l.block-index l.blocks) ≡ map above_of l.initial.entries.items ++ map (above_block g.registry t) l.blocks;
  right : AreLinked l.self.targets l.entries.items;
}

abbrev pub ghost-block_entry : goal.ghost-block_entry
ghost-block_entry g a = g.registry
