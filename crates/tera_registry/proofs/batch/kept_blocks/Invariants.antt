use Rattle.std.proofs.Common.{◌≡◌, ◌++◌, length, map}
use Rattle.std.specs.Vec.Iter.{into_iter_items, into_iter_len}
use Rattle.tera_code.specs.Blocks.{block_of}
use Rattle.tera_registry.specs.Components.{kept_block}
use Rattle.tera_registry.proofs.batch.kept_blocks.Given as goal

abbrev pub invariant-loop-block : goal.invariant-loop-block
invariant-loop-block l = record {
  whole : map kept_block l.kept.items ++ map block_of (into_iter_items l.block-iterator) ≡ map block_of l.fn.blocks.items;
  size : into_iter_len l.block-iterator ≡ length (into_iter_items l.block-iterator);
}
