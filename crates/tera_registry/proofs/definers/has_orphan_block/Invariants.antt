use Rattle.std.proofs.Common.{◌≡◌, Some, slice_get}
use Rattle.tera_syntax_tree.specs.Blocks.{top_blocks}
use Rattle.tera_meaning.specs.Registry.{Entry}
use Rattle.tera_meaning.specs.Accepted.{is_lost}
use Rattle.tera_registry.proofs.Absent.{NoneYet}
use Rattle.tera_registry.proofs.definers.has_orphan_block.Given as goal

abbrev pub invariant-loop-name : goal.invariant-loop-name
invariant-loop-name g l =
    (t : Entry) → slice_get g.registry.templates l.of ≡ Some t → NoneYet (is_lost g.registry t) (top_blocks t.1.tree.nodes) l.name-index

abbrev pub ghost-first_definer_above : goal.ghost-first_definer_above
ghost-first_definer_above g a = g.registry
