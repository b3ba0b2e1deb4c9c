use Rattle.std.proofs.Common.{[], ◌∷◌, ◌++◌, map, sym, ap, ◌∙◌}
use Rattle.tera_syntax_tree.specs.Blocks.{own_block}
use Rattle.tera_syntax_tree.specs.View.{node_of, nodes_of}
use Rattle.tera_syntax_tree.proofs.Views.{view_block}
use Rattle.tera_code.specs.Blocks.{block_of, block_listings}
use Rattle.tera_code.proofs.Written.{on_ok_by}
use Rattle.tera_code.proofs.blocks.add_own.Goals as goal

pub returns-in-Block : goal.returns-in-Block
returns-in-Block c =
    let body = ap (λ x. (c.in-Block.block.name.now, nodes_of x) ∷ []) c.as_slice.ensures.value in
    let own = sym (ap own_block (ap node_of c.in-Block.is ∙ view_block c.in-Block.block)) in
    on_ok_by _ _ _ _ (ap (λ x. map block_of c.args.found.now.items ++ block_listings c.args.file.now x) (body ∙ own)) c.put.ensures.ok
