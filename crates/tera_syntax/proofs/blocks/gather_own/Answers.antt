use Rattle.std.proofs.Common.{◌∷◌, ◌++◌, [], ap, sym, ◌∙◌, subst}
use Rattle.std.proofs.lemmas.List.{map-append}
use Rattle.std.proofs.lemmas.List.Elements.{All-push, All-same}
use Rattle.tera_syntax_tree.specs.Inside.{Within, NodeInside}
use Rattle.tera_syntax_tree.specs.View.{node_of}
use Rattle.tera_syntax_tree.proofs.Views.{view_block}
use Rattle.tera_syntax.specs.declared.blocks.PlacedName.{PlacedName}
use Rattle.tera_syntax.specs.Names.{own_block_at}
use Rattle.tera_syntax.specs.View.{names_of}
use Rattle.tera_syntax.proofs.blocks.gather_own.Goals as goal

pub returns-in_ok-push-in-Block-clause-gathered : goal.returns-in_ok-push-in-Block-clause-gathered
returns-in_ok-push-in-Block-clause-gathered c =
    ap names_of c.in_ok-push-in-Block.ensures.items
    ∙ map-append (λ n. (n.name.now, n.span)) c.args.names.now.items (_ ∷ [])
    ∙ ap (λ own. names_of c.args.names.now.items ++ own) (sym (ap own_block_at (ap node_of c.in-Block.is ∙ view_block c.in-Block.block)))

pub returns-in_ok-push-in-Block-clause-points : goal.returns-in_ok-push-in-Block-clause-points
returns-in_ok-push-in-Block-clause-points c size inside before =
    let within = subst (NodeInside size) (ap node_of c.in-Block.is ∙ view_block c.in-Block.block) inside in
    let P : PlacedName → Type 0 = λ n. Within size n.span in
    All-same P _ _ c.in_ok-push-in-Block.ensures.items (All-push P c.args.names.now.items _ before within.0.3)
