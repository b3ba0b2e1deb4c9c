-- `of_nodes` makes the empty struct. Its ghost fields are those that the clauses name.
use Rattle.std.proofs.Common.{List, [], ◌∷◌, ◌<◌, ◌^◌, length, refl}
use Rattle.std.proofs.raw_atomic.Walks.{proved}
use mir.Syntax.{named}
use mir.Val.{Val, vstruct, vnil}
use base.Fml.{ftrue}
use types.Kit.{‵, raw, ◌⊛◌, keep, ◌$◌, ◌∵◌, !, qed, move, split, suffices, done}
use types.Part.{agg}
use types.Run.{no_more, returns, enter}
use types.ByLocal.{alloc_all, pass_all, free_all, look_at, sets}
use denote.Exit.{yes}
use denote.RattleType.{owns}
use denote.Shadow.{pure_i}
use denote.Signature.{plain, types_at}
use denote.Slice.{shr_slice_vals, shr_slice_Tells}
use denote.Triple.Entry.{alive}
use denote.Triple.Walked.{says, Stays, stay_none_slice, Goes-none_slice, ends_at}
use Rattle.tera_syntax_tree.specs.contracts.node.DefinedComponent as component
use Rattle.tera_syntax_tree.specs.contracts.node.Node as node
use Rattle.tera_registry.specs.contracts.template_tree.TemplateTree as meant
use Rattle.tera_registry.specs.contracts.template_tree.TemplateTree.of_nodes as f
use Rattle.tera_registry.proofs.template_tree.TemplateTree.of_nodes.Statement.{statement}
use Rattle.tera_registry.proofs.template_tree.TemplateTree.of_nodes.Code as code

-- what is passed stays as it was
abbrev stayed : Stays f.ended.signature.params f.ended.kept
stayed = (
  stay_none_slice (0 ∷ []) tt (plain (λ κs. node.the_row (record { mir = named 1; lft = κs.1.0 }))) yes,
  (stay_none_slice (2 ∷ []) tt (plain (λ κs. component.the_row (record { mir = named 3; lft = κs.1.1.1.0 }))) yes, tt),
)

pub of_nodes_spec : {M : Type 1} → statement M
of_nodes_spec 𝓤 𝓛 𝓜 𝓡 wired =
    let c = f.clauses 𝓛 𝓜.mem 𝓡.returns in
    proved 𝓛 f.ended stayed c 𝓜 𝓡 (
      Goes-none_slice 𝓛 4 (0 ∷ []) tt (plain (λ κs. node.the_row (record { mir = named 1; lft = κs.1.0 }))) yes,
      (Goes-none_slice 𝓛 4 (2 ∷ []) tt (plain (λ κs. component.the_row (record { mir = named 3; lft = κs.1.1.1.0 }))) yes, tt),
    )
    f.Key.name code.function (code.unfolded 𝓤 𝓛.H 𝓜 𝓡 wired)
    (λ κs. (shr_slice_vals, (shr_slice_vals, tt)))
    (λ κs. (
      shr_slice_Tells (named 0) κs.0 (node.the_row (record { mir = named 1; lft = κs.1.0 })),
      (shr_slice_Tells (named 2) κs.1.1.0 (component.the_row (record { mir = named 3; lft = κs.1.1.1.0 })), tt),
    ))
    (λ κs qs bounds a n are.
    let vss : List Val × (List Val × Unit {0}) = (shr_slice_vals a.0, (shr_slice_vals a.1.0, tt)) in
    let count : length a.0.now < 2 ^ 64 = are.0.0.1.0 in
    let count' : length a.1.0.now < 2 ^ 64 = are.1.0.0.1.0 in
    let made : meant.the_row.Denot = record { nodes = a.0.now; definitions = a.1.0.now } in
    qed 𝓛 ((raw (alive 𝓛 f.signature κs qs) ⊛ ‵ (owns (types_at f.signature.params κs) a vss)) ∷ ‵ ftrue ∷ []) ∵ split ! $ keep ! (0 ∷ 1 ∷ []) $
    enter ! _ _ _ _ _ $ alloc_all ! (λ l. pass_all ! refl ((tt, (tt, (record { fits = count }, tt))), ((tt, (tt, (record { fits = count' }, tt))), tt)) $ sets ! (agg ! (no_more !)) refl (tt, tt) $
    returns ! (look_at ! 0 refl) $ free_all ! refl $
    suffices ! _ (ends_at 𝓛 f.ended stayed c ((κs, qs, bounds, a, vss), n) (vstruct vnil) made (tt, (tt, tt)) (tt, (tt, tt))) $ says ! (refl, refl) $
    pure_i ! (meant.the_row.own_val made (vstruct vnil ∷ [])) ((λ vss. (tt, tt)), tt) ((tt, (refl, tt)), tt) $
    move ! (1 ∷ 2 ∷ 0 ∷ []) $ done !))
