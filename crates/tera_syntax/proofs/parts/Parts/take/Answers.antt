use Rattle.std.proofs.Common.{◌≡◌, Bool, true, Some, if◌then◌else◌, ap, sym, ◌∙◌, subst}
use Rattle.std.specs.Prelude.{option_map}
use Rattle.tera_syntax_tree.specs.Depth.{max_tree_depth}
use Rattle.tera_syntax_tokens.specs.Cut.{Block}
use Rattle.tera_syntax_tokens.specs.Token.{tokens_of}
use Rattle.tera_syntax.specs.Heads.{ends_component}
use Rattle.tera_syntax.specs.Parts.{component_ended, plain_step, top_tag}
use Rattle.tera_syntax.specs.View.{PartsBecome, component_of, parts_of}
use Rattle.tera_syntax.proofs.parts.Parts.take.Goals as goal

pub returns-then-ends_component : goal.returns-then-ends_component
returns-then-ends_component c =
    let p = parts_of c.args.self.now in
    let tokens = tokens_of c.args.tag.now in
    let it = component_of c.in-Some.component in
    let is : p.component ≡ Some it = ap (option_map component_of) c.in-Some.is in
    let ends : ends_component it.signature.name tokens ≡ true = sym c.ends_component.ensures ∙ c.if-ends_component.true in
    let other = plain_step max_tree_depth p (Block tokens) in
    let meant : top_tag max_tree_depth p p.component tokens ≡ Some (component_ended p it) =
    ap (λ o. top_tag max_tree_depth p o tokens) is ∙ ap (λ (b : Bool). if b then Some (component_ended p it) else other) ends in
    subst (λ o. PartsBecome o c.end.result c.end.new.self) (sym meant) (c.end.ensures it is)
