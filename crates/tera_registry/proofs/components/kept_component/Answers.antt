use Rattle.std.proofs.Common.{◌≡◌, sym, ap, ap₂, ◌∙◌}
use Rattle.tera_syntax_tree.specs.View.{nodes_of, signature_of}
use Rattle.tera_code.specs.Code.{listing_of}
use Rattle.tera_components.specs.Definition.{definition_of}
use Rattle.tera_registry.proofs.components.kept_component.Goals as goal

pub returns-clause-ok : goal.returns-clause-ok
returns-clause-ok c =
    let given : definition_of (signature_of c.args.defined.now.signature) ≡ c.in_ok-definition.definition = (let e = c.in_ok-definition.ensures in cc) in
    ap₂ (λ d l. (d, l)) (sym given) (c.in_ok-code.ensures.ok ∙ c.in_ok-compile_body.ensures.ok ∙ ap (λ xs. listing_of c.args.file.now (nodes_of xs)) c.as_slice.ensures.value)
