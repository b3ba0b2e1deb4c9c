use Rattle.std.proofs.Common.{◌≡◌, Global, Result, string_bytes, refl, sym, ap, ◌∙◌, subst}
use Rattle.tera_errors.specs.Site.{Text}
use Rattle.tera_errors.specs.Fault.{Fault}
use Rattle.tera_errors.specs.Answer.{Gives}
use Rattle.tera_syntax_tree.specs.Tree.{Tree}
use Rattle.tera_syntax_tree.specs.View.{definitions_of, nodes_of, tree_of}
use Rattle.tera_meaning.specs.Components.{one_off_name}
use Rattle.tera_meaning.specs.Known.{lacks_a_callee}
use Rattle.tera_code.specs.Code.{nodes_code}
use Rattle.tera_code.specs.Listing.{Listing}
use Rattle.tera_meaning.specs.Rendering.{knows_beside, knows_in}
use Rattle.tera_registry.specs.Components.{kept_all}
use Rattle.tera_registry.specs.Templates.{with_templates}
use Rattle.tera_registry.specs.declared.templates.Templates.{Templates}
use Rattle.tera_machine.specs.Subject.{Subject}
use Rattle.tera.specs.Registry.{registry_of, tree_beside}
use Rattle.tera.proofs.Renders.{lacking-says, nothing-missing}
use Rattle.tera.proofs.engine.TeraOver.render_output.Goals as goal

pub returns-then-has_missing_callee-clause-means : goal.returns-then-has_missing_callee-clause-means
returns-then-has_missing_callee-clause-means g c =
    let code = ap (λ (l : Listing). l.code) (c.in_ok-text.ensures.body ∙ c.in_ok-chunk.ensures.ok) ∙ ap (λ xs. nodes_code (nodes_of xs) 0) c.as_slice-nodes.ensures.value in
    let own = c.in_ok-text.ensures.components ∙ c.in_ok-own.ensures.ok ∙ ap (λ xs. kept_all one_off_name (definitions_of xs)) c.as_slice-definitions.ensures.value in
    let r = registry_of g.O.Objects.engine c.args.self.now in
    let tree : Tree = tree_of c.args.output.now in
    let lacks = subst (λ (ts : Templates). c.has_missing_callee.result ≡ lacks_a_callee (knows_beside (with_templates r ts) tree) tree) c.in_ok-text.ensures.templates (c.has_missing_callee.ensures r tree one_off_name refl code own c.requires.1.1.1) in
    let same = ap (λ (s : Subject). lacks_a_callee (knows_in s.world) (tree_beside s)) c.requires.1.1.0 in
    lacking-says g.about c.missing_error.result (same ∙ sym lacks ∙ c.if-has_missing_callee.true) c.missing_error.ensures

pub returns-clause-means : goal.returns-clause-means
returns-clause-means g c =
    let code = ap (λ (l : Listing). l.code) (c.in_ok-text.ensures.body ∙ c.in_ok-chunk.ensures.ok) ∙ ap (λ xs. nodes_code (nodes_of xs) 0) c.as_slice-nodes.ensures.value in
    let own = c.in_ok-text.ensures.components ∙ c.in_ok-own.ensures.ok ∙ ap (λ xs. kept_all one_off_name (definitions_of xs)) c.as_slice-definitions.ensures.value in
    let r = registry_of g.O.Objects.engine c.args.self.now in
    let tree : Tree = tree_of c.args.output.now in
    let lacks = subst (λ (ts : Templates). c.has_missing_callee.result ≡ lacks_a_callee (knows_beside (with_templates r ts) tree) tree) c.in_ok-text.ensures.templates (c.has_missing_callee.ensures r tree one_off_name refl code own c.requires.1.1.1) in
    let known = ap (λ (s : Subject). lacks_a_callee (knows_in s.world) (tree_beside s)) c.requires.1.1.0 ∙ sym lacks ∙ c.if-has_missing_callee.false in
    let P : Result Text Fault → Type 0 = Gives (string_bytes {Z = Global}) c.run_counted.result in
    subst P (nothing-missing g.about known) c.run_counted.ensures.means
