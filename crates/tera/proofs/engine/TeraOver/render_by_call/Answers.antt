use Rattle.std.proofs.Common.{Global, ◌+◌, ◌*◌, ◌≤◌, subst, string_bytes}
use Rattle.tera_errors.specs.Site.{Name}
use Rattle.tera_errors.specs.Answer.{Gives}
use Rattle.tera_meaning.specs.Rendering.{render_component}
use Rattle.tera.specs.Budget.{component_visits}
use Rattle.tera.specs.Lent.{lent_text}
use Rattle.tera.specs.Registry.{registry_of}
use Rattle.tera.proofs.ByComponent.{finds-itself, found-named, renders-component, no_component}
use Rattle.tera.proofs.engine.TeraOver.render_by_call.Goals as goal

pub render_found_component-answer-requires-clause-defined : goal.render_found_component-answer-requires-clause-defined
render_found_component-answer-requires-clause-defined g c =
    let r = registry_of g.O.Objects.engine c.args.self.now in
    finds-itself r c.args.name.now c.in-Some.found (c.in-Some.ensures.defined r)

pub returns-in-Some-clause-means : goal.returns-in-Some-clause-means
returns-in-Some-clause-means g c =
    let r = registry_of g.O.Objects.engine c.args.self.now in
    let body = lent_text c.args.body in
    let same = found-named r c.args.name.now c.in-Some.found (c.in-Some.ensures.defined r) in
    let P : Name → Type 0 = λ n. Gives (string_bytes {Z = Global}) c.render_found_component-answer.result (render_component r n c.args.args.now c.args.implicits.now body c.args.autoescape) in
    rw c.tell.ensures (renders-component r c.args.name.now c.args.args.now c.args.implicits.now body c.args.autoescape (string_bytes {Z = Global}) c.render_found_component-answer.result (subst P same c.render_found_component-answer.ensures.means))

pub returns-in-Some-clause-few : goal.returns-in-Some-clause-few
returns-in-Some-clause-few g c =
    let r = registry_of g.O.Objects.engine c.args.self.now in
    let same = found-named r c.args.name.now c.in-Some.found (c.in-Some.ensures.defined r) in
    let P : Name → Type 0 = λ n. c.render_found_component-answer.new.steps ≤ c.args.steps.now + 8 * component_visits r n c.args.args.now c.args.implicits.now (lent_text c.args.body) c.args.autoescape in
    subst P same c.render_found_component-answer.ensures.few

pub returns-in-None-clause-means : goal.returns-in-None-clause-means
returns-in-None-clause-means g c =
    let r = registry_of g.O.Objects.engine c.args.self.now in
    no_component r c.args.name.now c.args.args.now c.args.implicits.now (lent_text c.args.body) c.args.autoescape c.no_component.result c.no_component.ensures (c.in-None.ensures.defined r)
