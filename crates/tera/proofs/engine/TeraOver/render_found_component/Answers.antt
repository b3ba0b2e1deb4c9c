use Rattle.std.proofs.Common.{ℕ, ◌+◌, ◌*◌, ◌≤◌, Global, Result, subst, string_bytes}
use Rattle.tera_errors.specs.Site.{Text}
use Rattle.tera_errors.specs.Fault.{Fault}
use Rattle.tera_errors.specs.Answer.{Gives}
use Rattle.tera_state.specs.Scopes.{around_of, variables_of}
use Rattle.tera.specs.Lent.{lent_text}
use Rattle.tera.specs.Registry.{registry_of}
use Rattle.tera.proofs.Renders.{same_ok}
use Rattle.tera.proofs.ByComponent.{component-unfit, component-runs, component-visits}
use Rattle.tera.proofs.engine.TeraOver.render_found_component.Goals as goal

pub returns-in-Err-clause-means : goal.returns-in-Err-clause-means
returns-in-Err-clause-means g c =
    let r = registry_of g.O.Objects.engine c.args.self.now in
    let caller = c.new-scopes in
    component-unfit r c.args.args.now c.args.implicits.now (lent_text c.args.body) c.args.autoescape c.args.found (around_of caller.result) (variables_of caller.result) caller.ensures.around caller.ensures.variables c.in_ok-body.body (same_ok _ _ c.in_ok-body.ensures) c.in-Err.error c.requires.defined c.in-Err.ensures

pub returns-clause-means : goal.returns-clause-means
returns-clause-means g c =
    let caller = c.new-scopes in
    let r = registry_of g.O.Objects.engine c.args.self.now in
    let is = component-runs r c.args.args.now c.args.implicits.now (lent_text c.args.body) c.args.autoescape c.args.found (around_of caller.result) (variables_of caller.result) caller.ensures.around caller.ensures.variables c.in_ok-body.body (same_ok _ _ c.in_ok-body.ensures) c.in-Ok.context (around_of c.enter_component.new.self) c.requires.defined c.in-Ok.ensures c.in_ok-enter_component.ensures.around in
    let P : Result Text Fault → Type 0 = Gives (string_bytes {Z = Global}) c.run_component.result in
    subst P is c.run_component.ensures.means

pub returns-clause-few : goal.returns-clause-few
returns-clause-few g c =
    let caller = c.new-scopes in
    let r = registry_of g.O.Objects.engine c.args.self.now in
    let is = component-visits r c.args.args.now c.args.implicits.now (lent_text c.args.body) c.args.autoescape c.args.found (around_of caller.result) (variables_of caller.result) caller.ensures.around caller.ensures.variables c.in_ok-body.body (same_ok _ _ c.in_ok-body.ensures) c.in-Ok.context (around_of c.enter_component.new.self) c.requires.defined c.in-Ok.ensures c.in_ok-enter_component.ensures.around in
    let P : ℕ → Type 0 = λ n. c.run_component.new.steps ≤ c.args.steps.now + 8 * n in
    subst P is c.run_component.ensures.few
