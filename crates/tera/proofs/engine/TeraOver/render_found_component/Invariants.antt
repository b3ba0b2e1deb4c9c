use Rattle.tera_state.specs.Scopes.{around_of}
use Rattle.tera_meaning.specs.Components.{component}
use Rattle.tera.specs.Registry.{registry_of, subject_of_component}
use Rattle.tera.proofs.engine.TeraOver.render_found_component.Given as goal

abbrev pub ghost-run_component : goal.ghost-run_component
ghost-run_component g a =
    let r = registry_of g.O.Objects.engine a.self.now in
    subject_of_component r (component r a.found.definition.now.name) (around_of a.scopes) a.autoescape
