use Rattle.tera_registry.specs.HandedOut.{code_of}
use Rattle.tera.specs.Registry.{registry_of, subject_of_file}
use Rattle.tera.proofs.engine.TeraOver.render_template.Given as goal

abbrev pub ghost-render_found : goal.ghost-render_found
ghost-render_found g a =
    subject_of_file (registry_of g.O.Objects.engine a.self.now) a.found.name.now (code_of a.root).file a.context.now
