use Rattle.tera_registry.specs.HandedOut.{code_of}
use Rattle.tera.specs.Registry.{registry_of, subject_of_file}
use Rattle.tera.proofs.engine.TeraOver.render_block.Given as goal

abbrev pub ghost-render_found_block : goal.ghost-render_found_block
ghost-render_found_block g a =
    subject_of_file (registry_of g.O.Objects.engine a.self.now) a.found.name.now (code_of a.root).file a.context.now
