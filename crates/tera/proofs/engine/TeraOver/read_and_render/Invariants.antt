use Rattle.tera_syntax_tree.specs.View.{tree_of}
use Rattle.tera.specs.Registry.{registry_of, subject_beside}
use Rattle.tera.proofs.engine.TeraOver.read_and_render.Given as goal

abbrev pub ghost-render_output : goal.ghost-render_output
ghost-render_output g a = subject_beside (registry_of g.O.Objects.engine a.self.now) (tree_of a.output.now) a.context.now a.autoescape
