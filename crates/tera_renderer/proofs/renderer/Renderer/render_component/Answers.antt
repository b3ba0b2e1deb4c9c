use Rattle.tera_renderer.proofs.Ends.{makes_text}
use Rattle.tera_renderer.proofs.renderer.Renderer.render_component.Goals as goal

pub returns : goal.returns
returns g c = makes_text _ _ _ _ _ c.component_text-answer.result c.leave_text.ensures.left c.leave_text.ensures.told c.component_text-answer.ensures
