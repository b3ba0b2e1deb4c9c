use Rattle.std.proofs.Common.{sym}
use Rattle.tera_c.proofs.renderings.tera_render_component.Goals as goal

pub returns-in-Some : goal.returns-in-Some
returns-in-Some c = rw (sym c.body_of.ensures) (rw (sym c.in-Some.ensures.value, c.shut.ensures, sym c.deref_mut.ensures.value) c.render_component-answer.ensures)
