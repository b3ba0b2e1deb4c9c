use Rattle.std.proofs.Common.{Err, None, refl}
use Rattle.tera_c.proofs.rendering_once.tera_render_once.Goals as goal

pub returns : goal.returns
returns c = record { outcome = Err None; reads = record { means = λ texts. tt; unread = λ no. tt }; copies = refl }
