use Rattle.std.proofs.Common.{string_bytes}
use Rattle.std.proofs.lemmas.Str.{IsUtf8-had}
use Rattle.tera_machine.proofs.Starts.{start_is_split}
use Rattle.tera_machine.proofs.rendered_text.RenderedText.end.Goals as goal

pub truncate-requires : goal.truncate-requires
truncate-requires c = λ _. start_is_split c.self.inside.start c.self.inside.outer (string_bytes c.self.inside.all) (IsUtf8-had (string_bytes c.self.inside.all) c.self.inside.all.ok) c.self.invariant
