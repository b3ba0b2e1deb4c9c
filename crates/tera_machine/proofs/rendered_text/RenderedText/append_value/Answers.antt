use Rattle.std.proofs.Common.{string_bytes}
use Rattle.std.proofs.lemmas.Str.{IsUtf8-had}
use Rattle.tera_machine.proofs.Starts.{starts-written, layers-written}
use Rattle.tera_machine.proofs.rendered_text.RenderedText.append_value.Goals as goal

pub invariant_of-self : goal.invariant_of-self
invariant_of-self g c =
    let t = c.self.inside in
    starts-written c.write.result t.start t.outer (string_bytes t.all) (string_bytes c.write.new.out) _ c.self.invariant (IsUtf8-had (string_bytes t.all) t.all.ok) (IsUtf8-had (string_bytes c.write.new.out) c.write.new.out.ok) c.write.ensures.ok c.write.ensures.err

pub returns : goal.returns
returns g c =
    let t = c.self.inside in
    layers-written c.write.result t.start t.outer (string_bytes t.all) (string_bytes c.write.new.out) _ c.args.self.now c.self.invariant c.self.view_is c.write.ensures.ok
