use Rattle.std.proofs.Common.{ap, sym, ◌∙◌, string_bytes}
use Rattle.tera_components.specs.Definition.{Formal}
use Rattle.tera_components.proofs.Arguments.{are_names_more}
use Rattle.tera_components.proofs.Kept.{kept_is, kept_more}
use Rattle.tera_components.proofs.definition.ComponentDefinition.new.Goals as goal

pub loop-parameter-preserved : goal.loop-parameter-preserved
loop-parameter-preserved c =
    let made = kept_is c.parameter-item.result c.in_ok-new.field-0 c.in_ok-new.ensures in
    let named = c.in_ok-name.ensures.ok ∙ sym (ap (λ (f : Formal). f.name) made) in
    record {
      made = kept_more c.deref-parameter-items.result.now c.loop-parameter.parameter-index c.parameter-item.result c.loop-parameter.arguments.items c.push.new.self.items c.in_ok-new.field-0 c.loop-parameter-test.true c.parameter-item.is c.loop-parameter.invariant.made made c.in_ok-push.ensures.items;
      named = are_names_more c.loop-parameter.names c.insert.new.self (string_bytes c.in_ok-name.name) c.none.result c.loop-parameter.arguments.items c.push.new.self.items c.in_ok-new.field-0 c.loop-parameter.invariant.named c.in_ok-insert.ensures.ok named c.in_ok-push.ensures.items;
    }
