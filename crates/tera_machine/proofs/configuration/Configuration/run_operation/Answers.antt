use Rattle.std.proofs.Common.{refl, subst}
use Rattle.tera_machine.specs.Effect.{Does, attribute_loaded}
use Rattle.tera_machine.proofs.Reaching.{ran_alone, ran_alone_after}
use Rattle.tera_machine.proofs.configuration.Configuration.run_operation.Goals as goal

pub returns-in-Some : goal.returns-in-Some
returns-in-Some g c = ran_alone c.requires.can c.in-Some.ensures.means c.file.ensures c.operate.ensures

pub returns-then-is_write_top : goal.returns-then-is_write_top
returns-then-is_write_top g c = ran_alone c.requires.can (c.if-is_write_top.ensures.means refl) c.file-then-is_write_top.ensures c.write_top.ensures

pub returns-in-Some-as_attribute : goal.returns-in-Some-as_attribute
returns-in-Some-as_attribute g c =
    let did = subst (λ name. Does (attribute_loaded c.file-in-Some-as_attribute.result.now name c.in-Some-as_attribute.optional c.in-Some-as_attribute.span) c.args.self.now c.load_attribute.result c.load_attribute.new.self) c.as_str.ensures c.load_attribute.ensures in
    ran_alone c.requires.can c.in-Some-as_attribute.ensures.means c.file-in-Some-as_attribute.ensures did

pub returns-in-Some-as_store : goal.returns-in-Some-as_store
returns-in-Some-as_store g c = ran_alone_after c.requires.can c.in-Some-as_store.ensures.means c.continue_after.ensures c.store.ensures
