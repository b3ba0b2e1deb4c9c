use Rattle.std.proofs.Common.{◌++◌, ◌-◌, Global, Ok, Err, String, ap, ◌∙◌, sym, subst}
use Rattle.tera_registry.specs.HandedOut.{code_of}
use Rattle.tera_machine.specs.Config.{config_of}
use Rattle.tera_machine.specs.Exec.{Ran}
use Rattle.tera_machine.specs.WantedBlock.{noted_name, text_kept}
use Rattle.tera_registry.specs.declared.templates.FoundTemplate.{FoundTemplate}
use Rattle.tera_machine.specs.declared.open_bodies.OpenBlock.{OpenBlock}
use Rattle.tera_machine.specs.OpenThings.{Nested}
use Rattle.tera_machine.specs.Subject.{AreFrom, AreNumbered, template_of}
use Rattle.tera_machine.proofs.Conclusions.{can_run, gave_meant, fault_ran}
use Rattle.tera_machine.proofs.Noting.{kept_is, gives_block, fails_block}
use Rattle.tera_machine.proofs.Took.{place_none}
use Rattle.tera_machine.proofs.machine.VirtualMachine.run_for_block.Goals as goal

pub run_counted-requires-clause-belong : goal.run_counted-requires-clause-belong
run_counted-requires-clause-belong g c = (c.requires.1.1.1.1.0, c.new-blocks.ensures.among g.about.world.registry, subst (λ (i : Nested FoundTemplate). AreFrom i.inner g.about.world.registry) (sym c.new-blocks.ensures.included) tt, subst (λ (o : Nested OpenBlock). AreNumbered g.about.world.registry (template_of c.args.self.now) o.inner) (sym c.new-blocks.ensures.opened) tt)

pub run_counted-requires-clause-within : goal.run_counted-requires-clause-within
run_counted-requires-clause-within g c =
    can_run g.about.world g.about.tree (place_none c.args.self.now (code_of c.args.body).file c.new-blocks.result c.args.configuration.now c.new-blocks.ensures.opened c.new-blocks.ensures.above c.new-blocks.ensures.included ∙ c.requires.1.1.1.1.1.0) c.requires.1.1.1.1.1.1.0 (config_of c.args.configuration.now) c.requires.1.1.1.1.1.1.1.0 c.args.steps.now

pub returns-in-Err-clause-exact : goal.returns-in-Err-clause-exact
returns-in-Err-clause-exact g c =
    fault_ran (String Global) g.about.world g.about.place (code_of c.args.body).code (config_of c.args.configuration.now) c.in-Err.error (config_of c.run_counted.new.configuration) (c.run_counted.new.steps - c.args.steps.now) (subst (λ p. Ran {A = Unit {0}} g.about.world p (code_of c.args.body).code (config_of c.args.configuration.now) (Err c.in-Err.error) (config_of c.run_counted.new.configuration) (c.run_counted.new.steps - c.args.steps.now)) (place_none c.args.self.now (code_of c.args.body).file c.new-blocks.result c.args.configuration.now c.new-blocks.ensures.opened c.new-blocks.ensures.above c.new-blocks.ensures.included ∙ c.requires.1.1.1.1.1.0) c.in-Err.ensures.ends)

pub returns-in-Err-clause-text : goal.returns-in-Err-clause-text
returns-in-Err-clause-text g c =
    fails_block c.args.block.now _ (config_of c.args.configuration.now) (config_of c.run_counted.new.configuration) c.in-Err.error (gave_meant g.about.world g.about.tree (place_none c.args.self.now (code_of c.args.body).file c.new-blocks.result c.args.configuration.now c.new-blocks.ensures.opened c.new-blocks.ensures.above c.new-blocks.ensures.included ∙ c.requires.1.1.1.1.1.0) c.requires.1.1.1.1.1.1.0 (config_of c.args.configuration.now) c.requires.1.1.1.1.1.1.1.0 (Err c.in-Err.error) _ _ c.in-Err.ensures.ends)

pub returns-clause-exact : goal.returns-clause-exact
returns-clause-exact g c =
    subst (λ p. Ran {A = Unit {0}} g.about.world p (code_of c.args.body).code (config_of c.args.configuration.now) (Ok tt) (config_of c.run_counted.new.configuration) (c.run_counted.new.steps - c.args.steps.now)) (place_none c.args.self.now (code_of c.args.body).file c.new-blocks.result c.args.configuration.now c.new-blocks.ensures.opened c.new-blocks.ensures.above c.new-blocks.ensures.included ∙ c.requires.1.1.1.1.1.0) c.in-Ok.ensures.ends

pub returns-clause-text : goal.returns-clause-text
returns-clause-text g c =
    gives_block c.args.block.now _ (config_of c.args.configuration.now) (config_of c.run_counted.new.configuration) _ (gave_meant g.about.world g.about.tree (place_none c.args.self.now (code_of c.args.body).file c.new-blocks.result c.args.configuration.now c.new-blocks.ensures.opened c.new-blocks.ensures.above c.new-blocks.ensures.included ∙ c.requires.1.1.1.1.1.0) c.requires.1.1.1.1.1.1.0 (config_of c.args.configuration.now) c.requires.1.1.1.1.1.1.1.0 (Ok tt) _ _ c.in-Ok.ensures.ends)
    (c.into_text.ensures ∙ kept_is c.args.block.now c.in-Ok.ensures.stays.since _ (ap noted_name c.new-blocks.ensures.wanted ∙ c.in_ok-wanted.ensures.name) (ap text_kept c.new-blocks.ensures.wanted ∙ c.in_ok-wanted.ensures.last) (c.in-Ok.ensures.stays.ended ∙ ap (λ bs. bs ++ c.in-Ok.ensures.stays.since) c.requires.1.1.1.1.1.1.1.1) c.in-Ok.ensures.stays.noted)
