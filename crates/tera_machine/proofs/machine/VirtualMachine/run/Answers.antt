use Rattle.std.proofs.Common.{arith, ◌∙◌, ◌-◌, sym, subst}
use Rattle.tera_registry.specs.HandedOut.{code_of}
use Rattle.tera_machine.specs.Config.{config_of}
use Rattle.tera_machine.specs.Exec.{Ran}
use Rattle.tera_registry.specs.declared.templates.FoundTemplate.{FoundTemplate}
use Rattle.tera_machine.specs.declared.open_bodies.OpenBlock.{OpenBlock}
use Rattle.tera_machine.specs.OpenThings.{Nested}
use Rattle.tera_machine.specs.Subject.{AreFrom, AreNumbered, template_of}
use Rattle.tera_machine.proofs.Conclusions.{can_run, gave_meant}
use Rattle.tera_machine.proofs.Took.{place_none}
use Rattle.tera_machine.proofs.machine.VirtualMachine.run.Goals as goal

pub run_counted-requires-clause-belong : goal.run_counted-requires-clause-belong
run_counted-requires-clause-belong g c = (c.requires.1.1.1.1.0, c.new-blocks.ensures.among g.about.world.registry, subst (λ (i : Nested FoundTemplate). AreFrom i.inner g.about.world.registry) (sym c.new-blocks.ensures.included) tt, subst (λ (o : Nested OpenBlock). AreNumbered g.about.world.registry (template_of c.args.self.now) o.inner) (sym c.new-blocks.ensures.opened) tt)

pub run_counted-requires-clause-within : goal.run_counted-requires-clause-within
run_counted-requires-clause-within g c =
    can_run g.about.world g.about.tree (place_none c.args.self.now (code_of c.args.body).file c.new-blocks.result c.args.configuration.now c.new-blocks.ensures.opened c.new-blocks.ensures.above c.new-blocks.ensures.included ∙ c.requires.1.1.1.1.1.0) c.requires.1.1.1.1.1.1.0 (config_of c.args.configuration.now) c.requires.1.1.1.1.1.1.1 c.args.steps.now

pub returns-clause-exact : goal.returns-clause-exact
returns-clause-exact g c =
    subst (λ p. Ran g.about.world p (code_of c.args.body).code (config_of c.args.configuration.now) c.run_counted.result (config_of c.run_counted.new.configuration) (c.run_counted.new.steps - c.args.steps.now)) (place_none c.args.self.now (code_of c.args.body).file c.new-blocks.result c.args.configuration.now c.new-blocks.ensures.opened c.new-blocks.ensures.above c.new-blocks.ensures.included ∙ c.requires.1.1.1.1.1.0) c.run_counted.ensures.ends

pub returns-clause-few : goal.returns-clause-few
returns-clause-few g c = c.run_counted.ensures.bounded (omega arith)

pub returns-clause-means : goal.returns-clause-means
returns-clause-means g c =
    gave_meant g.about.world g.about.tree (place_none c.args.self.now (code_of c.args.body).file c.new-blocks.result c.args.configuration.now c.new-blocks.ensures.opened c.new-blocks.ensures.above c.new-blocks.ensures.included ∙ c.requires.1.1.1.1.1.0) c.requires.1.1.1.1.1.1.0 (config_of c.args.configuration.now) c.requires.1.1.1.1.1.1.1 _ _ _ c.run_counted.ensures.ends
