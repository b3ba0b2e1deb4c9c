use Rattle.std.proofs.Common.{refl, sym, ap, ◌∙◌, subst}
use Rattle.tera_machine.specs.declared.open_bodies.OpenBodies.{OpenBodies}
use Rattle.tera_machine.specs.declared.configuration.Configuration.{Configuration}
use Rattle.tera_machine.specs.declared.wanted_block.WantedBlock.{WantedBlock}
use Rattle.tera_machine.specs.Config.{config_of}
use Rattle.tera_machine.specs.Flow.{Written, Pushed}
use Rattle.tera_machine.specs.OpenThings.{one_fewer, ended_at}
use Rattle.tera_machine.specs.Apart.{Rejoins}
use Rattle.tera_machine.specs.Open.{machine_by, left_by}
use Rattle.tera_machine.specs.WantedBlock.{Noted, ended_by}
use Rattle.tera_machine.proofs.machine.VirtualMachine.leave.Goals.{in-Block+in_ok-end_body-in-Block, in-Include+in_ok-end_include-in-Include, in-Component+in_ok-end_component-in-Component}
use Rattle.tera_machine.proofs.machine.VirtualMachine.leave.Goals as goal

pub returns-clause-ok : goal.returns-clause-ok
returns-clause-ok g c =
    let r = c.pop_top-at.result in
    let m = c.args.self.now in
    let b3 = c.args.blocks.now in
    let c3 = c.args.configuration.now in
    let b4 = c.match-back.blocks in
    let c4 = c.match-back.configuration in
    elim c.match-back.branch [
      | in-Block+in_ok-end_body-in-Block w ↦
          (let over = w.in_ok-end_body-in-Block.ensures in
          let left = w.leave.ensures in
          let of = λ (b : WantedBlock). Noted b3.wanted (ended_by w.in-Block.asked (config_of c3).run.text) b in
          record {
            waiting = r;
            is = c.pop_top-at.ensures;
            body = refl;
            at = refl;
            machine = w.self-is ∙ sym (ap (λ b. machine_by b m) w.in-Block.is);
            left = subst (λ b. left_by b r b3 c3 b4 c4) (sym w.in-Block.is) (record {
              config = ap config_of w.configuration-is ∙ over.config;
              opened = ap (λ (b : OpenBodies). b.opened) w.blocks-is ∙ left.opened;
              above = ap (λ (b : OpenBodies). b.above) w.blocks-is ∙ left.above;
              noted = subst of (sym (ap (λ (b : OpenBodies). b.wanted) w.blocks-is ∙ left.wanted)) over.noted;
              included = ap (λ (b : OpenBodies). b.included) w.blocks-is ∙ left.included;
              places = ap (λ (x : Configuration). x.places) w.configuration-is ∙ over.places;
              scopes = ap (λ (x : Configuration). x.scopes) w.configuration-is ∙ over.scopes;
            });
          })
      | in-Include+in_ok-end_include-in-Include w ↦
          (let left = w.leave_apart.ensures in
          record {
            waiting = r;
            is = c.pop_top-at.ensures;
            body = refl;
            at = refl;
            machine = w.self-is ∙ sym (ap (λ b. machine_by b m) w.in-Include.is);
            left = subst (λ b. left_by b r b3 c3 b4 c4) (sym w.in-Include.is) (
              record {
                rejoins = subst (Rejoins Written c3 r.outer) (sym w.configuration-is) w.in_ok-end_include-in-Include.ensures.rejoins;
                opened = ap (λ (b : OpenBodies). b.opened) w.blocks-is ∙ left.opened;
                above = ap (λ (b : OpenBodies). b.above) w.blocks-is ∙ left.above;
                wanted = ap (λ (b : OpenBodies). b.wanted) w.blocks-is ∙ left.wanted;
              },
              ap (λ (b : OpenBodies). b.included) w.blocks-is ∙ w.pop.ensures ∙ ap one_fewer left.included,
            );
          })
      | in-Component+in_ok-end_component-in-Component w ↦
          (let left = w.leave_apart-in-Component.ensures in
          record {
            waiting = r;
            is = c.pop_top-at.ensures;
            body = refl;
            at = refl;
            machine = w.self-is ∙ sym (ap (λ b. machine_by b m) w.in-Component.is);
            left = subst (λ b. left_by b r b3 c3 b4 c4) (sym w.in-Component.is) (
              record {
                rejoins = subst (Rejoins (Pushed w.in-Component.safe w.in-Component.span) c3 r.outer) (sym w.configuration-is) w.in_ok-end_component-in-Component.ensures.rejoins;
                opened = ap (λ (b : OpenBodies). b.opened) w.blocks-is ∙ left.opened;
                above = ap (λ (b : OpenBodies). b.above) w.blocks-is ∙ left.above;
                wanted = ap (λ (b : OpenBodies). b.wanted) w.blocks-is ∙ left.wanted;
              },
              ap (λ (b : OpenBodies). b.included) w.blocks-is ∙ w.end.ensures ∙ ap (ended_at w.in-Component.included) left.included,
            );
          })
    ]
