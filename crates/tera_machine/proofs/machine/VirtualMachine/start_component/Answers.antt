use Rattle.std.proofs.Common.{refl, sym, ap, ◌∙◌, subst, length, None, Err}
use Rattle.tera_machine.specs.declared.requests.ComponentRequest.{ComponentRequest}
use Rattle.tera_machine.specs.declared.block_bodies.BodyEnd.TheVariants as back
use Rattle.tera_machine.specs.Config.{config_of}
use Rattle.tera_machine.specs.Flow.{component_request, component_use}
use Rattle.tera_registry.specs.declared.templates.FoundTemplate.{FoundTemplate}
use Rattle.tera_machine.specs.declared.open_bodies.OpenBlock.{OpenBlock}
use Rattle.tera_machine.specs.Included.{names_in, names_opened}
use Rattle.tera_machine.specs.OpenThings.{Nested, begun}
use Rattle.tera_machine.specs.Subject.{AreFrom, AreNumbered, template_of, place_at}
use Rattle.tera_machine.specs.Components.{Calls}
use Rattle.tera_machine.specs.Open.{Taken}
use Rattle.tera_registry.specs.HandedOut.{code_of}
use Rattle.tera_machine.proofs.Calling.{call_entered}
use Rattle.tera_machine.proofs.Waiting.{keeps_called, not_called}
use Rattle.tera_machine.proofs.machine.VirtualMachine.start_component.Goals as goal

pub returns-in-Err : goal.returns-in-Err
returns-in-Err g c =
    let place = place_at c.args.self.now (code_of c.args.here).file c.args.blocks.now c.args.configuration.now in
    let refused = subst (λ (a : ComponentRequest). Calls g.M.Limit.world place (component_request a) (config_of c.args.configuration.now).run.vars (Err c.in-Err.error)) c.into_inner-asked.ensures (c.in-Err.ensures c.args.blocks.now) in
    not_called g.M.Limit.world c.args.self.now c.args.here c.args.next (component_request c.args.asked.value) (component_use c.args.asked.value) c.args.blocks.now c.args.configuration.now c.args.waiting.now c.args.self.now c.args.blocks.now c.args.configuration.now c.args.waiting.now c.in-Err.error refused

pub returns : goal.returns
returns g c =
    let w = g.M.Limit.world in
    let m = c.args.self.now in
    let here = c.args.here in
    let file = (code_of here).file in
    let asked = c.into_inner-asked.result in
    let b0 = c.args.blocks.now in
    let c0 = c.args.configuration.now in
    let m1 = record m { template = None; depth = c.in-Ok.called.depth } in
    let b1 = record c.enter_apart-around.new.self { included = c.begin-included.new.self } in
    let apart = c.enter_apart-around.ensures in
    let none = c.begin-included.ensures.begins in
    let begun-included = none ∙ ap begun apart.included in
    let same = c.begin-included.ensures.start ∙ ap (λ (i : Nested FoundTemplate). length i.around) apart.included in
    let entry = call_entered w m file (component_request asked) (component_use asked) b0 c0 (c.in-Ok.ensures b0) m1 b1 refl refl refl (ap (λ (o : Nested OpenBlock). names_opened o.inner) apart.opened) apart.above (ap (λ (i : Nested FoundTemplate). names_in i.inner) none) c.in_ok-outer.ensures.begins in
    subst (λ (a : ComponentRequest). Taken w m here c.args.next (component_request a) (component_use a) b0 c0 c.args.waiting.now m1 c.in-Ok.called.body b1 c.begin_component.new.self c.push.new.self) c.into_inner-asked.ensures (record {
      waits = record {
        body = c.args.here;
        at = c.args.next;
        above = b0.above;
        outer = c.in_ok-outer.outer;
        back = back.Component c.enter_apart-around.result c.begin-included.result m.template m.depth asked.safe asked.span;
      };
      is = c.in_ok-push.ensures.ok;
      machine = refl;
      around = refl;
      at = refl;
      enters = entry;
      keeps = keeps_called w (place_at m file b0 c0) (component_request asked) (component_use asked) (λ v r. refl) b0 c0 entry c.in_ok-outer.ensures.begins refl apart.opened apart.before.0 apart.before.1 apart.wanted c.args.here c.args.next m.template m.depth c.begin-included.result same begun-included asked.safe asked.span refl;
      linked = record { template = tt; text = c.requires.linked.text; components = c.requires.linked.components };
      belong = (
        (c.in-Ok.ensures b0).linked,
        apart.among w.registry,
        subst (λ (i : Nested FoundTemplate). AreFrom i.inner w.registry) (sym none) tt,
        subst (λ (o : Nested OpenBlock). AreNumbered w.registry (template_of m1) o.inner) (sym apart.opened) tt,
      );
      objects = refl;
    })
