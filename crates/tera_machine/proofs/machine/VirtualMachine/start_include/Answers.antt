use Rattle.std.proofs.Common.{◌≡◌, refl, sym, ap, ◌∙◌, subst, Some}
use Rattle.tera_code.specs.Code.{listing_of}
use Rattle.tera_meaning.specs.Registry.{Registry}
use Rattle.tera_meaning.specs.Resolve.{entry_at}
use Rattle.tera_registry.specs.HandedOut.{code_of}
use Rattle.tera_machine.specs.declared.block_bodies.BodyEnd.TheVariants as back
use Rattle.tera_machine.specs.Flow.{Written, include_request}
use Rattle.tera_registry.specs.declared.templates.FoundTemplate.{FoundTemplate}
use Rattle.tera_machine.specs.declared.open_bodies.OpenBlock.{OpenBlock}
use Rattle.tera_machine.specs.Included.{names_in, names_opened}
use Rattle.tera_machine.specs.OpenThings.{Nested, one_fewer}
use Rattle.tera_machine.specs.Subject.{AreOf, AreFrom, AreNumbered, template_of, place_at}
use Rattle.tera_machine.proofs.Including.{include_entered}
use Rattle.tera_machine.proofs.Waiting.{keeps_included, not_taken}
use Rattle.tera_machine.proofs.machine.VirtualMachine.start_include.Goals as goal

pub returns-in-Err : goal.returns-in-Err
returns-in-Err g c =
    not_taken g.M.Limit.world c.args.self.now c.args.here c.args.next (include_request c.args.asked) Written c.args.blocks.now c.args.configuration.now c.args.waiting.now c.args.self.now c.args.blocks.now c.args.configuration.now c.args.waiting.now c.in-Err.error (c.in-Err.ensures c.args.configuration.now)

pub returns : goal.returns
returns g c =
    let w = g.M.Limit.world in
    let m = c.args.self.now in
    let file = (code_of c.args.here).file in
    let asked = c.args.asked in
    let b0 = c.args.blocks.now in
    let c0 = c.args.configuration.now in
    let apart = c.enter_apart-around.ensures in
    let is = c.in-Ok.ensures c0 in
    let all = apart.included ∙ c.in_ok-push.ensures.ok in
    let m1 = record m { template = Some c.in-Ok.found } in
    let own : code_of c.body.result ≡ listing_of is.entry.0 is.entry.1.tree.nodes = c.body.ensures.code w.registry is.entry (subst (λ (r : Registry). entry_at c.in-Ok.found.name.now r.templates ≡ Some is.entry) (sym is.among) is.own) in
    let entry = include_entered w m file asked.name.now asked.span b0 c0 is own m1 c.enter_apart-around.new.self refl refl refl (ap (λ (o : Nested OpenBlock). names_opened o.inner) apart.opened) apart.above (ap (λ (i : Nested FoundTemplate). names_in i.inner) all) c.in_ok-outer.ensures.begins in
    record {
      waits = record {
        body = c.args.here;
        at = c.args.next;
        above = b0.above;
        outer = c.in_ok-outer.outer;
        back = back.Include c.enter_apart-around.result m.template;
      };
      is = c.in_ok-push-2.ensures.ok;
      machine = refl;
      around = refl;
      at = refl;
      enters = entry;
      keeps = keeps_included w (place_at m file b0 c0) (include_request asked) Written (λ v r. refl) b0 c0 entry c.in_ok-outer.ensures.begins refl apart.opened apart.before.0 apart.before.1 apart.wanted c.args.here c.args.next m.template m.depth refl (ap one_fewer all);
      linked = record { template = is.among; text = c.requires.linked.text; components = c.requires.linked.components };
      belong = (
        subst (AreOf w.registry) (sym c.body.ensures.templates) is.among,
        apart.among w.registry,
        subst (λ (i : Nested FoundTemplate). AreFrom i.inner w.registry) (sym all) (is.among, c.requires.belong.2),
        subst (λ (o : Nested OpenBlock). AreNumbered w.registry (template_of m1) o.inner) (sym apart.opened) tt,
      );
      objects = refl;
    }
