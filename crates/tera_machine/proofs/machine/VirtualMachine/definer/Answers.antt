use Rattle.std.proofs.Common.{Err, sym, ◌∙◌, subst}
use Rattle.tera_errors.specs.Answer.{Tells}
use Rattle.tera_errors.specs.Fault.{rendering_error}
use Rattle.tera_errors.specs.Site.{Name}
use Rattle.tera_meaning.specs.Whole.{fault_in}
use Rattle.tera_machine.specs.declared.requests.BlockRequest.TheVariants as asked
use Rattle.tera_machine.specs.Bodies.{FindsBody, IsBody}
use Rattle.tera_machine.specs.Config.{config_of}
use Rattle.tera_machine.specs.Subject.{place_at, template_of}
use Rattle.tera_machine.proofs.Numbers.{among_by_number, open_already, takes_first, told_body}
use Rattle.tera_machine.proofs.machine.VirtualMachine.definer.Goals as goal

pub returns-then-has-clause-finds : goal.returns-then-has-clause-finds
returns-then-has-clause-finds g c = λ conf.
    let w = g.M.Limit.world in
    let m = c.args.self.now in
    let name = c.in-Block.name.now in
    let span = c.in-Block.span in
    let v = (config_of conf).run.vars in
    let place = place_at m c.args.chunk.now.file c.args.blocks.now conf in
    let number = sym c.definers.ensures.number ∙ sym c.in-Some.ensures.number in
    let is = c.has.ensures ∙ among_by_number w.registry (template_of m) name c.in-Some.definer.number number c.args.blocks.now.opened.inner c.requires.numbered in
    let told = subst (λ (f : Name). Tells c.open_block.result (rendering_error (record { file = f; span = span }))) c.file-then-has.ensures c.open_block.ensures in
    let refused = open_already w place name span v (sym is ∙ c.if-has.true) in
    subst (λ a. FindsBody w place a v (Err c.open_block.result)) (sym c.in-Block.is) (told_body w place (asked.Block c.in-Block.name span) v c.open_block.result (fault_in place span) refused told)

pub returns-else-has-clause-finds : goal.returns-else-has-clause-finds
returns-else-has-clause-finds g c = λ conf.
    let w = g.M.Limit.world in
    let m = c.args.self.now in
    let name = c.in-Block.name.now in
    let span = c.in-Block.span in
    let v = (config_of conf).run.vars in
    let place = place_at m c.args.chunk.now.file c.args.blocks.now conf in
    let next = c.in-Some.ensures.next in
    let number = sym c.definers.ensures.number ∙ sym c.in-Some.ensures.number in
    let is = c.has.ensures ∙ among_by_number w.registry (template_of m) name c.in-Some.definer.number number c.args.blocks.now.opened.inner c.requires.numbered in
    subst (λ a. IsBody w place a v c.in-Some.definer) (sym c.in-Block.is) (record {
      definer = next.definer;
      takes = takes_first w place name span v (sym is ∙ c.if-has.false) (sym c.definers.ensures.those ∙ next.is);
      code = next.code;
    })

pub returns-else-has-clause-belong : goal.returns-else-has-clause-belong
returns-else-has-clause-belong g c = c.in-Some.ensures.among g.M.Limit.world.registry c.definers.ensures.among

pub returns-in-Some-next-clause-belong : goal.returns-in-Some-next-clause-belong
returns-in-Some-next-clause-belong g c = c.in-Some-next.ensures.among g.M.Limit.world.registry c.requires.among
