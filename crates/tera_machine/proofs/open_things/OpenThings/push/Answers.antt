use Rattle.std.proofs.Common.{length, refl, ap, ◌∙◌, arith}
use Rattle.tera_machine.specs.OpenThings.{mark_at}
use Rattle.tera_machine.proofs.Heights.{more_low, more_high, set_mark}
use Rattle.tera_machine.proofs.open_things.OpenThings.push.Goals as goal

pub invariant_of-self-then-len-lt-FEW : goal.invariant_of-self-then-len-lt-FEW
invariant_of-self-then-len-lt-FEW g c =
    let o = c.self.inside in
    rw c.in_ok-push.ensures.ok (more_low g.T.Numbered.number_of o.start 0 c.args.thing o.things o.marks.entries c.self.invariant (omega (arith, c.if-len-lt-FEW.true, c.len.ensures.count)) refl)

pub invariant_of-self-in-Ok : goal.invariant_of-self-in-Ok
invariant_of-self-in-Ok g c =
    let o = c.self.inside in
    let all = c.in_ok-push-2.ensures.ok in
    let set = set_mark c.number-number.result (g.T.Numbered.number_of c.args.thing) c.len-2.result o.marks.entries c.insert.new.self.entries c.number-number.ensures c.in-Ok.ensures.updates.0 in
    rw all (more_high g.T.Numbered.number_of o.start c.mark-before.result c.len-2.result c.args.thing o.things o.marks.entries c.insert.new.self.entries c.self.invariant (omega (arith, c.if-len-lt-FEW.false, c.len.ensures.count)) (c.mark-before.ensures ∙ ap (mark_at o.marks.entries) c.number-number.ensures) (c.len-2.ensures.count ∙ ap length all) set)
