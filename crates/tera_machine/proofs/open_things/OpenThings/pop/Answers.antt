use Rattle.std.proofs.Common.{◌≡◌, ◌≤◌, suc, length, sym, ap, ◌∙◌, subst, arith}
use Rattle.std.proofs.lemmas.List.{length-map}
use Rattle.tera_machine.specs.OpenThings.{AreMarked, IsMarked, few, one_fewer, parted, things_of}
use Rattle.tera_machine.specs.declared.open_things.Marked.{Marked}
use Rattle.tera_machine.proofs.Heights.{top_marked, fewer_low, fewer_high, parted_fewer}
use Rattle.tera_machine.proofs.open_things.OpenThings.pop.Goals as goal

pub mark_again-requires : goal.mark_again-requires
mark_again-requires g c =
    let o = c.self.inside in
    let rest = c.pop_top-thing.new.self in
    let are = subst (λ ms. AreMarked g.T.Numbered.number_of o.start ms o.marks.entries) c.pop_top-thing.ensures c.self.invariant in
    let high : few ≤ length rest = omega (arith, c.if-height-gt-FEW.true, c.len-height.ensures.count, ap length c.pop_top-thing.ensures) in
    rw c.number.ensures (top_marked g.T.Numbered.number_of o.start c.pop_top-thing.result rest o.marks.entries are high)

pub invariant_of-self : goal.invariant_of-self
invariant_of-self g c =
    let o = c.self.inside in
    let rest = c.pop_top-thing.new.self in
    let one : length o.things ≡ suc (length rest) = ap length c.pop_top-thing.ensures in
    let are = subst (λ ms. AreMarked g.T.Numbered.number_of o.start ms o.marks.entries) c.pop_top-thing.ensures c.self.invariant in
    let set = subst (λ n. IsMarked n c.pop_top-thing.result.before o.marks.entries c.mark_again.new.marks.entries) c.number.ensures c.mark_again.ensures in
    fewer_high g.T.Numbered.number_of o.start c.pop_top-thing.result rest o.marks.entries c.mark_again.new.marks.entries are (omega (arith, c.if-height-self.true, c.len-height.ensures.count, one)) (omega (arith, c.if-height-gt-FEW.true, c.len-height.ensures.count, one)) set

pub invariant_of-self-else-height-gt-FEW : goal.invariant_of-self-else-height-gt-FEW
invariant_of-self-else-height-gt-FEW g c =
    let o = c.self.inside in
    let rest = c.pop_top-thing.new.self in
    let one : length o.things ≡ suc (length rest) = ap length c.pop_top-thing.ensures in
    let are = subst (λ ms. AreMarked g.T.Numbered.number_of o.start ms o.marks.entries) c.pop_top-thing.ensures c.self.invariant in
    fewer_low g.T.Numbered.number_of o.start c.pop_top-thing.result rest o.marks.entries are (omega (arith, c.if-height-self.true, c.len-height.ensures.count, one)) (omega (arith, c.if-height-gt-FEW.false, c.len-height.ensures.count, one))

pub returns-then-height-gt-FEW : goal.returns-then-height-gt-FEW
returns-then-height-gt-FEW g c =
    let o = c.self.inside in
    let rest = c.pop_top-thing.new.self in
    let one : length o.things ≡ suc (length rest) = ap length c.pop_top-thing.ensures in
    let within : o.start ≤ length (things_of rest) = omega (arith, c.if-height-self.true, c.len-height.ensures.count, one, length-map rest (λ (m : Marked _). m.thing)) in
    parted_fewer o.start c.pop_top-thing.result.thing (things_of rest) within
    ∙ ap one_fewer (sym (ap (λ ms. parted o.start (things_of ms)) c.pop_top-thing.ensures) ∙ c.self.view_is)

pub returns-then-height-self : goal.returns-then-height-self
returns-then-height-self g c =
    let o = c.self.inside in
    let rest = c.pop_top-thing.new.self in
    let one : length o.things ≡ suc (length rest) = ap length c.pop_top-thing.ensures in
    let within : o.start ≤ length (things_of rest) = omega (arith, c.if-height-self.true, c.len-height.ensures.count, one, length-map rest (λ (m : Marked _). m.thing)) in
    parted_fewer o.start c.pop_top-thing.result.thing (things_of rest) within
    ∙ ap one_fewer (sym (ap (λ ms. parted o.start (things_of ms)) c.pop_top-thing.ensures) ∙ c.self.view_is)
