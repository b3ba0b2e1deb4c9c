use Rattle.std.proofs.Common.{◌≤◌, sym, ap, ◌∙◌, arith}
use Rattle.std.specs.Prelude.{nat_lt}
use Rattle.std.proofs.lemmas.Bool.{le-ltb, lt-ltb}
use Rattle.std.proofs.lemmas.List.{length-map}
use Rattle.tera_machine.specs.OpenThings.{Nested, few, has_number, height_of, things_of}
use Rattle.tera_machine.specs.declared.open_things.Marked.{Marked}
use Rattle.tera_machine.proofs.Heights.{has_by_height, height_within, by_mark}
use Rattle.tera_machine.proofs.open_things.OpenThings.has.Goals as goal

pub returns-then-is_low : goal.returns-then-is_low
returns-then-is_low g c =
    let o = c.self.inside in
    let height = height_of g.T.Numbered.number_of c.args.number (things_of o.things) in
    sym (lt-ltb o.start height (c.is_low.ensures.there c.if-is_low.true))
    ∙ sym (has_by_height g.T.Numbered.number_of c.args.number o.start (things_of o.things))
    ∙ ap (λ (n : Nested _). has_number g.T.Numbered.number_of c.args.number n.inner) c.self.view_is

pub returns-then-len-gt-FEW : goal.returns-then-len-gt-FEW
returns-then-len-gt-FEW g c =
    let o = c.self.inside in
    ap (nat_lt o.start) (c.mark.ensures ∙ c.self.invariant.marked c.args.number)
    ∙ by_mark g.T.Numbered.number_of c.args.number o.start (things_of o.things) (c.is_low.ensures.not_there c.if-is_low.false)
    ∙ sym (has_by_height g.T.Numbered.number_of c.args.number o.start (things_of o.things))
    ∙ ap (λ (n : Nested _). has_number g.T.Numbered.number_of c.args.number n.inner) c.self.view_is

pub returns-else-len-gt-FEW : goal.returns-else-len-gt-FEW
returns-else-len-gt-FEW g c =
    let o = c.self.inside in
    let height = height_of g.T.Numbered.number_of c.args.number (things_of o.things) in
    let low : height ≤ few = omega (arith, c.if-len-gt-FEW.false, c.len.ensures.count, height_within g.T.Numbered.number_of c.args.number (things_of o.things), length-map o.things (λ (m : Marked _). m.thing)) in
    le-ltb few c.len.result c.if-len-gt-FEW.false
    ∙ sym (le-ltb o.start height (c.is_low.ensures.not_there c.if-is_low.false low))
    ∙ sym (has_by_height g.T.Numbered.number_of c.args.number o.start (things_of o.things))
    ∙ ap (λ (n : Nested _). has_number g.T.Numbered.number_of c.args.number n.inner) c.self.view_is
