use Rattle.std.proofs.Common.{◌≡◌, ◌+◌, sym, ap, ◌∙◌, arith, slice_get}
use Rattle.tera_registry.specs.Bodies.{listings, start}
use Rattle.tera_registry.specs.Templates.{templates_of}
use Rattle.tera_registry.proofs.Counted.{own-within}
use Rattle.tera_registry.proofs.templates.Templates.own_body.Goals as goal

pub number-requires : goal.number-requires
number-requires c =
    let lt = own-within c.args.self.now c.args.position c.requires in
    record { template = c.requires; there = omega (arith, lt) }

pub body-requires : goal.body-requires
body-requires c = omega (arith, own-within c.args.self.now c.args.position c.requires, c.number.ensures)

pub returns-clause-code : goal.returns-clause-code
returns-clause-code c =
    let es = templates_of c.args.self.now in
    let n : start es c.args.position ≡ start es c.args.position + 0 = omega arith in
    ap (slice_get (listings es)) (n ∙ sym c.number.ensures) ∙ c.body.ensures.code
