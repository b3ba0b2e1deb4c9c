use Rattle.std.proofs.Common.{◌≡◌, length, refl, sym, ap, ◌∙◌, arith, slice_get}
use Rattle.tera_registry.specs.Bodies.{listings}
use Rattle.tera_registry.specs.Templates.{templates_of}
use Rattle.tera_registry.proofs.Counted.{entry-within}
use Rattle.tera_registry.proofs.Listed.{template-within, component-within, body-within, defined-so}
use Rattle.tera_registry.proofs.templates.Templates.definition_at.Goals as goal

pub index-requires : goal.index-requires
index-requires c =
    let self = c.args.self.now in
    omega (arith, template-within self c.args.choice c.requires, self.all.ok)

pub index-component-requires : goal.index-component-requires
index-component-requires c =
    let kept = c.deref-template.result.now in
    omega (arith, component-within c.args.self.now c.args.choice c.requires c.index.result.now kept c.index.ensures c.deref-template.ensures, kept.components.ok)

pub overflow_add-offset-2 : goal.overflow_add-offset-2
overflow_add-offset-2 c =
    let self = c.args.self.now in
    let kept = c.deref-template.result.now in
    let there = body-within self c.args.choice c.requires c.index.result.now kept c.index.ensures c.deref-template.ensures c.len.result (omega (arith, c.len.ensures, kept.blocks.ok)) in
    omega (arith, there, entry-within self _ there, self.table.entries.ok)

pub number-requires : goal.number-requires
number-requires c =
    let self = c.args.self.now in
    let kept = c.deref-template.result.now in
    record {
      template = template-within self c.args.choice c.requires;
      there = body-within self c.args.choice c.requires c.index.result.now kept c.index.ensures c.deref-template.ensures c.len.result (omega (arith, c.len.ensures, kept.blocks.ok));
    }

pub body-requires : goal.body-requires
body-requires c =
    let kept = c.deref-template.result.now in
    let there = body-within c.args.self.now c.args.choice c.requires c.index.result.now kept c.index.ensures c.deref-template.ensures c.len.result (omega (arith, c.len.ensures, kept.blocks.ok)) in
    omega (arith, there, c.number.ensures)

pub returns-clause-defined : goal.returns-clause-defined
returns-clause-defined c = λ r name is.
    let self = c.args.self.now in
    let kept = c.deref-template.result.now in
    let many : c.len.result ≡ length kept.blocks.items = omega (arith, c.len.ensures, kept.blocks.ok) in
    let code = ap (slice_get (listings (templates_of self))) (sym c.number.ensures) ∙ c.body.ensures.code in
    defined-so self c.args.choice c.requires c.index.result.now kept c.index.ensures c.deref-template.ensures r name c.len.result c.index-component.result.now _ is many c.index-component.ensures refl code
