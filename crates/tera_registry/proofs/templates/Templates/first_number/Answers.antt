use Rattle.std.proofs.Common.{◌≡◌, ◌+◌, ◌<◌, Some, length, sym, ap, ◌∙◌, subst, arith}
use Rattle.tera_registry.specs.Bodies.{start}
use Rattle.tera_registry.specs.Numbers.{number_at}
use Rattle.tera_registry.specs.Templates.{templates_of}
use Rattle.tera_registry.proofs.Ancestors.{kept-climbable}
use Rattle.tera_registry.proofs.Counted.{entry-within, first-within}
use Rattle.tera_registry.proofs.templates.Templates.first_number.Goals as goal

pub first_definer-requires : goal.first_definer-requires
first_definer-requires g c =
    let self = c.args.self.now in (
      kept-climbable g.registry self.all.items c.as_slice.result.now self.prefixes.items self.ups.items c.as_slice-2.result.now c.requires.0 c.as_slice.ensures.value c.as_slice-2.ensures.value self.rises self.faultless self.placed,
      subst (λ ts. c.args.from < length ts) (sym c.as_slice.ensures.value) c.requires.1,
    )

pub overflow_add-at : goal.overflow_add-at
overflow_add-at g c =
    let self = c.args.self.now in
    let there = first-within self g.registry c.args.block.now c.args.from c.in-Some.at c.requires.0 c.requires.1 c.in-Some.ensures.number in
    omega (arith, there, entry-within self _ there, self.table.entries.ok)

pub number-requires : goal.number-requires
number-requires g c =
    let there = first-within c.args.self.now g.registry c.args.block.now c.args.from c.in-Some.at c.requires.0 c.requires.1 c.in-Some.ensures.number in
    record {
      template = omega (arith, c.in-Some.ensures.there, ap length c.as_slice.ensures.value);
      there = omega (arith, there);
    }

pub returns-in-Some : goal.returns-in-Some
returns-in-Some g c = λ t is.
    let es = templates_of c.args.self.now in
    let at = c.in-Some.at in
    let n : start es at.template + (1 + at.block) ≡ number_at es at = omega arith in
    ap Some (c.number.ensures ∙ n ∙ ap (λ q. number_at q.templates at) (sym c.requires.0)) ∙ c.in-Some.ensures.number t is
