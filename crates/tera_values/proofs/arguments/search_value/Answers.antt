use Rattle.std.proofs.Common.{arith, ltb-false, ◌≡◌, Ok, Err, Some, sym, ap, ◌∙◌}
use Rattle.tera_value_types.specs.Val.{Val}
use Rattle.tera_errors.specs.Site.{Name}
use Rattle.tera_values.specs.Named.{position}
use Rattle.tera_values.proofs.Positions.{stands_within, at_position, nothing_stands}
use Rattle.tera_values.proofs.arguments.search_value.Goals as goal

pub returns-in-Some : goal.returns-in-Some
returns-in-Some c =
    let es = c.args.entries.now in
    let e = c.in-Some.entry.now in
    let stands : position c.args.name.now es ≡ Ok c.in-Ok.at = sym c.in-Ok.ensures in
    ap (λ (x : Name × Val). Some x.1) c.in-Some.ensures.lookup.1
    ∙ sym (at_position c.args.name.now es c.in-Ok.at e stands)

pub returns-in-None : goal.returns-in-None
returns-in-None c =
    let es = c.args.entries.now in
    let stands : position c.args.name.now es ≡ Ok c.in-Ok.at = sym c.in-Ok.ensures in
    let within = stands_within c.args.name.now es c.in-Ok.at stands in
    absurd (omega (arith, ltb-false, sym c.in-None.ensures.lookup.0))

pub returns-in-Err : goal.returns-in-Err
returns-in-Err c =
    let es = c.args.entries.now in
    let goes : position c.args.name.now es ≡ Err c.in-Err.field-0 = sym c.in-Err.ensures in
    sym (nothing_stands c.args.name.now es c.in-Err.field-0 c.requires goes)
