use Rattle.std.proofs.Common.{◌≡◌, length, refl, sym, subst}
use Rattle.tera_meaning.specs.Adding.{accepted}
use Rattle.tera_meaning.specs.Registry.{Registry}
use Rattle.tera_registry.specs.Choices.{AreChosen, IsFirstTie}
use Rattle.tera_registry.specs.Edges.{IsFirstCircle}
use Rattle.tera_registry.specs.Links.{AreUps}
use Rattle.tera_registry.specs.Kept.{seen, seen_by}
use Rattle.tera_registry.proofs.Ancestors.{grounded}
use Rattle.tera_registry.proofs.Linked.{all-ups}
use Rattle.tera_registry.proofs.Served.{climbable-served, ups-served, circle-served, tie-served, chosen-served}
use Rattle.tera_registry.proofs.Circles.{all-edges, closed, first_circle}
use Rattle.tera_registry.proofs.Checked.{climbed-says, climbed-faultless, lacks-says, keeps-all, told}
use Rattle.tera_registry.proofs.link.link.Goals as goal

pub returns-in-Err-clause-answer : goal.returns-in-Err-clause-answer
returns-in-Err-clause-answer g c = rw c.fault_in_words.ensures (climbed-says c.in-Err.fault g.registry c.in-Err.ensures.answer)

pub least_circle-requires : goal.least_circle-requires
least_circle-requires g c =
    let ts = c.args.templates.now in
    let e = all-edges ts c.args.prefixes.now _ _ c.as_slice.ensures.value c.in_ok-edges.ensures in
    closed (seen ts c.args.prefixes.now) _ e

pub roots-requires : goal.roots-requires
roots-requires g c =
    let ts = c.args.templates.now in
    let ps = c.args.prefixes.now in
    let engine = g.O.Objects.engine c.args.objects.now in
    let here : seen_by engine ts ps ≡ g.registry = sym c.requires.1.1 in
    let e = all-edges ts ps _ _ c.as_slice.ensures.value c.in_ok-edges.ensures in
    let ups = all-ups ts ps _ _ c.as_slice-2.ensures.value c.in_ok-ups.ensures in (
      subst (λ (r : Registry). AreUps r c.as_slice-2.result.now (length r.templates)) here (ups-served engine ts ps _ _ ups),
      (
        subst (λ (r : Registry). IsFirstCircle r c.in_ok-circle.circle) here (circle-served engine ts ps c.in_ok-circle.circle (first_circle (seen ts ps) _ c.in_ok-circle.circle e c.in_ok-circle.ensures)),
        subst (λ (r : Registry). IsFirstTie r c.in_ok-choices.field-0.tie) here (tie-served engine ts ps c.in_ok-choices.field-0.tie c.in_ok-choices.ensures.tie),
      ),
    )

pub any_is_incomplete-requires : goal.any_is_incomplete-requires
any_is_incomplete-requires g c = λ κs within.
    let ts = c.args.templates.now in
    let ps = c.args.prefixes.now in
    let engine = g.O.Objects.engine c.args.objects.now in
    let here : seen_by engine ts ps ≡ g.registry = sym c.requires.1.1 in
    let ups = all-ups ts ps _ _ c.as_slice-3.ensures.value c.in_ok-ups.ensures in (
      within,
      (
        c.requires.1.0,
        (
          climbable-served engine ts ps g.registry _ here c.requires.1.0 ups (grounded g.registry (climbed-faultless g.registry c.in-Ok.ensures.answer)),
          (
            subst (λ (r : Registry). AreChosen r c.in_ok-choices.field-0.choices) here (chosen-served engine ts ps c.in_ok-choices.field-0.choices c.in_ok-choices.ensures.taken),
            c.requires.1.1,
          ),
        ),
      ),
    )

pub table_of-requires : goal.table_of-requires
table_of-requires g c =
    let ts = c.args.templates.now in
    let ps = c.args.prefixes.now in
    let ups = all-ups ts ps _ _ c.as_slice-4.ensures.value c.in_ok-ups.ensures in (
      c.requires.1.0,
      climbable-served (g.O.Objects.engine c.args.objects.now) ts ps g.registry _ (sym c.requires.1.1) c.requires.1.0 ups (grounded g.registry (climbed-faultless g.registry c.in-Ok.ensures.answer)),
    )

pub missing_error-requires : goal.missing_error-requires
missing_error-requires g c = λ κs within.
    let ts = c.args.templates.now in
    let ps = c.args.prefixes.now in
    let ups = all-ups ts ps _ _ c.as_slice-then-any_is_incomplete.ensures.value c.in_ok-ups.ensures in (
      within,
      (
        c.requires.1.0,
        climbable-served (g.O.Objects.engine c.args.objects.now) ts ps g.registry _ (sym c.requires.1.1) c.requires.1.0 ups (grounded g.registry (climbed-faultless g.registry c.in-Ok.ensures.answer)),
      ),
    )

pub returns-then-any_is_incomplete-clause-answer : goal.returns-then-any_is_incomplete-clause-answer
returns-then-any_is_incomplete-clause-answer g c =
    told c.missing_error.result (accepted g.registry) c.missing_error.ensures (lacks-says g.registry c.in-Ok.ensures.answer (sym c.if-any_is_incomplete.ensures))

pub returns-clause-answer : goal.returns-clause-answer
returns-clause-answer g c = keeps-all g.registry c.in-Ok.ensures.answer (sym c.if-any_is_incomplete.ensures)

pub returns-clause-ups : goal.returns-clause-ups
returns-clause-ups g c =
    let ts = c.args.templates.now in
    let ps = c.args.prefixes.now in
    let engine = g.O.Objects.engine c.args.objects.now in
    subst (λ (r : Registry). AreUps r c.in_ok-ups.ups.items (length r.templates)) (sym c.requires.1.1) (ups-served engine ts ps _ _ (all-ups ts ps _ _ refl c.in_ok-ups.ensures))

pub returns-clause-choices : goal.returns-clause-choices
returns-clause-choices g c =
    let engine = g.O.Objects.engine c.args.objects.now in
    let choices = c.in_ok-choices.field-0.choices in
    subst (λ (r : Registry). AreChosen r choices) (sym c.requires.1.1) (chosen-served engine c.args.templates.now c.args.prefixes.now choices c.in_ok-choices.ensures.taken)
