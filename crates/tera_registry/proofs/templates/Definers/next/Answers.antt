use Rattle.std.proofs.Common.{◌≡◌, ap, ◌∙◌, subst}
use Rattle.tera_registry.specs.Templates.{with_templates, AreAmongStarts}
use Rattle.tera_registry.proofs.templates.Definers.next.Goals as goal

pub returns-in-Some-clause-among : goal.returns-in-Some-clause-among
returns-in-Some-clause-among c = λ r among.
    let same : with_templates r c.in-Some.start.templates.now ≡ r = subst (AreAmongStarts r) c.in-Some.is among in
    (ap (with_templates r) c.definer.ensures.templates ∙ same, c.definer.ensures.among r same)
