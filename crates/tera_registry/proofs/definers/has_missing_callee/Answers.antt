use Rattle.std.proofs.Common.{ap, ◌∙◌}
use Rattle.std.specs.List.{list_any}
use Rattle.tera_meaning.specs.Accepted.{is_template}
use Rattle.tera_meaning.specs.Known.{is_known}
use Rattle.tera_registry.specs.Known.{beside, is_there, known_in}
use Rattle.tera_registry.specs.OutsideCalls.{is_missing_call}
use Rattle.tera_registry.specs.Kept.{entry_of, seen}
use Rattle.tera_registry.proofs.Definitions.{misses-callee}
use Rattle.tera_registry.proofs.definers.has_missing_callee.Goals as goal

pub returns : goal.returns
returns g c = λ r chosen of.
    let t = c.args.of.now in
    let i = c.args.there.now in
    let engine = g.O.Objects.engine i.objects.now in
    let template = is_template (seen i.templates.now i.prefixes.now) in
    c.has_missing_call.ensures
    ∙ ap (list_any (is_missing_call (known_in g.O.Objects.engine i))) c.as_slice.ensures.value
    ∙ ap (λ own. list_any (is_missing_call (is_known engine (is_there i.choices.now (beside own)) template)) t.needs.items) c.requires
    ∙ misses-callee r engine i.templates.now i.prefixes.now (entry_of t).1.tree i.choices.now t.needs.items chosen of t.needing
