use Rattle.std.proofs.Common.{map, ap, ◌∙◌}
use Rattle.tera_registry.specs.declared.code.TemplateBlock.{TemplateBlock}
use Rattle.tera_registry.specs.Places.{place_from}
use Rattle.tera_registry.proofs.batch.assemble.Goals as goal

pub invariant_of-result-clause-placed : goal.invariant_of-result-clause-placed
invariant_of-result-clause-placed c = λ q.
    c.in_ok-places.ensures q ∙ ap (λ l. place_from q 0 (map (λ (b : TemplateBlock). b.name) l)) c.as_slice.ensures.value
