use Rattle.std.proofs.Common.{◌≡◌, ◌++◌, map, append-nil, string_bytes, sym, ap, ◌∙◌, rules}
use Rattle.std.specs.BTreeMap.{keys}
use Rattle.tera_registry.specs.Templates.{with_templates}
use Rattle.tera_registry.proofs.Listed.{chosen-in-all, names-of-all}
use Rattle.tera_registry.proofs.templates.Templates.component_names.Goals as goal

pub returns-clause-names : goal.returns-clause-names
returns-clause-names c = λ r.
    let self = c.args.self.now in
    let q = with_templates r self in
    let start : c.into_iter-name-iterator.result ≡ keys self.choices = search rules in
    let all : map string_bytes c.loop-name.names.items ≡ map string_bytes (keys self.choices) = sym (append-nil _) ∙ ap (λ it. map string_bytes c.loop-name.names.items ++ map string_bytes it) (sym c.in-None.ensures.steps.0) ∙ c.loop-name.invariant ∙ ap (map string_bytes) start in
    rw all (names-of-all q self.choices (chosen-in-all q self.choices self.chosen) c.keys-name-items.ensures.ordered)
