use Rattle.std.proofs.Common.{◌≡◌, None, string_bytes, refl, ap, ◌∙◌, arith}
use Rattle.std.proofs.lemmas.List.{take_all}
use Rattle.tera_meaning.specs.Components.{priority}
use Rattle.tera_syntax_tree.specs.View.{definitions_of}
use Rattle.tera_syntax_tree.specs.Definitions.{component_names}
use Rattle.tera_registry.specs.Kept.{entry_of, entries_of, seen}
use Rattle.tera_registry.specs.Components.{kept_names}
use Rattle.tera_registry.specs.Choices.{chosen, chosen_in, chosen_from, ties_at}
use Rattle.tera_registry.proofs.Kept.{entry-among, length-entries}
use Rattle.tera_registry.proofs.First.{first-more, first-of-all}
use Rattle.tera_registry.proofs.Choosing.{chosen-next, kept-names-are, ties-is}
use Rattle.tera_registry.proofs.component_table.components_by_name.Goals as goal

pub loop-position-preserved : goal.loop-position-preserved
loop-position-preserved c =
    let ts = c.args.templates.now in
    let r = seen ts c.args.prefixes.now in
    let i = c.loop-position.position in
    let u = c.deref-template.result.now in
    let t = entry_of u in
    let at = entry-among r ts i _ _ refl c.loop-position-test.true c.index-templates-position.is c.deref-template.ensures in
    let good : c.priority-priority.result ≡ priority r t.0 = c.priority-priority.ensures ∙ ap (priority r) c.as_str.ensures.value in
    let names : kept_names u.components.items ≡ component_names t.1.tree.definitions = kept-names-are (string_bytes u.name) (definitions_of u.meant.definitions) u.components.items u.defined in
    record {
      taken = λ q.
          c.in_ok-choose_all.ensures q ∙ ap (λ p. chosen_in q i p 0 (kept_names u.components.items) (chosen c.loop-position.taken q)) good ∙ ap (λ ns. chosen_in q i (priority r t.0) 0 ns (chosen c.loop-position.taken q)) names ∙ ap (chosen_in q i (priority r t.0) 0 (component_names t.1.tree.definitions)) (c.loop-position.invariant.taken q) ∙ chosen-next r q i t at;
      tie = rw c.first_tie-tie.ensures (first-more r (ties_at r) i t c.loop-position.tie c.has_tie.result c.loop-position.invariant.tie at (c.has_tie.ensures ∙ ties-is r i t u.components.items c.loop-position.taken c.priority-priority.result names good c.loop-position.invariant.taken));
    }

pub returns-clause-taken : goal.returns-clause-taken
returns-clause-taken c = λ q.
    let ts = c.args.templates.now in
    let r = seen ts c.args.prefixes.now in
    c.loop-position.invariant.taken q ∙ ap (λ l. chosen_from r q 0 l None) (take_all c.loop-position.position (entries_of ts) (omega (arith, length-entries ts, c.loop-position-test.false)))

pub returns-clause-tie : goal.returns-clause-tie
returns-clause-tie c =
    let ts = c.args.templates.now in
    let r = seen ts c.args.prefixes.now in
    first-of-all r (ties_at r) c.loop-position.position c.loop-position.tie c.loop-position.invariant.tie (omega (arith, length-entries ts, c.loop-position-test.false))
