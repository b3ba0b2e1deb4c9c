use Rattle.std.proofs.Common.{◌≡◌, ◌+◌, ◌∷◌, length, get_or, drop, Some, sym, ap, ◌∙◌, arith, slice_get}
use Rattle.std.specs.List.{cons_option}
use Rattle.std.proofs.lemmas.List.{drop_all}
use Rattle.std.proofs.lemmas.Option.{get_or_from_slice_get}
use Rattle.tera_meaning.specs.Variables.{in_one_of, given_in}
use Rattle.tera_syntax_tree.specs.Free.{◌∪◌}
use Rattle.tera_syntax_tree.specs.Sets.{names_in}
use Rattle.tera_syntax_tree.proofs.Unions.{union-pass, empty}
use Rattle.tera_registry.specs.Edges.{all_at}
use Rattle.tera_registry.specs.Kept.{entry_of, entries_of, seen}
use Rattle.tera_registry.proofs.Element.{element}
use Rattle.tera_registry.proofs.Kept.{entry-at-position, length-entries}
use Rattle.tera_registry.proofs.Reaching.{there-at}
use Rattle.tera_registry.proofs.Rows.{drop-at}
use Rattle.tera_registry.proofs.Wanted.{wanted, nothing-found}
use Rattle.tera_registry.proofs.variables.variables.Goals as goal

pub loop-position-init : goal.loop-position-init
loop-position-init c =
    let all = in_one_of given_in (all_at (entries_of c.args.templates.now) c.as_slice-positions.result.now) in
    nothing-found all _ (empty _ c.new-found.ensures.empty)

pub loop-position-preserved : goal.loop-position-preserved
loop-position-preserved c =
    let ts = c.args.templates.now in
    let es = entries_of ts in
    let ps = c.as_slice-positions.result.now in
    let k = c.loop-position.position-index in
    let p = element ps k c.loop-position-test.true in
    let is = get_or_from_slice_get ps k p.0 0 p.1 in
    let lt = there-at c.in_ok-reached.reached.items (length es) k p.0 c.in_ok-reached.ensures.there (ap (λ xs. slice_get xs k) (sym c.as_slice-positions.ensures.value) ∙ p.1) in
    let t_at : slice_get es p.0 ≡ Some (entry_of c.deref-template.result.now) = ap (slice_get es) (sym is) ∙ entry-at-position ts (get_or ps k 0) c.index-templates-position.result (omega (arith, lt, is, length-entries ts)) c.index-templates-position.is ∙ ap (λ t. Some (entry_of t)) (sym c.deref-template.ensures) in
    let whole : all_at es (drop k ps) ≡ entry_of c.deref-template.result.now ∷ all_at es (drop (k + 1) ps) = ap (all_at es) (drop-at ps k p.0 p.1) ∙ ap (λ o. cons_option o (all_at es (drop (k + 1) ps))) t_at in
    union-pass _ _ _ _ _ (ap (in_one_of given_in) whole) c.in_ok-add_all.ensures ∙ c.loop-position.invariant

pub returns-clause-ok : goal.returns-clause-ok
returns-clause-ok c = λ t at.
    let ts = c.args.templates.now in
    let r = seen ts c.args.prefixes.now in
    let es = entries_of ts in
    let ps = c.as_slice-positions.result.now in
    sym (ap (λ xs. in_one_of given_in (all_at es xs) ∪ names_in c.loop-position.found) (drop_all c.loop-position.position-index ps (omega (arith, c.loop-position-test.false)))) ∙ c.loop-position.invariant ∙ ap (λ xs. in_one_of given_in (all_at es xs)) c.as_slice-positions.ensures.value ∙ wanted r t c.as_slice.result.now c.in_ok-reached.reached.items (ap (all_at es) c.as_slice.ensures.value ∙ c.in_ok-lineage.ensures.those t at) c.requires.uncircled c.in_ok-reached.ensures
