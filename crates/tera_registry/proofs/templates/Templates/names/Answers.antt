use Rattle.std.proofs.Common.{◌≡◌, ◌+◌, ℕ, List, [], ◌∷◌, ◌++◌, map, take, Some, String, Global, string_bytes, sym, ap, ◌∙◌, slice_get}
use Rattle.std.proofs.lemmas.List.{map-append}
use Rattle.tera_meaning.specs.Registry.{Entry}
use Rattle.tera_registry.proofs.Kept.{entry-at-position}
use Rattle.tera_registry.proofs.Rows.{take-more}
use Rattle.tera_registry.proofs.templates.Templates.names.Goals as goal

name-push : (ns : List (String Global)) (n : String Global) (es : List Entry) (i : ℕ) (e : Entry) → map string_bytes ns ≡ map (λ t. t.0) (take i es) → slice_get es i ≡ Some e → string_bytes n ≡ e.0 → map string_bytes (ns ++ n ∷ []) ≡ map (λ t. t.0) (take (i + 1) es)
name-push ns n es i e is at same =
    map-append string_bytes ns (n ∷ []) ∙ ap (λ l. l ++ string_bytes n ∷ []) is ∙ ap (λ m. map (λ (t : Entry). t.0) (take i es) ++ m ∷ []) same ∙ sym (map-append (λ (t : Entry). t.0) (take i es) (e ∷ [])) ∙ ap (map (λ (t : Entry). t.0)) (take-more es i e at)

pub loop-template-preserved : goal.loop-template-preserved
loop-template-preserved c =
    let ts = c.args.self.now.all.items in
    let at = entry-at-position ts c.loop-template.template-index c.template-item.result (rw c.deref-template-items.ensures.value at c.loop-template-test.true) (rw c.deref-template-items.ensures.value at c.template-item.is) in
    rw c.in_ok-push.ensures.items (name-push c.loop-template.names.items c.in_ok-clone.field-0 _ c.loop-template.template-index _ c.loop-template.invariant at (c.in_ok-clone.ensures.cases ∙ ap (λ t. string_bytes t.name) c.deref.ensures))
