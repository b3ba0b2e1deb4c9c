-- Two templates that were found are one where they stand at one position, and so where they have one name.
use Rattle.std.proofs.Common.{◌≡◌, ◌⊎◌, inl, inr, ℕ, ◌<◌, nat_eq, bytes_eq, List, map, Some, sym, ap, ◌∙◌, subst}
use Rattle.std.specs.List.{slice_get}
use Rattle.std.specs.Bool.{one_answer}
use Rattle.std.specs.declared.cmp.Ordering.TheVariants.{Less, Equal}
use Rattle.std.proofs.lemmas.Bool.{cases_order}
use Rattle.std.proofs.lemmas.Bool.Decides.{Decides-eqb}
use Rattle.std.proofs.lemmas.Slice.Eq.{bytes_eq-Decides}
use Rattle.tera_errors.specs.Site.{Name}
use Rattle.tera_values.specs.Named.{Named, name_cmp}
use Rattle.tera_meaning.specs.Registry.{Template, Entry, Registry}
use Rattle.tera_registry.specs.Order.{Rises}
use Rattle.tera_registry.specs.Templates.{with_templates}
use Rattle.tera_registry.specs.declared.templates.FoundTemplate.{FoundTemplate}
use Rattle.tera_registry.proofs.Placed.{itself, rises-at}
use Rattle.tera_registry.proofs.Kept.{named-position}

module _ (es : Named Template) (rises : Rises es) where
  abbrev names : List Name
  names = map (λ t. t.0) es

  -- no name stands before itself
  not-before : (i j : ℕ) (n : Name) → slice_get names i ≡ Some n → slice_get names j ≡ Some n → i < j → ⊥
  not-before i j n at also before =
      let a = named-position es i n rises at in
      let b = named-position es j n rises also in
      let same : Some a.0 ≡ Some b.0 = sym a.2 ∙ b.2 in
      let one : a.0 ≡ b.0 = cc in
      let less = rises-at es i j a.0 b.0 rises before a.1 b.1 in
      let tied : Less ≡ Equal = sym less ∙ ap (λ (e : Entry). name_cmp a.0.0 e.0) (sym one) ∙ itself a.0.0 in
      cc

  one-position : (i j : ℕ) (n : Name) → slice_get names i ≡ Some n → slice_get names j ≡ Some n → i ≡ j
  one-position i j n at also = by (cases_order i j)
    where
      by : (i ≡ j) ⊎ ((i < j) ⊎ (j < i)) → i ≡ j
      by (inl same) = same
      by (inr (inl before)) = absurd (not-before i j n at also before)
      by (inr (inr behind)) = absurd (not-before j i n also at behind)

module _ {r : Registry} (f : FoundTemplate) (mine : with_templates r f.templates.now ≡ r) where
  stands-in : slice_get (map (λ t. t.0) r.templates) f.position ≡ Some f.name.now
  stands-in = ap (λ (r : Registry). slice_get (map (λ t. t.0) r.templates) f.position) (sym mine) ∙ f.stands

  rises-in : Rises r.templates
  rises-in = subst (λ (r : Registry). Rises r.templates) mine f.templates.now.rises

-- of those of one registry
pub same-template : {r : Registry} (f g : FoundTemplate) → with_templates r f.templates.now ≡ r → with_templates r g.templates.now ≡ r → nat_eq f.position g.position ≡ bytes_eq f.name.now g.name.now
same-template {r} f g mine yours =
    let at = stands-in f mine in
    let also = stands-in g yours in
    let named = bytes_eq-Decides f.name.now g.name.now in
    one_answer (nat_eq f.position g.position) (bytes_eq f.name.now g.name.now) (Decides-eqb f.position g.position) (
      (λ e. one-position r.templates (rises-in f mine) f.position g.position f.name.now at (also ∙ ap Some (sym (named.0 e)))),
      (λ same. named.1 (let q : Some f.name.now ≡ Some g.name.now = sym at ∙ ap (slice_get (map (λ t. t.0) r.templates)) same ∙ also in cc)),
    )
