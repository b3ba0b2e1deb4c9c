-- The numbers of bodies among templates that are linked.
use Rattle.std.proofs.Common.{◌≡◌, ℕ, ◌<◌, ◌∷◌, length, get_or, slice_get, Some, refl, sym, ap, ◌∙◌, subst, arith}
use Rattle.std.proofs.lemmas.Option.{slice_get_read, slice_get_within}
use Rattle.tera_errors.specs.Site.{Name}
use Rattle.tera_meaning.specs.Lineage.{ancestors}
use Rattle.tera_meaning.specs.Registry.{Entry, Registry}
use Rattle.tera_meaning.specs.Resolve.{entry_at}
use Rattle.tera_registry.specs.declared.definers.BlockAt.{BlockAt}
use Rattle.tera_registry.specs.declared.templates.FoundTemplate.{FoundTemplate}
use Rattle.tera_registry.specs.declared.templates.Templates.{Templates}
use Rattle.tera_registry.specs.Bodies.{listings, start}
use Rattle.tera_registry.specs.Numbers.{first_of, lineage, number_at}
use Rattle.tera_registry.specs.Templates.{templates_of, registry_in}
use Rattle.tera_registry.proofs.Element.{element}
use Rattle.tera_registry.proofs.Kept.{length-entries, named-position}
use Rattle.tera_registry.proofs.Numbered.{block-within, first-is-block}
use Rattle.tera_registry.proofs.Tabled.{entries-many, own-listing}

module _ (self : Templates) where
  -- what is the number of a body is that of an entry
  pub entry-within : (n : ℕ) → n < length (listings (templates_of self)) → n < length self.table.entries.items
  entry-within n lt = omega (arith, lt, entries-many self.table.entries.items (listings (templates_of self)) self.whole)

  there : (i : ℕ) → i < length self.all.items → (t : Entry) × (slice_get (templates_of self) i ≡ Some t)
  there i lt = element (templates_of self) i (omega (arith, lt, length-entries self.all.items))

  -- each template has a body of its own
  pub own-within : (i : ℕ) → i < length self.all.items → start (templates_of self) i < length (listings (templates_of self))
  own-within i lt =
      let t = there i lt in
      slice_get_within (listings (templates_of self)) _ _ (own-listing (templates_of self) i t.0 t.1)

  -- the first of those who define a block has a body
  pub first-within : (r : Registry) (block : Name) (from : ℕ) (at : BlockAt) → r ≡ registry_in self → from < length self.all.items → ((t : Entry) → slice_get r.templates from ≡ Some t → Some (number_at r.templates at) ≡ first_of (lineage r block (t ∷ ancestors r t))) → number_at (templates_of self) at < length (listings (templates_of self))
  first-within r block from at same lt is =
      let t = there from lt in
      let t_at : slice_get r.templates from ≡ Some t.0 = ap (λ q. slice_get q.templates from) same ∙ t.1 in
      subst (λ (q : Registry). number_at q.templates at < length (listings q.templates)) same (block-within r.templates _ (first-is-block r block (t.0 ∷ ancestors r t.0) _ (sym (is t.0 t_at))))

-- A template that was found.

module _ (f : FoundTemplate) where
  pub found-entry : (e : Entry) × (slice_get (templates_of f.templates.now) f.position ≡ Some e) × (entry_at f.name.now (templates_of f.templates.now) ≡ Some e)
  found-entry = named-position (templates_of f.templates.now) f.position f.name.now f.templates.now.rises f.stands

  pub found-at : (t : Entry) → entry_at f.name.now (templates_of f.templates.now) ≡ Some t → slice_get (templates_of f.templates.now) f.position ≡ Some t
  found-at t is = found-entry.1 ∙ sym found-entry.2 ∙ is

  pub found-within : f.position < length f.templates.now.all.items
  found-within = omega (arith, slice_get_within (templates_of f.templates.now) f.position found-entry.0 found-entry.1, length-entries f.templates.now.all.items)

  -- its root
  pub root-place : f.position < length f.templates.now.roots.items
  root-place = omega (arith, found-within, length-entries f.templates.now.all.items, f.templates.now.rooted.as_many)

  pub root-at : (k : ℕ) → k ≡ get_or f.templates.now.roots.items f.position k → slice_get f.templates.now.roots.items f.position ≡ Some k
  root-at k is = slice_get_read f.templates.now.roots.items (length f.templates.now.roots.items) f.position k refl root-place is

  pub root-within : (k : ℕ) → k ≡ get_or f.templates.now.roots.items f.position k → k < length f.templates.now.all.items
  root-within k is = omega (arith, f.templates.now.rooted.inside f.position k (root-at k is), length-entries f.templates.now.all.items)
