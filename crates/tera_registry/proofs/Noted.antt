-- The tops of templates, noted on the way up.
use Rattle.std.proofs.Common.{◌≡◌, ℕ, zero, suc, List, [], ◌∷◌, length, set, Option, Some, None, refl, sym, ap, ◌∙◌, ◌⊎◌, inl, inr, arith, slice_get, replicate}
use Rattle.tera_errors.specs.Site.{Name}
use Rattle.tera_meaning.specs.Registry.{Registry, Entry}
use Rattle.tera_meaning.specs.Resolve.{resolve, last_of}
use Rattle.tera_registry.specs.declared.roots.Root.{Root}
use Rattle.tera_registry.specs.Links.{IsChain, Stands, AreTops}

get-set : {X : Type 0} (xs : List X) (i : ℕ) (x y : X) (j : ℕ) → slice_get (set xs i x) j ≡ Some y → ((j ≡ i) × (y ≡ x)) ⊎ (slice_get xs j ≡ Some y)
get-set [] i x y j e = inr e
get-set (z ∷ xs) zero x y zero e = (let q : Some x ≡ Some y = e in let s : y ≡ x = cc in inl (refl, s))
get-set (z ∷ xs) zero x y (suc j) e = inr e
get-set (z ∷ xs) (suc i) x y zero e = inr e
get-set (z ∷ xs) (suc i) x y (suc j) e =
    elim (get-set xs i x y j e) [
      | inl here ↦ inl (ap suc here.0, here.1)
      | inr before ↦ inr before
    ]

pub noted : (r : Registry) (tops : List (Option Root)) (last : ℕ) (top : Root) (u : Entry) → AreTops r tops → slice_get r.templates last ≡ Some u → Stands r u top → AreTops r (set tops last (Some top))
noted r tops last top u a at s = record {
  those = λ i other v got v_at.
      elim (get-set tops last (Some top) (Some other) i got) [
        | inl here ↦
            (let same_top : other ≡ top = (let q : Some other ≡ Some top = here.1 in cc) in
            let same : u ≡ v = (let q : Some u ≡ Some v = sym at ∙ ap (slice_get r.templates) (sym here.0) ∙ v_at in cc) in
            rw (same_top, ← same) s)
        | inr before ↦ a.those i other v before v_at
      ];
}

-- what stands above a template stands above the one that it extends, one step nearer
pub one-nearer : (r : Registry) (u v : Entry) (n : Name) (next root more less : ℕ) → Stands r u (record { root = root; parents = more }) → more ≡ suc less → u.1.tree.parent ≡ Some n → resolve r n ≡ slice_get r.templates next → slice_get r.templates next ≡ Some v → Stands r v (record { root = root; parents = less })
one-nearer r u v n next root more less s is e there at = by_chain s.above s.chain s.as_many s.root_at
  where
    by_chain : (ps : List Entry) → IsChain r u.1.tree.parent ps → length ps ≡ more → slice_get r.templates root ≡ Some (last_of u ps) → Stands r v (record { root = root; parents = less })
    by_chain [] c many at_root = absurd (omega (arith, is, many))
    by_chain (p ∷ ps) c many at_root =
        (let name : n ≡ c.0 = (let q : Some n ≡ Some c.0 = sym e ∙ c.1 in cc) in
        let same : p ≡ v = (let q : Some p ≡ Some v = sym c.2 ∙ ap (resolve r) (sym name) ∙ there ∙ at in cc) in
        rw (← same) (record { above = ps; chain = c.3; as_many = omega (arith, is, many); root_at = at_root }))

pub length-set : {X : Type 0} (xs : List X) (i : ℕ) (x : X) → length (set xs i x) ≡ length xs
length-set [] i x = refl
length-set (y ∷ xs) zero x = refl
length-set (y ∷ xs) (suc i) x = ap suc (length-set xs i x)

-- nothing is known yet

pub only-none : (P : Option Root → Type 0) → ((t : Root) → P (Some t) → ⊥) → (o : Option Root) → P o → o ≡ None
only-none P never None p = refl
only-none P never (Some t) p = absurd (never t p)

none-known : (n i : ℕ) (top : Root) → slice_get (replicate n None) i ≡ Some (Some top) → ⊥
none-known zero i top e = (let q : None ≡ Some (Some top) = e in cc)
none-known (suc n) zero top e = (let q : Some None ≡ Some (Some top) = e in cc)
none-known (suc n) (suc i) top e = none-known n i top e

pub no-tops : (r : Registry) (n : ℕ) → AreTops r (replicate n None)
no-tops r n = record { those = λ i top t got at. absurd (none-known n i top got) }
