-- Values by name: found, kept, and in byte order.
use Rattle.std.proofs.Common.{◌≡◌, inl, inr, Bool, true, false, [], ◌∷◌, Some, refl, sym, ap, ◌∙◌, subst, cond, map, Less}
use Rattle.std.specs.List.{AllByRecursion}
use Rattle.std.specs.List.Sorted.{IsStrictlySortedBy}
use Rattle.std.specs.Str.{bytes_eq}
use Rattle.std.specs.Cmp.Lexicographic.{bytes_decides}
use Rattle.std.proofs.lemmas.Map.Lookups.{exact_bytes}
use Rattle.tera_errors.specs.Site.{Name}
use Rattle.tera_values.specs.Named.{Named, name_cmp, at_name, put, IsAscending}
use Rattle.tera_values.specs.Names.{by_name}
use Rattle.tera_values.specs.Contexts.{NamedIsFound, OtherNamesAreKept, PutKeepsOrder}
use Rattle.tera_values.proofs.Named.{names_total, three, flip_greater, before, there, after, at_put}

refuted : (b : Bool) → (b ≡ true → ⊥) → b ≡ false
refuted true h = absurd (h refl)
refuted false h = refl

pub named_found : NamedIsFound
named_found es n v = at_put n n v es ∙ ap (λ (b : Bool). cond b (Some v) (at_name n es)) ((bytes_decides n n).1 refl)

pub others_kept : OtherNamesAreKept
others_kept es n m v h =
    at_put m n v es ∙ ap (λ (b : Bool). cond b (Some v) (at_name m es)) (refuted (bytes_eq m n) (λ e. h ((bytes_decides m n).0 e)))

module _ {A : Type 0} where
  -- a name is below all names
  abbrev pub IsBelow : Name → Named A → Type 0
  IsBelow j es = AllByRecursion (λ (k : Name). name_cmp j k ≡ Less) (map (λ e. e.0) es)

  below_lower : (j n : Name) (es : Named A) → name_cmp j n ≡ Less → IsBelow n es → IsBelow j es
  below_lower j n [] h r = tt
  below_lower j n (e ∷ es) h r = (names_total.trans j n e.0 h r.0, below_lower j n es h r.1)

  below_put : (j n : Name) (a : A) (es : Named A) → name_cmp j n ≡ Less → IsBelow j es → IsBelow j (put n a es)
  below_put j n a [] h r = (h, tt)
  below_put j n a (e ∷ es) h r = elim (three (name_cmp n e.0)) [
    | inl q ↦ subst (IsBelow j) (sym (before n a e es q)) (h, r)
    | inr (inl q) ↦ subst (IsBelow j) (sym (there n a e es q)) (h, r.1)
    | inr (inr q) ↦ subst (IsBelow j) (sym (after n a e es q)) (r.0, below_put j n a es h r.1)
  ]

  pub put_ascends : (n : Name) (a : A) (es : Named A) → IsAscending es → IsAscending (put n a es)
  unfolding IsStrictlySortedBy
  put_ascends n a [] h = (tt, tt)
  put_ascends n a (e ∷ es) h = elim (three (name_cmp n e.0)) [
    | inl q ↦ subst IsAscending (sym (before n a e es q)) ((q, below_lower n e.0 es q h.0), h)
    | inr (inl q) ↦ subst IsAscending (sym (there n a e es q)) (subst (λ (j : Name). IsBelow j es) (sym (exact_bytes n e.0 q)) h.0, h.1)
    | inr (inr q) ↦ subst IsAscending (sym (after n a e es q)) (below_put e.0 n a es (flip_greater n e.0 q) h.0, put_ascends n a es h.1)
  ]

  entries_ascend : (es : Named A) → IsAscending (by_name es)
  unfolding IsStrictlySortedBy
  entries_ascend [] = tt
  entries_ascend (e ∷ es) = put_ascends e.0 e.1 (by_name es) (entries_ascend es)

  -- so do those of a context, whatever its entries
  pub named_ascend : (es m : Named A) → by_name es ≡ m → IsAscending m
  named_ascend es m h = subst IsAscending h (entries_ascend es)

pub kept_order : PutKeepsOrder
kept_order es n v h = put_ascends n v es h
