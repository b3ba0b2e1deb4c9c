-- The entries of a map, by name.
use Rattle.std.proofs.Common.{◌≡◌, ℕ, zero, suc, Bool, true, false, List, [], ◌∷◌, take, drop, Option, Some, String, string_bytes, refl, sym, ap, ◌∙◌, cond, map, Ordering, Less, Equal, Greater, ◌||◌, is_some}
use Rattle.std.specs.Ordering.{match_ordering, nat_cmp}
use Rattle.std.specs.Cmp.Lexicographic.{slice_cmp}
use Rattle.std.specs.String.{string_cmp}
use Rattle.std.specs.BTreeMap.{insert_entry, is_at}
use Rattle.std.specs.Map.{lookup}
use Rattle.std.specs.Str.{bytes_eq}
use Rattle.std.proofs.lemmas.Map.Lookups.{exact_bytes}
use Rattle.std.proofs.lemmas.Map.Text.{is_eq-slice_cmp}
use Rattle.tera_errors.specs.Site.{Name}
use Rattle.tera_values.specs.Named.{Named, name_cmp, at_name, put}
use Rattle.tera_state.specs.Table.{more, moved}

module _ {Z A : Type 0} where
  abbrev pub by_bytes : List (String Z × A) → Named A
  by_bytes es = map (λ e. (string_bytes e.0, e.1)) es

  -- what a map finds is what stands at the name
  pub listed-get : (es : List (String Z × A)) (n : Name) → lookup (is_at (λ k. slice_cmp nat_cmp n (string_bytes k))) es ≡ at_name n (by_bytes es)
  listed-get [] n = refl
  listed-get (e ∷ es) n =
      ap (λ b. cond b (Some e.1) (lookup (is_at (λ k. slice_cmp nat_cmp n (string_bytes k))) es)) (is_eq-slice_cmp n (string_bytes e.0))
      ∙ ap (λ (o : Option A). cond (bytes_eq n (string_bytes e.0)) (Some e.1) o) (listed-get es n)

  inserted-by : (e : String Z × A) (es rest : List (String Z × A)) (k : String Z) (a : A) (o : Ordering) → name_cmp (string_bytes k) (string_bytes e.0) ≡ o → by_bytes rest ≡ put (string_bytes k) a (by_bytes es)
      → by_bytes (match_ordering o ((k, a) ∷ e ∷ es) ((e.0, a) ∷ es) (e ∷ rest))
      ≡ match_ordering o ((string_bytes k, a) ∷ by_bytes (e ∷ es)) ((string_bytes k, a) ∷ by_bytes es) ((string_bytes e.0, e.1) ∷ put (string_bytes k) a (by_bytes es))
  inserted-by e es rest k a Less h r = refl
  inserted-by e es rest k a Equal h r = ap (λ (n : Name). (n, a) ∷ by_bytes es) (sym (exact_bytes (string_bytes k) (string_bytes e.0) h))
  inserted-by e es rest k a Greater h r = ap (λ (l : Named A). (string_bytes e.0, e.1) ∷ l) r

  -- an entry that is inserted is put at its name
  pub listed-insert : (es : List (String Z × A)) (k : String Z) (a : A) → by_bytes (insert_entry string_cmp es k a) ≡ put (string_bytes k) a (by_bytes es)
  listed-insert [] k a = refl
  listed-insert (e ∷ es) k a = inserted-by e es (insert_entry string_cmp es k a) k a (name_cmp (string_bytes k) (string_bytes e.0)) refl (listed-insert es k a)

module _ {A : Type 0} (stands : Name → Bool) where
  -- one more of the others
  pub moved-step : (os : Named A) (k : ℕ) (here : Named A) (e : Name × A) (rest : Named A) → e ∷ rest ≡ drop k os
      → (rest ≡ drop (suc k) os) × (moved stands here (take (suc k) os) ≡ more stands (moved stands here (take k os)) e)
  moved-step [] zero here e rest h = cc
  moved-step [] (suc k) here e rest h = cc
  moved-step (o ∷ os) zero here e rest h = (cc, cc)
  moved-step (o ∷ os) (suc k) here e rest h = moved-step os k (more stands here o) e rest h

  pub all-moved : (os : Named A) (k : ℕ) → [] ≡ drop k os → take k os ≡ os
  all-moved [] zero h = refl
  all-moved [] (suc k) h = refl
  all-moved (o ∷ os) zero h = cc
  all-moved (o ∷ os) (suc k) h = ap (λ r. o ∷ r) (all-moved os k h)

  more-old : (here : Named A) (e : Name × A) → (stands e.0 || is_some (at_name e.0 here)) ≡ true → more stands here e ≡ here
  more-old here e h = rw h refl

  more-new : (here : Named A) (e : Name × A) → (stands e.0 || is_some (at_name e.0 here)) ≡ false → more stands here e ≡ put e.0 e.1 here
  more-new here e h = rw h refl

  -- some of the others are gone through, and these are left
  abbrev pub GoneThrough : (os old rest here : Named A) → Type 0
  GoneThrough os old rest here =
      (k : ℕ) × (rest ≡ drop k os) × (here ≡ moved stands old (take k os))

  module _ {os old here : Named A} {e : Name × A} {rest : Named A} (so_far : GoneThrough os old (e ∷ rest) here) where
    step : (new : Named A) → more stands here e ≡ new → GoneThrough os old rest new
    step new is =
        let by = moved-step os so_far.0 old e rest so_far.1 in
        (suc so_far.0, by.0, sym (by.1 ∙ ap (λ m. more stands m e) (sym so_far.2) ∙ is))

    -- one that stays away
    pub step-old : (stands e.0 || is_some (at_name e.0 here)) ≡ true → GoneThrough os old rest here
    step-old there = step here (more-old here e there)

    -- one that is moved here
    pub step-new : (new : Named A) → (stands e.0 || is_some (at_name e.0 here)) ≡ false → new ≡ put e.0 e.1 here → GoneThrough os old rest new
    step-new new absent put_in = step new (more-new here e absent ∙ sym put_in)
