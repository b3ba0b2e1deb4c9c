-- Groups, one item further.
use Rattle.std.proofs.Common.{◌≡◌, Bool, true, false, cond, not, ◌||◌, List, [], ◌∷◌, ◌++◌, append-nil, map, refl, sym, ap, subst, ◌∙◌}
use Rattle.std.specs.Cmp.{IsEquivalence, bool_cmp_total}
use Rattle.std.specs.List.{filter, list_any}
use Rattle.std.proofs.lemmas.Cmp.{nat_cmp_total, int_cmp_total, nat_list_cmp_total, on_total, then_total, eq_by_cmp_equiv}
use Rattle.std.proofs.lemmas.List.{map-append, map-id}
use Rattle.std.proofs.lemmas.List.Elements.{filter-append}
use Rattle.tera_values.specs.Val.{KeyVal}
use Rattle.tera_values.specs.Keys.{key_rank, key_bool, key_number, key_bytes}
use Rattle.tera_values.specs.Access.{key_eq}
use Rattle.tera_built_ins.specs.Gathering.{AllOther, put_in}
use Rattle.tera_built_ins.specs.Groups.{items_at, groups}
use Rattle.tera_built_ins.specs.Sorting.{firsts}
use Rattle.tera_built_ins.proofs.Seen.{firsts-append}
use Rattle.tera_built_ins.proofs.Steps.{map-map}

-- keys that are the same
pub same_key : IsEquivalence key_eq
same_key = eq_by_cmp_equiv (then_total (on_total key_rank nat_cmp_total) (then_total (on_total key_bool bool_cmp_total) (then_total (on_total key_number int_cmp_total) (on_total key_bytes nat_list_cmp_total))))

pub left-or : (a b : Bool) → (a || b) ≡ false → a ≡ false
left-or true b h = h
left-or false b h = refl

pub right-or : (a b : Bool) → (a || b) ≡ false → b ≡ false
right-or true b h = cc
right-or false b h = h

any-filter : (p q : KeyVal → Bool) (ks : List KeyVal) → list_any p ks ≡ false → list_any p (filter q ks) ≡ false
any-filter p q [] h = refl
any-filter p q (k ∷ ks) h = go (q k) (any-filter p q ks (right-or (p k) (list_any p ks) h))
  where
    go : (b : Bool) → list_any p (filter q ks) ≡ false → list_any p (cond b (k ∷ filter q ks) (filter q ks)) ≡ false
    go true more = rw (left-or (p k) (list_any p ks) h) more
    go false more = more

other-filter : (q : KeyVal → Bool) (ks : List KeyVal) → AllOther ks → AllOther (filter q ks)
other-filter q [] o = tt
other-filter q (k ∷ ks) o = go (q k) (other-filter q ks o.1)
  where
    go : (b : Bool) → AllOther (filter q ks) → AllOther (cond b (k ∷ filter q ks) (filter q ks))
    go true more = (any-filter (key_eq k) q ks o.0, more)
    go false more = more

none-left : (p : KeyVal → Bool) (ks : List KeyVal) → list_any p (filter (λ k. not (p k)) ks) ≡ false
none-left p [] = refl
none-left p (k ∷ ks) = go (p k) refl (none-left p ks)
  where
    go : (b : Bool) → p k ≡ b → list_any p (filter (λ j. not (p j)) ks) ≡ false → list_any p (cond (not b) (k ∷ filter (λ j. not (p j)) ks) (filter (λ j. not (p j)) ks)) ≡ false
    go true e more = more
    go false e more = rw e more

pub firsts-other : (ks : List KeyVal) → AllOther (firsts key_eq ks)
firsts-other [] = tt
firsts-other (k ∷ ks) = (none-left (key_eq k) (firsts key_eq ks), other-filter (λ j. not (key_eq k j)) (firsts key_eq ks) (firsts-other ks))

-- what is left out is the same as none of these
any-kept : (x : KeyVal) (y : KeyVal) (ks : List KeyVal) → key_eq y x ≡ false → list_any (λ k. key_eq k x) (filter (λ k. not (key_eq y k)) ks) ≡ list_any (λ k. key_eq k x) ks
any-kept x y [] h = refl
any-kept x y (k ∷ ks) h = go (key_eq y k) refl (any-kept x y ks h)
  where
    go : (b : Bool) → key_eq y k ≡ b → list_any (λ j. key_eq j x) (filter (λ j. not (key_eq y j)) ks) ≡ list_any (λ j. key_eq j x) ks
        → list_any (λ j. key_eq j x) (cond (not b) (k ∷ filter (λ j. not (key_eq y j)) ks) (filter (λ j. not (key_eq y j)) ks)) ≡ (key_eq k x || list_any (λ j. key_eq j x) ks)
    go true e more = more ∙ ap (λ b. b || list_any (λ j. key_eq j x) ks) (sym h ∙ same_key.congr y k x e)
    go false e more = ap (λ b. key_eq k x || b) more

any-firsts : (x : KeyVal) (ks : List KeyVal) → list_any (λ k. key_eq k x) (firsts key_eq ks) ≡ list_any (λ k. key_eq k x) ks
any-firsts x [] = refl
any-firsts x (k ∷ ks) = go (key_eq k x) refl (any-firsts x ks)
  where
    go : (b : Bool) → key_eq k x ≡ b → list_any (λ j. key_eq j x) (firsts key_eq ks) ≡ list_any (λ j. key_eq j x) ks
        → (b || list_any (λ j. key_eq j x) (filter (λ j. not (key_eq k j)) (firsts key_eq ks))) ≡ (b || list_any (λ j. key_eq j x) ks)
    go true e more = refl
    go false e more = any-kept x k (firsts key_eq ks) e ∙ more

module _ {A : Type 0} where
  items_at-append : (k : KeyVal) (es : List (KeyVal × A)) (j : KeyVal) (a : A) → items_at k (es ++ (j, a) ∷ []) ≡ items_at k es ++ cond (key_eq k j) (a ∷ []) []
  items_at-append k es j a =
      ap (map (λ e. e.1)) (filter-append (λ e. key_eq k e.0) es ((j, a) ∷ [])) ∙ map-append (λ e. e.1) (filter (λ e. key_eq k e.0) es) (filter (λ e. key_eq k e.0) ((j, a) ∷ [])) ∙ ap (λ l. items_at k es ++ l) (go (key_eq k j))
    where
      go : (b : Bool) → map {A = KeyVal × A} (λ e. e.1) (cond b ((j, a) ∷ []) []) ≡ cond b (a ∷ []) []
      go true = refl
      go false = refl

  none_at : (k : KeyVal) (es : List (KeyVal × A)) → list_any (λ j. key_eq j k) (map (λ e. e.0) es) ≡ false → items_at k es ≡ []
  none_at k [] h = refl
  none_at k (e ∷ es) h =
      let other : key_eq k e.0 ≡ false = same_key.symm k e.0 ∙ left-or (key_eq e.0 k) (list_any (λ j. key_eq j k) (map (λ e. e.0) es)) h in
      ap (λ b. map (λ e. e.1) (cond b (e ∷ filter (λ e. key_eq k e.0) es) (filter (λ e. key_eq k e.0) es))) other ∙ none_at k es (right-or (key_eq e.0 k) (list_any (λ j. key_eq j k) (map (λ e. e.0) es)) h)

  abbrev at_keys : List (KeyVal × A) → List KeyVal → List (KeyVal × List A)
  at_keys es ks = map (λ k. (k, items_at k es)) ks

  module _ (es : List (KeyVal × A)) (k : KeyVal) (a : A) where
    abbrev more : List (KeyVal × A)
    more = es ++ (k, a) ∷ []

    -- other keys have what they had
    others-same : (j : KeyVal) (js : List KeyVal) → key_eq k j ≡ true → list_any (key_eq j) js ≡ false → at_keys es js ≡ at_keys more js
    others-same j [] e h = refl
    others-same j (i ∷ js) e h =
        let other : key_eq i k ≡ false = same_key.symm i k ∙ same_key.congr k j i e ∙ left-or (key_eq j i) (list_any (key_eq j) js) h in
        let same : items_at i es ≡ items_at i more = sym (items_at-append i es k a ∙ ap (λ b. items_at i es ++ cond b (a ∷ []) []) other ∙ append-nil (items_at i es)) in
        ap (λ l. (i, l) ∷ at_keys es js) same ∙ ap (λ l. (i, items_at i more) ∷ l) (others-same j js e (right-or (key_eq j i) (list_any (key_eq j) js) h))

    put-at_keys : (ks : List KeyVal) → AllOther ks → (list_any (λ j. key_eq j k) ks ≡ false → items_at k es ≡ [])
        → put_in k a (at_keys es ks) ≡ at_keys more (ks ++ cond (list_any (λ j. key_eq j k) ks) [] (k ∷ []))
    put-at_keys [] o none =
        ap (λ l. (k, l) ∷ []) (sym (items_at-append k es k a ∙ ap (λ l. l ++ cond (key_eq k k) (a ∷ []) []) (none refl) ∙ ap (λ b. cond b (a ∷ []) []) (same_key.refl k)))
    put-at_keys (j ∷ js) o none = go (key_eq k j) (key_eq j k) refl (same_key.symm j k) (put-at_keys js o.1)
      where
        go : (b c : Bool) → key_eq k j ≡ b → c ≡ b → ((list_any (λ j. key_eq j k) js ≡ false → items_at k es ≡ []) → put_in k a (at_keys es js) ≡ at_keys more (js ++ cond (list_any (λ j. key_eq j k) js) [] (k ∷ [])))
            → cond b ((j, items_at j es ++ a ∷ []) ∷ at_keys es js) ((j, items_at j es) ∷ put_in k a (at_keys es js)) ≡ at_keys more (j ∷ js ++ cond (c || list_any (λ j. key_eq j k) js) [] (k ∷ []))
        go true true e f later =
            let one : items_at j more ≡ items_at j es ++ a ∷ [] = items_at-append j es k a ∙ ap (λ b. items_at j es ++ cond b (a ∷ []) []) (same_key.symm j k ∙ e) in
            ap (λ l. (j, l) ∷ at_keys es js) (sym one) ∙ ap (λ l. (j, items_at j more) ∷ l) (others-same j js e o.0) ∙ ap (λ l. at_keys more (j ∷ l)) (sym (append-nil js))
        go false false e f later =
            let other : key_eq j k ≡ false = same_key.symm j k ∙ e in
            let one : items_at j more ≡ items_at j es = items_at-append j es k a ∙ ap (λ b. items_at j es ++ cond b (a ∷ []) []) other ∙ append-nil (items_at j es) in
            ap (λ l. (j, l) ∷ put_in k a (at_keys es js)) (sym one) ∙ ap (λ l. (j, items_at j more) ∷ l) (later (λ h. none (ap (λ b. b || list_any (λ j. key_eq j k) js) other ∙ h)))
        go true false e f later = cc
        go false true e f later = cc

    -- a pair more is put in with those before it
    pub put_in-groups : put_in k a (groups es) ≡ groups more
    put_in-groups =
        let ks : List KeyVal = map (λ e. e.0) es in
        let keys : firsts key_eq (map (λ e. e.0) more) ≡ firsts key_eq ks ++ cond (list_any (λ j. key_eq j k) (firsts key_eq ks)) [] (k ∷ []) =
        ap (firsts key_eq) (map-append (λ e. e.0) es ((k, a) ∷ [])) ∙ firsts-append key_eq ks k ∙ ap (λ b. firsts key_eq ks ++ cond b [] (k ∷ [])) (sym (any-firsts k ks)) in
        put-at_keys (firsts key_eq ks) (firsts-other ks) (λ h. none_at k es (sym (any-firsts k ks) ∙ h)) ∙ ap (at_keys more) (sym keys)

pub groups-other : {A : Type 0} (es : List (KeyVal × A)) → AllOther (map (λ g. g.0) (groups es))
groups-other es =
    let ks : List KeyVal = firsts key_eq (map (λ e. e.0) es) in
    subst AllOther (sym (map-map (λ k. (k, items_at k es)) (λ g. g.0) ks ∙ map-id ks)) (firsts-other (map (λ e. e.0) es))
