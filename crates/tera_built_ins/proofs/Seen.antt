-- Lists without repetitions, one item further.
use Rattle.std.proofs.Common.{◌≡◌, ℕ, ◌+◌, ◌<◌, length, Bool, true, false, cond, not, ◌||◌, List, [], ◌∷◌, ◌++◌, append-nil, take, get_or, refl, sym, ap, ◌∙◌}
use Rattle.std.specs.List.{filter, list_any}
use Rattle.std.proofs.lemmas.List.{take_more}
use Rattle.std.proofs.lemmas.List.Elements.{filter-append}
use Rattle.std.proofs.lemmas.List.Folds.{list_any-append}
use Rattle.tera_built_ins.specs.Sorting.{firsts}

module _ {X : Type 0} (same : X → X → Bool) where
  passed : (y x : X) (b : Bool) → filter (λ z. not (same y z)) (cond b [] (x ∷ [])) ≡ cond (same y x || b) [] (x ∷ [])
  passed y x true = go (same y x)
    where
      go : (a : Bool) → ◌≡◌ {A = List X} [] (cond (a || true) [] (x ∷ []))
      go true = refl
      go false = refl
  passed y x false = go (same y x)
    where
      go : (a : Bool) → ◌≡◌ {A = List X} (cond (not a) (x ∷ []) []) (cond (a || false) [] (x ∷ []))
      go true = refl
      go false = refl

  pub firsts-append : (xs : List X) (x : X) → firsts same (xs ++ x ∷ []) ≡ firsts same xs ++ cond (list_any (λ y. same y x) xs) [] (x ∷ [])
  firsts-append [] x = refl
  firsts-append (y ∷ ys) x =
      let more : filter (λ z. not (same y z)) (firsts same (ys ++ x ∷ [])) ≡ filter (λ z. not (same y z)) (firsts same ys) ++ cond (same y x || list_any (λ y. same y x) ys) [] (x ∷ []) =
      ap (filter (λ z. not (same y z))) (firsts-append ys x) ∙ filter-append (λ z. not (same y z)) (firsts same ys) (cond (list_any (λ y. same y x) ys) [] (x ∷ [])) ∙ ap (λ l. filter (λ z. not (same y z)) (firsts same ys) ++ l) (passed y x (list_any (λ y. same y x) ys)) in
      ap (λ l. y ∷ l) more

  module _ (xs : List X) (i : ℕ) (x : X) (h : i < length xs) (at : x ≡ get_or xs i x) where
    further : take (i + 1) xs ≡ take i xs ++ x ∷ []
    further = take_more xs i x h ∙ ap (λ y. take i xs ++ y ∷ []) (sym at)

    one_more : firsts same (take (i + 1) xs) ≡ firsts same (take i xs) ++ cond (list_any (λ y. same y x) (take i xs)) [] (x ∷ [])
    one_more = ap (firsts same) further ∙ firsts-append (take i xs) x

    -- one that no earlier one is the same as is kept
    pub kept-new : (before after : List X) → before ≡ firsts same (take i xs) → list_any (λ y. same y x) (take i xs) ≡ false → after ≡ before ++ x ∷ [] → after ≡ firsts same (take (i + 1) xs)
    kept-new before after had new more =
        more ∙ ap (λ l. l ++ x ∷ []) had ∙ ap (λ b. firsts same (take i xs) ++ cond b [] (x ∷ [])) (sym new) ∙ sym one_more

    -- and another one is not
    pub kept-seen : (before : List X) → before ≡ firsts same (take i xs) → list_any (λ y. same y x) (take i xs) ≡ true → before ≡ firsts same (take (i + 1) xs)
    kept-seen before had seen =
        had ∙ sym (append-nil (firsts same (take i xs))) ∙ ap (λ b. firsts same (take i xs) ++ cond b [] (x ∷ [])) (sym seen) ∙ sym one_more

    -- what was seen, with this one
    pub seen-more : (q : X) (old new : Bool) → old ≡ list_any (λ y. same y q) (take i xs) → new ≡ cond (same x q) true old → new ≡ list_any (λ y. same y q) (take (i + 1) xs)
    seen-more q old new had is =
        is ∙ go (same x q) old ∙ ap (λ b. b || (same x q || false)) had ∙ sym (ap (list_any (λ y. same y q)) further ∙ list_any-append (λ y. same y q) (take i xs) (x ∷ []))
      where
        go : (a b : Bool) → cond a true b ≡ (b || (a || false))
        go true true = refl
        go true false = refl
        go false true = refl
        go false false = refl

pub negated : (a b : Bool) → a ≡ not b → b ≡ not a
negated true false e = refl
negated false true e = refl
negated true true e = cc
negated false false e = cc
