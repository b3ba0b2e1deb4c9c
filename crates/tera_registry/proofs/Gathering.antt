-- What is gathered from a list, element by element.
use Rattle.std.proofs.Common.{◌≡◌, ℕ, ◌+◌, Bool, ◌||◌, List, ◌∷◌, ◌++◌, [], map, flat_map, drop, Some, slice_get, sym, ap, ◌∙◌, append_assoc}
use Rattle.std.specs.List.{list_any}
use Rattle.std.proofs.lemmas.List.{map-append}
use Rattle.std.proofs.lemmas.List.Folds.{list_any-append}
use Rattle.tera_registry.proofs.Rows.{drop-at}

module _ {X Y Z : Type 0} (view : X → Y) (xs : List X) (i : ℕ) (x : X) (at : slice_get xs i ≡ Some x) where
  -- what one more gives stands behind what was found
  pub gather-on : (give : Y → List Z) (old new whole : List Z) → new ≡ old ++ give (view x) → old ++ flat_map give (map view (drop i xs)) ≡ whole → new ++ flat_map give (map view (drop (i + 1) xs)) ≡ whole
  gather-on give old new whole is h =
      let rest = flat_map give (map view (drop (i + 1) xs)) in
      ap (λ l. l ++ rest) is ∙ append_assoc old (give (view x)) rest ∙ sym (ap (λ l. old ++ flat_map give (map view l)) (drop-at xs i x at)) ∙ h

  -- one more passes a test, or what is left decides
  pub gather-any : (give : Y → List Z) (p : Z → Bool) (first whole : Bool) → list_any p (give (view x)) ≡ first → list_any p (flat_map give (map view (drop i xs))) ≡ whole → (first || list_any p (flat_map give (map view (drop (i + 1) xs)))) ≡ whole
  gather-any give p first whole is h =
      let rest = flat_map give (map view (drop (i + 1) xs)) in
      ap (λ b. b || list_any p rest) (sym is) ∙ sym (list_any-append p (give (view x)) rest) ∙ sym (ap (λ l. list_any p (flat_map give (map view l))) (drop-at xs i x at)) ∙ h

  -- one more is kept behind those that are
  pub keep-on : {K : Type 0} (keep : Y → Z) (kept_of : K → Z) (old new : List K) (k : K) (whole : List Z) → new ≡ old ++ k ∷ [] → kept_of k ≡ keep (view x) → map kept_of old ++ map keep (map view (drop i xs)) ≡ whole → map kept_of new ++ map keep (map view (drop (i + 1) xs)) ≡ whole
  keep-on keep kept_of old new k whole is same h =
      let rest = map keep (map view (drop (i + 1) xs)) in
      ap (λ l. map kept_of l ++ rest) is
      ∙ ap (λ l. l ++ rest) (map-append kept_of old (k ∷ []))
      ∙ append_assoc (map kept_of old) (kept_of k ∷ []) rest
      ∙ ap (λ z. map kept_of old ++ z ∷ rest) same
      ∙ sym (ap (λ l. map kept_of old ++ map keep (map view l)) (drop-at xs i x at))
      ∙ h
