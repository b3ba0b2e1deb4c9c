-- What a loop over a list has made, one position further.
use Rattle.std.proofs.Common.{◌≡◌, ℕ, ◌+◌, List, [], ◌∷◌, ◌++◌, Some, map, take, refl, sym, ap, ◌∙◌}
use Rattle.std.specs.Prelude.{slice_get}
use Rattle.std.proofs.lemmas.List.{take_more, map-append}
use Rattle.std.proofs.lemmas.Option.{slice_get_within, get_or_from_slice_get}

module _ {A B : Type 0} (f : A → B) where
  -- the image of the item at the position is put behind those of the items before it
  pub map_take-more : (xs : List A) (i : ℕ) (x : A) (b : B) (before after : List B) → slice_get xs i ≡ Some x → b ≡ f x → before ≡ map f (take i xs) → after ≡ before ++ b ∷ [] → after ≡ map f (take (i + 1) xs)
  map_take-more xs i x b before after at is had more =
      let one : take (i + 1) xs ≡ take i xs ++ x ∷ [] = take_more xs i x (slice_get_within xs i x at) ∙ ap (λ (y : A). take i xs ++ y ∷ []) (get_or_from_slice_get xs i x x at) in
      more ∙ ap (λ (l : List B). l ++ b ∷ []) had ∙ ap (λ (y : B). map f (take i xs) ++ y ∷ []) is ∙ sym (ap (map f) one ∙ map-append f (take i xs) (x ∷ []))

pub map-map : {A B D : Type 0} (f : A → B) (g : B → D) (xs : List A) → map g (map f xs) ≡ map (λ x. g (f x)) xs
map-map f g [] = refl
map-map f g (x ∷ xs) = ap (λ l. g (f x) ∷ l) (map-map f g xs)
