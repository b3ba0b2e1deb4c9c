-- What holds of each member of a list.
use Rattle.std.proofs.Common.{List, [], ◌∷◌, ◌++◌, map, flat_map}
use Rattle.std.specs.List.{AllByRecursion}

module _ {A : Type 0} (P : A → Type 0) where
  pub all-left : (xs ys : List A) → AllByRecursion P (xs ++ ys) → AllByRecursion P xs
  all-left [] ys h = tt
  all-left (x ∷ xs) ys h = (h.0, all-left xs ys h.1)

  pub all-right : (xs ys : List A) → AllByRecursion P (xs ++ ys) → AllByRecursion P ys
  all-right [] ys h = h
  all-right (x ∷ xs) ys h = all-right xs ys h.1

  pub all-always : ((x : A) → P x) → (xs : List A) → AllByRecursion P xs
  all-always h [] = tt
  all-always h (x ∷ xs) = (h x, all-always h xs)

  pub all-more : (Q : A → Type 0) → ((x : A) → P x → Q x) → (xs : List A) → AllByRecursion P xs → AllByRecursion Q xs
  all-more Q f [] h = tt
  all-more Q f (x ∷ xs) h = (f x h.0, all-more Q f xs h.1)

  -- of all members of the lists that members give
  pub all-each : {B : Type 0} (f : B → List A) (ys : List B) → AllByRecursion P (flat_map f ys) → AllByRecursion (λ y. AllByRecursion P (f y)) ys
  all-each f [] h = tt
  all-each f (y ∷ ys) h = (all-left (f y) (flat_map f ys) h, all-each f ys (all-right (f y) (flat_map f ys) h))

  pub all-map : {B : Type 0} (f : B → A) (ys : List B) → AllByRecursion P (map f ys) → AllByRecursion (λ y. P (f y)) ys
  all-map f [] h = tt
  all-map f (y ∷ ys) h = (h.0, all-map f ys h.1)
