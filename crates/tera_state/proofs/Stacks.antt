-- The top of a stack whose values stand in a list, the topmost last.
use Rattle.std.proofs.Common.{◌≡◌, ◌≢◌, ℕ, ◌-◌, ◌≤◌, List, [], ◌∷◌, ◌++◌, length, take, drop, reverse, Some, refl, sym, ap, ◌∙◌, arith, length-append, length-drop, slice_set, slice_index_or}
use Rattle.std.specs.List.{slice_get}
use Rattle.std.proofs.lemmas.List.{take-append-drop, reverse-append, reverse-reverse, length-reverse}
use Rattle.std.proofs.Math.Seq.{take-append_seam, drop-append_seam}
use Rattle.tera_state.specs.Topmost.{with_top}

module _ {A : Type 0} (xs : List A) (n : ℕ) (l : n ≤ length xs) where
  abbrev top : List A
  top = drop (length xs - n) xs

  abbrev below : List A
  below = take (length xs - n) xs

  reversed : reverse xs ≡ reverse top ++ reverse below
  reversed = ap reverse (sym (take-append-drop (length xs - n) xs)) ∙ reverse-append below top

  size : length (reverse top) ≡ n
  size = length-reverse top ∙ length-drop (length xs - n) xs ∙ omega arith

  -- the n topmost, the last one first, are the last n
  pub top-taken : top ≡ reverse (take n (reverse xs))
  top-taken =
      sym (ap (λ m. reverse (take m (reverse xs))) (sym size)
      ∙ ap (λ ys. reverse (take (length (reverse top)) ys)) reversed
      ∙ ap reverse (take-append_seam (reverse top) (reverse below))
      ∙ reverse-reverse top)

  -- and what is below them comes before those
  pub top-rest : reverse below ≡ drop n (reverse xs)
  top-rest =
      sym (ap (λ m. drop m (reverse xs)) (sym size)
      ∙ ap (λ ys. drop (length (reverse top)) ys) reversed
      ∙ drop-append_seam (reverse top) (reverse below))

-- the same, of a stack whose view is given
pub taken_off : {A : Type 0} (xs ys taken : List A) (n len : ℕ) → len ≡ length xs → reverse xs ≡ ys → n ≤ length ys → taken ≡ drop (len - n) xs → taken ≡ reverse (take n ys)
taken_off xs ys taken n len e view l h =
    let size : length ys ≡ length xs = ap length (sym view) ∙ length-reverse xs in
    h ∙ ap (λ m. drop (m - n) xs) e ∙ top-taken xs n (omega (arith, l, size)) ∙ ap (λ zs. reverse (take n zs)) view

pub left_below : {A : Type 0} (xs ys rest : List A) (n len : ℕ) → len ≡ length xs → reverse xs ≡ ys → n ≤ length ys → rest ≡ take (len - n) xs → reverse rest ≡ drop n ys
left_below xs ys rest n len e view l h =
    let size : length ys ≡ length xs = ap length (sym view) ∙ length-reverse xs in
    ap reverse (h ∙ ap (λ m. take (m - n) xs) e) ∙ top-rest xs n (omega (arith, l, size)) ∙ ap (drop n) view

last_set : {A : Type 0} (xs : List A) (x y : A) → slice_set (xs ++ x ∷ []) (length xs) y ≡ xs ++ y ∷ []
last_set [] x y = refl
last_set (z ∷ xs) x y = ap (λ zs. z ∷ zs) (last_set xs x y)

last_is : {A : Type 0} (xs : List A) (x d : A) → slice_index_or (xs ++ x ∷ []) (length xs) d ≡ x
last_is [] x d = refl
last_is (z ∷ xs) x d = last_is xs x d

module _ {A : Type 0} (xs : List A) (top : A) (under : List A) (len : ℕ) (e : len ≡ length xs) (view : reverse xs ≡ top ∷ under) where
  -- the topmost value stands last
  stands : xs ≡ reverse under ++ top ∷ []
  stands = sym (reverse-reverse xs) ∙ ap reverse view ∙ reverse-append (top ∷ []) under

  position : len - 1 ≡ length (reverse under)
  position = omega (arith, e, ap length stands, length-append (reverse under) (top ∷ []))

  changed : (y : A) → reverse (slice_set xs (len - 1) y) ≡ y ∷ under
  changed y =
      ap (λ i. reverse (slice_set xs i y)) position
      ∙ ap (λ zs. reverse (slice_set zs (length (reverse under)) y)) stands
      ∙ ap reverse (last_set (reverse under) top y)
      ∙ reverse-append (reverse under) (y ∷ [])
      ∙ ap (λ zs. y ∷ zs) (reverse-reverse under)

  found : (d : A) → slice_index_or xs (len - 1) d ≡ top
  found d = ap (λ i. slice_index_or xs i d) position ∙ ap (λ zs. slice_index_or zs (length (reverse under)) d) stands ∙ last_is (reverse under) top d

-- the last value of the list is changed where the topmost one is
pub top_changed : {A : Type 0} (xs ys : List A) (len : ℕ) → len ≡ length xs → reverse xs ≡ ys → ys ≢ [] → (y : A) → reverse (slice_set xs (len - 1) y) ≡ with_top ys y
top_changed xs [] len e view h y = absurd (h refl)
top_changed xs (top ∷ under) len e view h y = changed xs top under len e view y

pub top_found : {A : Type 0} (xs ys : List A) (len : ℕ) → len ≡ length xs → reverse xs ≡ ys → ys ≢ [] → (x : A) → x ≡ slice_index_or xs (len - 1) x → slice_get ys 0 ≡ Some x
top_found xs [] len e view h x is = absurd (h refl)
top_found xs (top ∷ under) len e view h x is = ap Some (sym (is ∙ found xs top under len e view x))
