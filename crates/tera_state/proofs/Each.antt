-- Things by name, seen by what they mean.
use Rattle.std.proofs.Common.{◌≡◌, ℕ, zero, suc, Bool, true, false, ◌||◌, is_some, [], ◌∷◌, take, Option, Some, None, option_map, refl, sym, ap, ◌∙◌, cond, if◌then◌else◌, Ordering, Less, Equal, Greater}
use Rattle.std.specs.Ordering.{match_ordering}
use Rattle.std.specs.Str.{bytes_eq}
use Rattle.tera_errors.specs.Site.{Name}
use Rattle.tera_values.specs.Named.{Named, name_cmp, at_name, put}
use Rattle.tera_state.specs.Kept.{each}
use Rattle.tera_state.specs.Table.{more, moved}

pub is_some-map : {A B : Type 0} (f : A → B) (o : Option A) → is_some (option_map f o) ≡ is_some o
is_some-map f (Some a) = refl
is_some-map f None = refl

module _ {A B : Type 0} (f : A → B) where
  put-by : (n : Name) (a : A) (e : Name × A) (es rest : Named A) (after : Named B) (o : Ordering) → each f rest ≡ after
      → each f (match_ordering o ((n, a) ∷ e ∷ es) ((n, a) ∷ es) (e ∷ rest))
      ≡ match_ordering o ((n, f a) ∷ each f (e ∷ es)) ((n, f a) ∷ each f es) ((e.0, f e.1) ∷ after)
  put-by n a e es rest after Less h = refl
  put-by n a e es rest after Equal h = refl
  put-by n a e es rest after Greater h = ap (λ (l : Named B). (e.0, f e.1) ∷ l) h

  pub each-put : (n : Name) (a : A) (es : Named A) → each f (put n a es) ≡ put n (f a) (each f es)
  each-put n a [] = refl
  each-put n a (e ∷ es) = put-by n a e es (put n a es) (put n (f a) (each f es)) (name_cmp n e.0) (each-put n a es)

  found-by : (b : Bool) (e : A) (x : Option A) (y : Option B) → y ≡ option_map f x → cond b (Some (f e)) y ≡ option_map f (cond b (Some e) x)
  found-by true e x y h = refl
  found-by false e x y h = h

  pub at-each : (n : Name) (es : Named A) → at_name n (each f es) ≡ option_map f (at_name n es)
  at-each n [] = refl
  at-each n (e ∷ es) = found-by (bytes_eq n e.0) e.1 (at_name n es) (at_name n (each f es)) (at-each n es)

  pub each-take : (k : ℕ) (es : Named A) → each f (take k es) ≡ take k (each f es)
  each-take zero [] = refl
  each-take (suc k) [] = refl
  each-take zero (e ∷ es) = refl
  each-take (suc k) (e ∷ es) = ap (λ (l : Named B). (e.0, f e.1) ∷ l) (each-take k es)

  module _ (stands : Name → Bool) where
    more-by : (b : Bool) (here : Named A) (e : Name × A) → each f (if b then here else put e.0 e.1 here) ≡ (if b then each f here else put e.0 (f e.1) (each f here))
    more-by true here e = refl
    more-by false here e = each-put e.0 e.1 here

    each-more : (here : Named A) (e : Name × A) → each f (more stands here e) ≡ more stands (each f here) (e.0, f e.1)
    each-more here e =
        more-by (stands e.0 || is_some (at_name e.0 here)) here e
        ∙ ap (λ (b : Bool). if stands e.0 || b then each f here else put e.0 (f e.1) (each f here)) (sym (ap is_some (at-each e.0 here) ∙ is_some-map f (at_name e.0 here)))

    pub each-moved : (here others : Named A) → each f (moved stands here others) ≡ moved stands (each f here) (each f others)
    each-moved here [] = refl
    each-moved here (e ∷ es) = each-moved (more stands here e) es ∙ ap (λ (l : Named B). moved stands l (each f es)) (each-more here e)
