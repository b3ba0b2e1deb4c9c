-- Finding and putting by position in a list that rises.
use Rattle.std.proofs.Common.{◌≡◌, ℕ, zero, suc, ◌+◌, ◌<◌, ◌≤◌, Bool, true, false, List, [], ◌∷◌, length, map, set, cond, Some, None, refl, sym, ap, ◌∙◌, ◌⊎◌, inl, inr, arith, Ordering, Less, Equal, Greater, slice_get}
use Rattle.std.specs.Ordering.{ordering_reverse, match_ordering}
use Rattle.std.specs.Cmp.{IsTotalOrder}
use Rattle.std.specs.Str.{bytes_eq}
use Rattle.std.specs.List.{AllByRecursion, insert}
use Rattle.std.specs.Cmp.Lexicographic.{bytes_decides}
use Rattle.std.proofs.lemmas.Bool.{cases_Bool, cases_lt}
use Rattle.std.proofs.lemmas.Cmp.{nat_list_cmp_total, tied_itself}
use Rattle.std.proofs.lemmas.Map.Lookups.{exact_bytes}
use Rattle.tera_errors.specs.Site.{Name}
use Rattle.tera_values.specs.Named.{Named, name_cmp, put}
use Rattle.tera_meaning.specs.Resolve.{entry_at}
use Rattle.tera_registry.specs.Order.{Rises}
use Rattle.tera_registry.specs.Positions.{After, Before}

pub names_total : IsTotalOrder name_cmp
names_total = nat_list_cmp_total

pub flip_less : (a b : Name) → name_cmp a b ≡ Less → name_cmp b a ≡ Greater
flip_less a b h = names_total.antisymm b a ∙ ap ordering_reverse h

pub flip_greater : (a b : Name) → name_cmp a b ≡ Greater → name_cmp b a ≡ Less
flip_greater a b h = names_total.antisymm b a ∙ ap ordering_reverse h

pub itself : (a : Name) → name_cmp a a ≡ Equal
itself a = tied_itself names_total a

-- a lesser name is another name
pub apart : (n k : Name) → name_cmp k n ≡ Less → bytes_eq n k ≡ false
apart n k less =
    elim (cases_Bool (bytes_eq n k)) [
      | inl same ↦
          (let e : n ≡ k = (bytes_decides n k).0 same in
          let t : name_cmp k n ≡ Equal = ap (name_cmp k) e ∙ itself k in cc)
      | inr e ↦ e
    ]

apart' : (n k : Name) → name_cmp k n ≡ Greater → bytes_eq n k ≡ false
apart' n k greater =
    elim (cases_Bool (bytes_eq n k)) [
      | inl same ↦
          (let e : n ≡ k = (bytes_decides n k).0 same in
          let t : name_cmp k n ≡ Equal = ap (name_cmp k) e ∙ itself k in cc)
      | inr e ↦ e
    ]

pub three : (o : Ordering) → (o ≡ Less) ⊎ ((o ≡ Equal) ⊎ (o ≡ Greater))
three Less = inl refl
three Equal = inr (inl refl)
three Greater = inr (inr refl)

module _ {A : Type 0} where
  pub all-at : (P : (Name × A) → Type 0) (es : Named A) (i : ℕ) (e : Name × A) → AllByRecursion P es → slice_get es i ≡ Some e → P e
  all-at P [] i e all is = (let q : None ≡ Some e = is in cc)
  all-at P (x ∷ es) zero e all is = (let q : x ≡ e = (let r : Some x ≡ Some e = is in cc) in rw (← q) all.0)
  all-at P (x ∷ es) (suc i) e all is = all-at P es i e all.1 is

  pub rises-at : (es : Named A) (i j : ℕ) (a b : Name × A) → Rises es → i < j → slice_get es i ≡ Some a → slice_get es j ≡ Some b → name_cmp a.0 b.0 ≡ Less
  rises-at [] i j a b r lt is js = (let q : None ≡ Some a = is in cc)
  rises-at (x ∷ es) zero zero a b r lt is js = absurd (omega arith)
  rises-at (x ∷ es) zero (suc j) a b r lt is js =
      (let q : x ≡ a = (let r : Some x ≡ Some a = is in cc) in rw (← q) (all-at (λ f. name_cmp x.0 f.0 ≡ Less) es j b r.0 js))
  rises-at (x ∷ es) (suc i) zero a b r lt is js = absurd (omega arith)
  rises-at (x ∷ es) (suc i) (suc j) a b r lt is js = rises-at es i j a b r.1 (omega arith) is js

  -- the entry of a name that stands at a position
  pub entry-found : (es : Named A) (n : Name) (i : ℕ) (e : Name × A) → Rises es → slice_get es i ≡ Some e → name_cmp e.0 n ≡ Equal → entry_at n es ≡ Some e
  entry-found [] n i e r is same = (let q : None ≡ Some e = is in cc)
  entry-found (x ∷ es) n zero e r is same =
      (let q : x ≡ e = (let s : Some x ≡ Some e = is in cc) in
      let t : bytes_eq n x.0 ≡ true = (bytes_decides n x.0).1 (sym (exact_bytes x.0 n (rw q same))) in
      ap (λ (b : Bool). cond b (Some x) (entry_at n es)) t ∙ ap Some q)
  entry-found (x ∷ es) n (suc i) e r is same =
      (let less : name_cmp x.0 e.0 ≡ Less = all-at (λ f. name_cmp x.0 f.0 ≡ Less) es i e r.0 is in
      let t : bytes_eq n x.0 ≡ false = apart n x.0 (rw (exact_bytes e.0 n same) at less) in
      ap (λ (b : Bool). cond b (Some x) (entry_at n es)) t ∙ entry-found es n i e r.1 is same)

  -- a name between two positions has no entry
  pub entry-none : (es : Named A) (n : Name) (i : ℕ) → After es n i → Before es n i → entry_at n es ≡ None
  entry-none [] n i a b = refl
  entry-none (x ∷ es) n zero a b =
      ap (λ (c : Bool). cond c (Some x) (entry_at n es)) (apart' n x.0 (b.greater 0 x (omega arith) refl)) ∙ entry-none es n zero (record { less = λ k e lt. absurd (omega arith) }) (record { greater = λ k e le is. b.greater (suc k) e (omega arith) is })
  entry-none (x ∷ es) n (suc i) a b =
      ap (λ (c : Bool). cond c (Some x) (entry_at n es)) (apart n x.0 (a.less 0 x (omega arith) refl)) ∙ entry-none es n i (record { less = λ k e lt is. a.less (suc k) e (omega arith) is }) (record { greater = λ k e le is. b.greater (suc k) e (omega arith) is })

  -- what stands at a name has that name
  pub named : (es : Named A) (n : Name) (e : Name × A) → entry_at n es ≡ Some e → n ≡ e.0
  named [] n e is = (let q : None ≡ Some e = is in cc)
  named (x ∷ es) n e is =
      elim (cases_Bool (bytes_eq n x.0)) [
        | inl here ↦
            (let s : Some x ≡ Some e = sym (ap (λ (c : Bool). cond c (Some x) (entry_at n es)) here) ∙ is in
            let q : x ≡ e = cc in
            (bytes_decides n x.0).0 here ∙ ap (λ (y : Name × A). y.0) q)
        | inr there ↦ named es n e (sym (ap (λ (c : Bool). cond c (Some x) (entry_at n es)) there) ∙ is)
      ]

  -- the search goes on behind a lesser name, or before a greater one
  pub go-right : (es : Named A) (n : Name) (i : ℕ) (e : Name × A) → Rises es → slice_get es i ≡ Some e → name_cmp e.0 n ≡ Less → After es n (i + 1)
  go-right es n i e r is less = record {
    less = λ k f lt ks.
        elim (cases_lt k i) [
          | inl before ↦ names_total.trans f.0 e.0 n (rises-at es k i f e r before ks is) less
          | inr after ↦
              (let same : k ≡ i = omega arith in
              let q : f ≡ e = (let s : Some f ≡ Some e = sym ks ∙ ap (slice_get es) same ∙ is in cc) in rw q less)
        ];
  }

  pub go-left : (es : Named A) (n : Name) (i : ℕ) (e : Name × A) → Rises es → slice_get es i ≡ Some e → name_cmp e.0 n ≡ Greater → Before es n i
  go-left es n i e r is greater = record {
    greater = λ k f le ks.
        elim (cases_lt i k) [
          | inl after ↦ flip_less n f.0 (names_total.trans n e.0 f.0 (flip_greater e.0 n greater) (rises-at es i k e f r after is ks))
          | inr before ↦
              (let same : k ≡ i = omega arith in
              let q : f ≡ e = (let s : Some f ≡ Some e = sym ks ∙ ap (slice_get es) same ∙ is in cc) in rw q greater)
        ];
  }

  -- what is put at a name that stands there
  pub put-set : (es : Named A) (n : Name) (a : A) (i : ℕ) (e : Name × A) → Rises es → slice_get es i ≡ Some e → name_cmp e.0 n ≡ Equal → put n a es ≡ set es i (n, a)
  put-set [] n a i e r is same = (let q : None ≡ Some e = is in cc)
  put-set (x ∷ es) n a zero e r is same =
      (let q : x ≡ e = (let s : Some x ≡ Some e = is in cc) in
      let t : name_cmp n x.0 ≡ Equal = rw (exact_bytes x.0 n (rw q same)) (itself n) in
      ap (λ (o : Ordering). match_ordering o ((n, a) ∷ x ∷ es) ((n, a) ∷ es) (x ∷ put n a es)) t)
  put-set (x ∷ es) n a (suc i) e r is same =
      (let less : name_cmp x.0 e.0 ≡ Less = all-at (λ f. name_cmp x.0 f.0 ≡ Less) es i e r.0 is in
      let t : name_cmp n x.0 ≡ Greater = flip_less x.0 n (rw (exact_bytes e.0 n same) at less) in
      ap (λ (o : Ordering). match_ordering o ((n, a) ∷ x ∷ es) ((n, a) ∷ es) (x ∷ put n a es)) t ∙ ap (λ l. x ∷ l) (put-set es n a i e r.1 is same))

  pub put-insert : (es : Named A) (n : Name) (a : A) (i : ℕ) → i ≤ length es → After es n i → Before es n i → put n a es ≡ insert es i (n, a)
  put-insert [] n a zero le l g = refl
  put-insert [] n a (suc i) le l g = absurd (omega arith)
  put-insert (x ∷ es) n a zero le l g =
      ap (λ (o : Ordering). match_ordering o ((n, a) ∷ x ∷ es) ((n, a) ∷ es) (x ∷ put n a es)) (flip_greater x.0 n (g.greater 0 x (omega arith) refl))
  put-insert (x ∷ es) n a (suc i) le l g =
      ap (λ (o : Ordering). match_ordering o ((n, a) ∷ x ∷ es) ((n, a) ∷ es) (x ∷ put n a es)) (flip_less x.0 n (l.less 0 x (omega arith) refl)) ∙ ap (λ l. x ∷ l) (put-insert es n a i (omega arith) (record { less = λ k e lt is. l.less (suc k) e (omega arith) is }) (record { greater = λ k e le is. g.greater (suc k) e (omega arith) is }))

  all-put : (P : (Name × A) → Type 0) (es : Named A) (n : Name) (a : A) → P (n, a) → AllByRecursion P es → AllByRecursion P (put n a es)
  all-put P [] n a p all = (p, tt)
  all-put P (x ∷ es) n a p all =
      elim (name_cmp n x.0) as (λ o. AllByRecursion P (match_ordering o ((n, a) ∷ x ∷ es) ((n, a) ∷ es) (x ∷ put n a es))) [
        | Less ↦ (p, all)
        | Equal ↦ (p, all.1)
        | Greater ↦ (all.0, all-put P es n a p all.1)
      ]

  pub weaker : (P Q : (Name × A) → Type 0) (es : Named A) → ((e : Name × A) → P e → Q e) → AllByRecursion P es → AllByRecursion Q es
  weaker P Q [] f all = tt
  weaker P Q (x ∷ es) f all = (f x all.0, weaker P Q es f all.1)

  pub put-rises : (es : Named A) (n : Name) (a : A) → Rises es → Rises (put n a es)
  put-rises [] n a r = (tt, tt)
  put-rises (x ∷ es) n a r =
      elim (three (name_cmp n x.0)) [
        | inl h ↦ rw h ((h, weaker (λ f. name_cmp x.0 f.0 ≡ Less) (λ f. name_cmp n f.0 ≡ Less) es (λ f less. names_total.trans n x.0 f.0 h less) r.0), r)
        | inr (inl h) ↦ rw h (weaker (λ f. name_cmp x.0 f.0 ≡ Less) (λ f. name_cmp n f.0 ≡ Less) es (λ f less. rw (exact_bytes n x.0 h) less) r.0, r.1)
        | inr (inr h) ↦ rw h (all-put (λ f. name_cmp x.0 f.0 ≡ Less) es n a (flip_greater n x.0 h) r.0, put-rises es n a r.1)
      ]

pub map-set : {X Y : Type 0} (f : X → Y) (xs : List X) (i : ℕ) (x : X) → map f (set xs i x) ≡ set (map f xs) i (f x)
map-set f [] i x = refl
map-set f (y ∷ xs) zero x = refl
map-set f (y ∷ xs) (suc i) x = ap (λ l. f y ∷ l) (map-set f xs i x)

pub map-insert : {X Y : Type 0} (f : X → Y) (xs : List X) (i : ℕ) (x : X) → map f (insert xs i x) ≡ insert (map f xs) i (f x)
map-insert f xs zero x = refl
map-insert f [] (suc i) x = refl
map-insert f (y ∷ xs) (suc i) x = ap (λ l. f y ∷ l) (map-insert f xs i x)
