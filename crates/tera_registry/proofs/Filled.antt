-- Edges, one more at a time.
use Rattle.std.proofs.Common.{◌≡◌, ℕ, suc, ◌+◌, ◌<◌, ◌≤◌, List, [], ◌∷◌, ◌++◌, length, drop, Option, Some, None, Vec, Global, inl, inr, refl, sym, ap, ◌∙◌, append_assoc, append-nil, arith, slice_get, is_some}
use Rattle.std.specs.List.{filter_map, cons_option}
use Rattle.std.proofs.lemmas.Bool.{cases_lt, cases_order}
use Rattle.std.proofs.lemmas.List.{drop_all}
use Rattle.tera_meaning.specs.Registry.{Registry, Entry}
use Rattle.tera_meaning.specs.Accepted.{includes_of}
use Rattle.tera_registry.specs.Walks.{rows, targets}
use Rattle.tera_registry.specs.Positions.{IsPosition}
use Rattle.tera_registry.specs.Edges.{all_at, AreThere, AreEdges}
use Rattle.tera_registry.proofs.Element.{element, front-at, last-at, past-at}
use Rattle.tera_registry.proofs.Rows.{drop-at, length-push}

-- Of the items before a position all is there that a function gives.
pub record Filled {X Y : Type 0} (h : X → Option Y) (xs : List X) (ys : List Y) (i : ℕ) : Type 0 where
  pub is : ys ++ filter_map h (drop i xs) ≡ filter_map h xs

pub fill-none : {X Y : Type 0} (h : X → Option Y) (xs : List X) (ys : List Y) (i : ℕ) (x : X) → Filled h xs ys i → slice_get xs i ≡ Some x → h x ≡ None → Filled h xs ys (i + 1)
fill-none h xs ys i x f is none = record {
  is = sym (ap (λ l. ys ++ filter_map h l) (drop-at xs i x is) ∙ ap (λ o. ys ++ cons_option o (filter_map h (drop (i + 1) xs))) none) ∙ f.is;
}

pub fill-some : {X Y : Type 0} (h : X → Option Y) (xs : List X) (ys : List Y) (i : ℕ) (x : X) (y : Y) → Filled h xs ys i → slice_get xs i ≡ Some x → h x ≡ Some y → Filled h xs (ys ++ y ∷ []) (i + 1)
fill-some h xs ys i x y f is some = record {
  is = append_assoc ys (y ∷ []) _ ∙ sym (ap (λ l. ys ++ filter_map h l) (drop-at xs i x is) ∙ ap (λ o. ys ++ cons_option o (filter_map h (drop (i + 1) xs))) some) ∙ f.is;
}

pub fill-ends : {X Y : Type 0} (h : X → Option Y) (xs : List X) (ys : List Y) (i : ℕ) → Filled h xs ys i → length xs ≤ i → ys ≡ filter_map h xs
fill-ends h xs ys i f le = sym (ap (λ l. ys ++ filter_map h l) (drop_all i xs le) ∙ append-nil ys) ∙ f.is

-- Positions, one more at a time.

cons_option-append : {X : Type 0} (o : Option X) (xs ys : List X) → cons_option o (xs ++ ys) ≡ cons_option o xs ++ ys
cons_option-append None xs ys = refl
cons_option-append (Some x) xs ys = refl

pub all_at-push : {X : Type 0} (xs : List X) (is : List ℕ) (i : ℕ) (x : X) → slice_get xs i ≡ Some x → all_at xs (is ++ i ∷ []) ≡ all_at xs is ++ x ∷ []
all_at-push xs [] i x e = ap (λ o. cons_option o []) e
all_at-push xs (j ∷ is) i x e =
    ap (cons_option (slice_get xs j)) (all_at-push xs is i x e) ∙ cons_option-append (slice_get xs j) (all_at xs is) (x ∷ [])

pub AreThere-push : (is : List ℕ) (i n : ℕ) → AreThere is n → i < n → AreThere (is ++ i ∷ []) n
AreThere-push is i n all lt = λ k k_lt.
    elim (cases_lt k (length is)) [
      | inl before ↦ rw (front-at is i 0 k before) (all k before)
      | inr after ↦
          (let e : k ≡ length is = omega (arith, length-push is i) in rw (e, last-at is i 0) lt)
    ]

pub length-all_at : {X : Type 0} (xs : List X) (is : List ℕ) → AreThere is (length xs) → length (all_at xs is) ≡ length is
length-all_at xs [] all = refl
length-all_at xs (i ∷ is) all =
    let e = element xs i (all 0 (omega arith)) in
    ap (λ o. length (cons_option o (all_at xs is))) e.1 ∙ ap suc (length-all_at xs is (λ k lt. all (suc k) (omega arith)))

pub rows-push : (vs : List (Vec ℕ Global)) (v : Vec ℕ Global) → rows (vs ++ v ∷ []) ≡ rows vs ++ v.items ∷ []
rows-push [] v = refl
rows-push (w ∷ vs) v = ap (λ l. w.items ∷ l) (rows-push vs v)

-- the edges of one more template
pub more-edges : (r : Registry) (edges : List (List ℕ)) (row : List ℕ) (many : ℕ) (t : Entry) → AreEdges r edges many → slice_get r.templates many ≡ Some t → all_at r.templates row ≡ includes_of r t → AreThere row (length r.templates) → AreEdges r (edges ++ row ∷ []) (many + 1)
more-edges r edges row many t a at is all = record {
  as_many = length-push edges row ∙ ap (λ n. n + 1) a.as_many;
  inside = λ i k.
      elim (cases_order i (length edges)) [
        | inl here ↦
            (let e : targets (edges ++ row ∷ []) i ≡ row = ap (targets (edges ++ row ∷ [])) here ∙ last-at edges row [] in
            rw e (all k))
        | inr (inl before) ↦
            (let e : targets (edges ++ row ∷ []) i ≡ targets edges i = front-at edges row [] i before in
            rw e (a.inside i k))
        | inr (inr past) ↦
            (let e : targets (edges ++ row ∷ []) i ≡ [] = past-at edges row [] i past in
            rw e (λ lt. absurd (omega arith)))
      ];
  those = λ i u lt u_at.
      elim (cases_lt i many) [
        | inl before ↦
            (let e : targets (edges ++ row ∷ []) i ≡ targets edges i = front-at edges row [] i (omega (arith, a.as_many)) in
            rw e (a.those i u before u_at))
        | inr after ↦
            (let here : i ≡ many = omega arith in
            let e : targets (edges ++ row ∷ []) i ≡ row = ap (targets (edges ++ row ∷ [])) (here ∙ sym a.as_many) ∙ last-at edges row [] in
            let same : t ≡ u = (let q : Some t ≡ Some u = sym at ∙ ap (slice_get r.templates) (sym here) ∙ u_at in cc) in
            rw (e, ← same) is)
      ];
}

-- what a look-up answers is there where what it looks for is
pub is_some-position : {X : Type 0} (xs : List X) (o : Option ℕ) (x : Option X) → IsPosition xs o x → is_some o ≡ is_some x
is_some-position xs None x is = ap is_some (sym is)
is_some-position xs (Some i) x is = (let e = element xs i is.1 in sym (ap is_some (is.0 ∙ e.1)))
