-- Lists in pieces: what an edit of a piece, or a cut of it, makes of the whole.
use Rattle.std.proofs.Common.{◌≡◌, ℕ, zero, suc, ◌+◌, ◌-◌, ◌<◌, ◌≤◌, List, [], ◌∷◌, ◌++◌, length, get_or, set, take, drop, refl, sym, ap, ◌∙◌, arith, append_assoc, subst, add-one, inl, inr, ◌≢◌, vec_len}
use Rattle.std.specs.List.{concat, insert, AllZip, each_same}
use Rattle.std.proofs.lemmas.List.{length-append, length-map, length-set, length-take-le, length-drop, get_or-append-add, get_or-map, get_or-set_same, get_or-set_other, map-set, map-append, take-map, drop-map, take-append-drop}
use Rattle.std.proofs.lemmas.Bool.{cases_lt}
use Rattle.std.specs.Global.{Global}
use Rattle.std.specs.declared.vec.Vec.{Vec}
use Rattle.tera_value_types.specs.KeyOrder.{rows}
use Rattle.std.proofs.lemmas.List.Edits.{insert-append_left, insert-append_right, length-insert, get_or-insert_below, get_or-insert_at, get_or-insert_above}
use Rattle.std.proofs.Math.ListN.{get_or-append}

abbrev pub Rows : Type 0
Rows = List (List ℕ)

abbrev pub row : Rows → ℕ → List ℕ
row ps n = get_or ps n []

-- how many stand before a piece
abbrev pub ahead : Rows → ℕ → ℕ
ahead ps n = length (concat (take n ps))

pub one_further : (ps : Rows) (n : ℕ) → n < length ps → ahead ps (suc n) ≡ ahead ps n + length (row ps n)
one_further [] n h = absurd (omega (arith, h))
one_further (x ∷ ps) zero h = omega (arith, length-append x [])
one_further (x ∷ ps) (suc n) h = omega (arith, one_further ps n (omega (arith, h)), length-append x (concat (take (suc n) ps)), length-append x (concat (take n ps)))

pub all_ahead : (ps : Rows) (n : ℕ) → length ps ≤ n → ahead ps n ≡ length (concat ps)
all_ahead [] zero h = refl
all_ahead [] (suc n) h = refl
all_ahead (x ∷ ps) zero h = absurd (omega (arith, h))
all_ahead (x ∷ ps) (suc n) h = omega (arith, all_ahead ps n (omega (arith, h)), length-append x (concat (take n ps)), length-append x (concat ps))

-- what stands at a place in a piece
pub read : (ps : Rows) (n p : ℕ) → n < length ps → p < length (row ps n) → get_or (concat ps) (ahead ps n + p) 0 ≡ get_or (row ps n) p 0
read [] n p h g = absurd (omega (arith, h))
read (x ∷ ps) zero p h g =
    let place : 0 + p ≡ p = omega arith in
    ap (λ i. get_or (x ++ concat ps) i 0) place ∙ get_or-append x (concat ps) 0 p g
read (x ∷ ps) (suc n) p h g =
    let place : ahead (x ∷ ps) (suc n) + p ≡ length x + (ahead ps n + p) = omega (arith, length-append x (concat (take n ps))) in
    ap (λ i. get_or (x ++ concat ps) i 0) place ∙ get_or-append-add x (concat ps) (ahead ps n + p) 0 ∙ read ps n p (omega (arith, h)) g

pub within : (ps : Rows) (n : ℕ) → n < length ps → ahead ps n + length (row ps n) ≤ length (concat ps)
within [] n h = absurd (omega (arith, h))
within (x ∷ ps) zero h = omega (arith, length-append x (concat ps))
within (x ∷ ps) (suc n) h = omega (arith, within ps n (omega (arith, h)), length-append x (concat ps), length-append x (concat (take n ps)))

-- a new one in a piece
pub widened : (ps : Rows) (n p x : ℕ) → n < length ps → p ≤ length (row ps n) → concat (set ps n (insert (row ps n) p x)) ≡ insert (concat ps) (ahead ps n + p) x
widened [] n p x h g = absurd (omega (arith, h))
widened (y ∷ ps) zero p x h g =
    let place : 0 + p ≡ p = omega arith in
    sym (insert-append_left y (concat ps) p x g) ∙ ap (λ i. insert (y ++ concat ps) i x) (sym place)
widened (y ∷ ps) (suc n) p x h g =
    let place : ahead (y ∷ ps) (suc n) + p ≡ length y + (ahead ps n + p) = omega (arith, length-append y (concat (take n ps))) in
    let back : (length y + (ahead ps n + p)) - length y ≡ ahead ps n + p = omega arith in
    ap (λ l. y ++ l) (widened ps n p x (omega (arith, h)) g)
    ∙ ap (λ i. y ++ insert (concat ps) i x) (sym back)
    ∙ sym (insert-append_right y (concat ps) (length y) (length y + (ahead ps n + p)) x refl (omega arith))
    ∙ ap (λ i. insert (y ++ concat ps) i x) (sym place)

-- a piece that is cut in two
pub parted : (ps : Rows) (n : ℕ) (a b : List ℕ) → n < length ps → a ++ b ≡ row ps n → concat (set (insert ps (suc n) b) n a) ≡ concat ps
parted [] n a b h e = absurd (omega (arith, h))
parted (y ∷ ps) zero a b h e = sym (append_assoc a b (concat ps)) ∙ ap (λ l. l ++ concat ps) e
parted (y ∷ ps) (suc n) a b h e = ap (λ l. y ++ l) (parted ps n a b (omega (arith, h)) e)

-- no piece but the first is empty
abbrev pub LaterHaveSome : Rows → Type 0
LaterHaveSome ps = (i : ℕ) → 0 < i → i < length ps → 0 < length (row ps i)

pub some_after_set : (ps : Rows) (n : ℕ) (w : List ℕ) → n < length ps → 0 < length w → LaterHaveSome ps → LaterHaveSome (set ps n w)
some_after_set ps n w h g all i later there = elim (cases_lt i n) [
  | inl below ↦
      let apart : i ≢ n = omega arith in
      let same : row (set ps n w) i ≡ row ps i = get_or-set_other ps n i w [] apart in
      rw same (all i later (omega arith))
  | inr from ↦ elim (cases_lt n i) [
    | inl above ↦
        let apart : i ≢ n = omega arith in
        let same : row (set ps n w) i ≡ row ps i = get_or-set_other ps n i w [] apart in
        rw same (all i later (omega (arith, there, length-set ps n w)))
    | inr until ↦
        let here : n ≡ i = omega arith in
        let same : row (set ps n w) n ≡ w = get_or-set_same ps n w [] h in
        subst (λ (j : ℕ). 0 < length (row (set ps n w) j)) here (rw same g)
  ]
]

pub some_after_insert : (ps : Rows) (n : ℕ) (w : List ℕ) → n < length ps → 0 < length w → LaterHaveSome ps → LaterHaveSome (insert ps (suc n) w)
some_after_insert ps n w h g all i later there =
    let range : suc n ≤ length ps = omega arith in
    elim (cases_lt i (suc n)) [
      | inl below ↦
          let same : row (insert ps (suc n) w) i ≡ row ps i = get_or-insert_below ps (suc n) w [] i below range in
          rw same (all i later (omega arith))
      | inr from ↦ elim (cases_lt (suc n) i) [
        | inl above ↦
            let before : suc n ≤ i - 1 = omega arith in
            let next : (i - 1) + 1 ≡ i = omega arith in
            let moved : row (insert ps (suc n) w) ((i - 1) + 1) ≡ row ps (i - 1) = get_or-insert_above ps (suc n) w [] (i - 1) before range in
            let some : 0 < length (row ps (i - 1)) = all (i - 1) (omega arith) (omega (arith, there, length-insert ps (suc n) w range)) in
            subst (λ (j : ℕ). 0 < length (row (insert ps (suc n) w) j)) next (rw moved some)
        | inr until ↦
            let here : suc n ≡ i = omega arith in
            let same : row (insert ps (suc n) w) (suc n) ≡ w = get_or-insert_at ps (suc n) w [] range in
            subst (λ (j : ℕ). 0 < length (row (insert ps (suc n) w) j)) here (rw same g)
      ]
    ]

-- a piece that is cut behind so many
module _ (ps : Rows) (n k : ℕ) (b : List ℕ) (h : n < length ps) (long : k < length (row ps n)) (behind : b ≡ drop k (row ps n)) where
  abbrev longer : Rows
  longer = insert ps (suc n) b

  first_part : row longer n ≡ row ps n
  first_part = get_or-insert_below ps (suc n) b [] n (omega arith) (omega arith)

  pub cut_same : concat (set longer n (take k (row longer n))) ≡ concat ps
  cut_same = ap (λ (l : List ℕ). concat (set longer n (take k l))) first_part ∙ parted ps n (take k (row ps n)) b h (ap (λ (l : List ℕ). take k (row ps n) ++ l) behind ∙ take-append-drop k (row ps n))

  kept_length : length (take k (row longer n)) ≡ k
  kept_length = ap (λ (l : List ℕ). length (take k l)) first_part ∙ length-take-le k (row ps n) (omega arith)

  pub cut_some : 0 < k → LaterHaveSome ps → LaterHaveSome (set longer n (take k (row longer n)))
  cut_some pos all = some_after_set longer n (take k (row longer n)) (omega (arith, length-insert ps (suc n) b (omega arith))) (omega (arith, kept_length)) (some_after_insert ps n b h (rw (behind, length-drop) (omega arith)) all)

-- the pieces in memory
pub row_of : (vs : List (Vec ℕ Global)) (i : ℕ) (v : Vec ℕ Global) → i < length vs → v ≡ get_or vs i v → row (rows vs) i ≡ v.items
row_of vs i v h is = get_or-map (λ (w : Vec ℕ Global). w.items) vs i v [] h ∙ ap (λ (w : Vec ℕ Global). w.items) (sym is)

pub later_row : (x : List ℕ) (ps : Rows) (n m : ℕ) → n ≡ m + 1 → row (x ∷ ps) n ≡ row ps m
later_row x ps n m e = ap (row (x ∷ ps)) (e ∙ add-one m)

-- a piece that is put back
pub later_set : (x : List ℕ) (vs : List (Vec ℕ Global)) (n m : ℕ) (w : Vec ℕ Global) → n ≡ m + 1 → x ∷ rows (set vs m w) ≡ set (x ∷ rows vs) n w.items
later_set x vs n m w e = ap (λ (l : Rows). x ∷ l) (map-set (λ (v : Vec ℕ Global). v.items) vs m w) ∙ ap (λ (i : ℕ). set (x ∷ rows vs) i w.items) (sym (e ∙ add-one m))

-- pieces that are copied
pub cloned : (vs ws : List (Vec ℕ Global)) → AllZip (λ (v w : Vec ℕ Global). AllZip (λ (x y : ℕ). y ≡ x) v.items w.items × (vec_len w ≡ vec_len v)) vs ws → rows ws ≡ rows vs
cloned [] [] h = refl
cloned [] (w ∷ ws) h = absurd h
cloned (v ∷ vs) [] h = absurd h
cloned (v ∷ vs) (w ∷ ws) h =
    let one : w.items ≡ v.items = each_same v.items w.items h.0.0 in
    let more : rows ws ≡ rows vs = cloned vs ws h.1 in
    λ i. one i ∷ more i

-- a new one in the first piece
pub put_first : (f : List ℕ) (ps : Rows) (n p x : ℕ) → n ≡ 0 → p ≤ length (row (f ∷ ps) n) → concat (insert f p x ∷ ps) ≡ insert (concat (f ∷ ps)) (ahead (f ∷ ps) n + p) x
put_first f ps zero p x e h =
    let place : 0 + p ≡ p = omega arith in
    sym (insert-append_left f (concat ps) p x h) ∙ ap (λ i. insert (f ++ concat ps) i x) (sym place)
put_first f ps (suc n) p x e h = absurd (omega (arith, e))

set_again : (ps : Rows) (n : ℕ) → n < length ps → set ps n (row ps n) ≡ ps
set_again [] n h = absurd (omega (arith, h))
set_again (x ∷ ps) zero h = refl
set_again (x ∷ ps) (suc n) h = ap (λ (l : Rows). x ∷ l) (set_again ps n (omega (arith, h)))

-- a first piece that is shortened
pub short_first : (f : List ℕ) (ps : Rows) (n k : ℕ) → n ≡ 0 → take k f ∷ ps ≡ set (f ∷ ps) n (take k (row (f ∷ ps) n))
short_first f ps zero k e = refl
short_first f ps (suc n) k e = absurd (omega (arith, e))

-- a later piece, and what is put back for it
module _ (f : List ℕ) (vs : List (Vec ℕ Global)) (n m : ℕ) (v w : Vec ℕ Global) (e : n ≡ m + 1) (h : m < length vs) (is : v ≡ get_or vs m v) where
  pub later_is : row (f ∷ rows vs) n ≡ v.items
  later_is = later_row f (rows vs) n m e ∙ row_of vs m v h is

  in_range : n < length (f ∷ rows vs)
  in_range = omega (arith, length-map vs (λ (u : Vec ℕ Global). u.items), e, h)

  pub short_later : (k : ℕ) → w.items ≡ take k v.items → f ∷ rows (set vs m w) ≡ set (f ∷ rows vs) n (take k (row (f ∷ rows vs) n))
  short_later k shorter = later_set f vs n m w e ∙ ap (λ (l : List ℕ). set (f ∷ rows vs) n l) (shorter ∙ ap (λ (l : List ℕ). take k l) (sym later_is))

  pub same_later : w.items ≡ v.items → f ∷ rows (set vs m w) ≡ f ∷ rows vs
  same_later same = later_set f vs n m w e ∙ ap (λ (l : List ℕ). set (f ∷ rows vs) n l) (same ∙ sym later_is) ∙ set_again (f ∷ rows vs) n in_range

  -- a new one in it
  module _ (p x : ℕ) (wider : w.items ≡ insert v.items p x) (range : p ≤ length (row (f ∷ rows vs) n)) where
    written_row : f ∷ rows (set vs m w) ≡ set (f ∷ rows vs) n (insert (row (f ∷ rows vs) n) p x)
    written_row = later_set f vs n m w e ∙ ap (λ (l : List ℕ). set (f ∷ rows vs) n l) (wider ∙ ap (λ (l : List ℕ). insert l p x) (sym later_is))

    pub put_later : concat (f ∷ rows (set vs m w)) ≡ insert (concat (f ∷ rows vs)) (ahead (f ∷ rows vs) n + p) x
    put_later = ap concat written_row ∙ widened (f ∷ rows vs) n p x in_range range

    pub put_some : LaterHaveSome (f ∷ rows vs) → LaterHaveSome (f ∷ rows (set vs m w))
    put_some all = subst LaterHaveSome (sym written_row) (some_after_set (f ∷ rows vs) n (insert (row (f ∷ rows vs) n) p x) in_range (omega (arith, length-insert (row (f ∷ rows vs) n) p x range)) all)

-- a piece that is put behind others
pub rows_insert : (vs : List (Vec ℕ Global)) (n : ℕ) (w : Vec ℕ Global) → rows (insert vs n w) ≡ insert (rows vs) n w.items
rows_insert vs n w =
    map-append (λ (v : Vec ℕ Global). v.items) (take n vs) (w ∷ drop n vs)
    ∙ ap (λ (l : Rows). l ++ w.items ∷ rows (drop n vs)) (sym (take-map (λ (v : Vec ℕ Global). v.items) n vs))
    ∙ ap (λ (l : Rows). take n (rows vs) ++ w.items ∷ l) (sym (drop-map (λ (v : Vec ℕ Global). v.items) n vs))

-- a walk that has passed a piece, and one that has passed all
pub passed : (p q : List ℕ) (vs us : List (Vec ℕ Global)) (v : Vec ℕ Global) → length p ≡ 0 → vs ≡ v ∷ us → q ≡ v.items → q ++ concat (rows us) ≡ p ++ concat (rows vs)
passed [] q vs us v h e f = ap (λ (l : List ℕ). l ++ concat (rows us)) f ∙ sym (ap (λ (l : List (Vec ℕ Global)). concat (rows l)) e)
passed (x ∷ p) q vs us v h e f = absurd (omega (arith, h))

pub all_passed : (p : List ℕ) (vs : List (Vec ℕ Global)) → length p ≡ 0 → length vs ≡ 0 → p ++ concat (rows vs) ≡ []
all_passed [] [] h g = refl
all_passed [] (v ∷ vs) h g = absurd (omega (arith, g))
all_passed (x ∷ p) vs h g = absurd (omega (arith, h))
