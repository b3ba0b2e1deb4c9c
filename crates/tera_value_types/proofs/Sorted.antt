-- The entries picked in the order of the index are the map's entries in key order.
use Rattle.std.proofs.Common.{◌≡◌, ◌⊎◌, inl, inr, ℕ, zero, suc, ◌<◌, Bool, true, false, List, [], ◌∷◌, map, length, get_or, if◌then◌else◌, Option, Some, None, refl, sym, ap, subst, ◌∙◌, arith, Ordering, Less, Equal, Greater, is_eq, option_map}
use Rattle.std.proofs.lemmas.List.{length-map, get_or-map}
use Rattle.tera_value_types.specs.Val.{Val, KeyVal, kbool, undefined, Entries, entry, entries}
use Rattle.tera_value_types.specs.Keys.{key_cmp}
use Rattle.tera_value_types.specs.Index.{key_at, nth_key, picked, IsIndex, IsAt}
use Rattle.tera_value_types.specs.Access.{key_eq, find}
use Rattle.tera_value_types.specs.Order.{plain, plain_entries, put, by_answer}
use Rattle.tera_value_types.proofs.Keys.{keys_total, key_exact, key_tied, flip_Greater, is_eq_true}
use Rattle.tera_value_types.proofs.Positions.{Pairs, value_at, NoKeyBefore, find_absent, find_present, found}

abbrev pub plain_pair : KeyVal × Val → KeyVal × Val
plain_pair e = (e.0, plain e.1)

abbrev pub choose : Ordering → Pairs → Pairs → Pairs → Pairs
choose Less a b c = a
choose Equal a b c = b
choose Greater a b c = c

abbrev pub put_pair : KeyVal → Val → Pairs → Pairs
put_pair k v [] = (k, v) ∷ []
put_pair k v (e ∷ es) = choose (key_cmp k e.0) ((k, v) ∷ e ∷ es) ((k, v) ∷ es) (e ∷ put_pair k v es)

abbrev pub sort_pairs : Pairs → Pairs
sort_pairs [] = []
sort_pairs (e ∷ es) = put_pair e.0 (plain e.1) (sort_pairs es)

chosen : (o : Ordering) (a b c : Pairs) → by_answer o (entries a) (entries b) (entries c) ≡ entries (choose o a b c)
chosen Less a b c = refl
chosen Equal a b c = refl
chosen Greater a b c = refl

put_entries : (k : KeyVal) (v : Val) (l : Pairs) → put k v (entries l) ≡ entries (put_pair k v l)
put_entries k v [] = refl
put_entries k v (e ∷ es) = ap (λ (c : Entries). by_answer (key_cmp k e.0) (entry k v (entry e.0 e.1 (entries es))) (entry k v (entries es)) (entry e.0 e.1 c)) (put_entries k v es) ∙ chosen (key_cmp k e.0) ((k, v) ∷ e ∷ es) ((k, v) ∷ es) (e ∷ put_pair k v es)

pub sort_entries : (es : Pairs) → plain_entries (entries es) ≡ entries (sort_pairs es)
sort_entries [] = refl
sort_entries (e ∷ es) = ap (put e.0 (plain e.1)) (sort_entries es) ∙ put_entries e.0 (plain e.1) (sort_pairs es)

abbrev pub AllAbove : KeyVal → Pairs → Type 0
AllAbove k [] = Unit {0}
AllAbove k (e ∷ es) = (key_cmp k e.0 ≡ Less) × AllAbove k es

abbrev pub Rising : Pairs → Type 0
Rising [] = Unit {0}
Rising (e ∷ es) = AllAbove e.0 es × Rising es

above_trans : (j k : KeyVal) (es : Pairs) → key_cmp j k ≡ Less → AllAbove k es → AllAbove j es
above_trans j k [] h a = tt
above_trans j k (e ∷ es) h a = (keys_total.trans j k e.0 h a.0, above_trans j k es h a.1)

above_chosen : (j k : KeyVal) (v : Val) (e : KeyVal × Val) (es : Pairs) → key_cmp j k ≡ Less → AllAbove j (e ∷ es) → AllAbove j (put_pair k v es) → (o : Ordering) → AllAbove j (choose o ((k, v) ∷ e ∷ es) ((k, v) ∷ es) (e ∷ put_pair k v es))
above_chosen j k v e es h a more Less = (h, a)
above_chosen j k v e es h a more Equal = (h, a.1)
above_chosen j k v e es h a more Greater = (a.0, more)

above_put : (j k : KeyVal) (v : Val) (es : Pairs) → key_cmp j k ≡ Less → AllAbove j es → AllAbove j (put_pair k v es)
above_put j k v [] h a = (h, tt)
above_put j k v (e ∷ es) h a = above_chosen j k v e es h a (above_put j k v es h a.1) (key_cmp k e.0)

rising_chosen : (k : KeyVal) (v : Val) (e : KeyVal × Val) (es : Pairs) → Rising (e ∷ es) → Rising (put_pair k v es) → (o : Ordering) → key_cmp k e.0 ≡ o → Rising (choose o ((k, v) ∷ e ∷ es) ((k, v) ∷ es) (e ∷ put_pair k v es))
rising_chosen k v e es r more Less h = ((h, above_trans k e.0 es h r.0), r)
rising_chosen k v e es r more Equal h = (subst (λ q. AllAbove q es) (sym (key_exact k e.0 h)) r.0, r.1)
rising_chosen k v e es r more Greater h = (above_put e.0 k v es (flip_Greater k e.0 h) r.0, more)

rising_put : (k : KeyVal) (v : Val) (es : Pairs) → Rising es → Rising (put_pair k v es)
rising_put k v [] r = (tt, tt)
rising_put k v (e ∷ es) r = rising_chosen k v e es r (rising_put k v es r.1) (key_cmp k e.0) refl

pub rising_sort : (es : Pairs) → Rising (sort_pairs es)
rising_sort [] = tt
rising_sort (e ∷ es) = rising_put e.0 (plain e.1) (sort_pairs es) (rising_sort es)

twice : {A : Type 0} (b : Bool) (x y z : A) → (if b then x else z) ≡ (if b then x else (if b then y else z))
twice true x y z = refl
twice false x y z = refl

swapped : {A : Type 0} (b c : Bool) (x y z : A) → (b ≡ true → c ≡ true → ⊥) → (if b then x else (if c then y else z)) ≡ (if c then y else (if b then x else z))
swapped true true x y z h = absurd (h refl refl)
swapped true false x y z h = refl
swapped false true x y z h = refl
swapped false false x y z h = refl

one_of_two : (q k e : KeyVal) → key_cmp k e ≡ Greater → key_eq q e ≡ true → key_eq q k ≡ true → ⊥
one_of_two q k e h a b =
    let qe : q ≡ e = key_exact q e (is_eq_true (key_cmp q e) a) in
    let qk : q ≡ k = key_exact q k (is_eq_true (key_cmp q k) b) in
    let ke : key_cmp k e ≡ Equal = rw (← qe, ← qk) (key_tied q) in
    let both : Greater ≡ Equal = sym h ∙ ke in
    cc

find_chosen : (q k : KeyVal) (v : Val) (e : KeyVal × Val) (es : Pairs) → find q (put_pair k v es) ≡ (if key_eq q k then Some v else find q es) → (o : Ordering) → key_cmp k e.0 ≡ o → find q (choose o ((k, v) ∷ e ∷ es) ((k, v) ∷ es) (e ∷ put_pair k v es)) ≡ (if key_eq q k then Some v else find q (e ∷ es))
find_chosen q k v e es more Less h = refl
find_chosen q k v e es more Equal h = twice (key_eq q k) (Some v) (Some e.1) (find q es) ∙ ap (λ (j : KeyVal). if key_eq q k then Some v else (if key_eq q j then Some e.1 else find q es)) (key_exact k e.0 h)
find_chosen q k v e es more Greater h = ap (λ (r : Option Val). if key_eq q e.0 then Some e.1 else r) more ∙ swapped (key_eq q e.0) (key_eq q k) (Some e.1) (Some v) (find q es) (one_of_two q k e.0 h)

find_put : (q k : KeyVal) (v : Val) (es : Pairs) → find q (put_pair k v es) ≡ (if key_eq q k then Some v else find q es)
find_put q k v [] = refl
find_put q k v (e ∷ es) = find_chosen q k v e es (find_put q k v es) (key_cmp k e.0) refl

mapped : (b : Bool) (v : Val) (r : Option Val) → (if b then Some (plain v) else option_map plain r) ≡ option_map plain (if b then Some v else r)
mapped true v r = refl
mapped false v r = refl

pub find_sort : (q : KeyVal) (es : Pairs) → find q (sort_pairs es) ≡ option_map plain (find q es)
find_sort q [] = refl
find_sort q (e ∷ es) = find_put q e.0 (plain e.1) (sort_pairs es) ∙ ap (λ (r : Option Val). if key_eq q e.0 then Some (plain e.1) else r) (find_sort q es) ∙ mapped (key_eq q e.0) e.1 (find q es)

find_plain : (q : KeyVal) (es : Pairs) → find q (map plain_pair es) ≡ option_map plain (find q es)
find_plain q [] = refl
find_plain q (e ∷ es) = ap (λ (r : Option Val). if key_eq q e.0 then Some (plain e.1) else r) (find_plain q es) ∙ mapped (key_eq q e.0) e.1 (find q es)

below_none : (q : KeyVal) (es : Pairs) → AllAbove q es → find q es ≡ None
below_none q [] a = refl
below_none q (e ∷ es) a = rw a.0 (below_none q es a.1)

tied_true : (k : KeyVal) → key_eq k k ≡ true
tied_true k = ap is_eq (key_tied k)

find_first : (e : KeyVal × Val) (es : Pairs) → find e.0 (e ∷ es) ≡ Some e.1
find_first e es = rw (tied_true e.0) refl

pub by_cases : (b : Bool) → ((b ≡ true) ⊎ (b ≡ false))
by_cases true = inl refl
by_cases false = inr refl

some_none : (v : Val) → Some v ≡ None → ⊥
some_none v h = cc

some_same : (v w : Val) → Some v ≡ Some w → v ≡ w
some_same v w h = cc

-- two rising lists that find the same are the same list
unique_by : (x y : KeyVal × Val) (l m : Pairs) → Rising (x ∷ l) → Rising (y ∷ m) → ((q : KeyVal) → find q (x ∷ l) ≡ find q (y ∷ m)) → (((q : KeyVal) → find q l ≡ find q m) → l ≡ m) → (o : Ordering) → key_cmp x.0 y.0 ≡ o → x ∷ l ≡ y ∷ m
unique_by x y l m r s h more Less e = absurd (some_none x.1 (sym (find_first x l) ∙ h x.0 ∙ below_none x.0 (y ∷ m) (e, above_trans x.0 y.0 m e s.0)))
unique_by x y l m r s h more Greater e =
    let f = flip_Greater x.0 y.0 e in
    absurd (some_none y.1 (sym (find_first y m) ∙ sym (h y.0) ∙ below_none y.0 (x ∷ l) (f, above_trans y.0 x.0 l f r.0)))
unique_by x y l m r s h more Equal e =
    let k : x.0 ≡ y.0 = key_exact x.0 y.0 e in
    let v : x.1 ≡ y.1 = some_same x.1 y.1 (sym (find_first x l) ∙ h x.0 ∙ ap (λ (j : KeyVal). find j (y ∷ m)) k ∙ find_first y m) in
    let rest : l ≡ m = more (λ q. elim (by_cases (key_eq q x.0)) [
      | inl t ↦
          let at : q ≡ x.0 = key_exact q x.0 (is_eq_true (key_cmp q x.0) t) in
          rw at (below_none x.0 l r.0 ∙ sym (rw k (below_none y.0 m s.0)))
      | inr f ↦
          let g : key_eq q y.0 ≡ false = rw (← k) f in
          let one : find q (x ∷ l) ≡ find q l = rw f refl in
          let two : find q (y ∷ m) ≡ find q m = rw g refl in
          sym one ∙ h q ∙ two
    ]) in
    let pair : x ≡ y = λ i. (k i, v i) in
    λ i. pair i ∷ rest i

pub unique : (l m : Pairs) → Rising l → Rising m → ((q : KeyVal) → find q l ≡ find q m) → l ≡ m
unique [] [] r s h = refl
unique [] (y ∷ m) r s h = absurd (some_none y.1 (sym (find_first y m) ∙ sym (h y.0)))
unique (x ∷ l) [] r s h = absurd (some_none x.1 (sym (find_first x l) ∙ h x.0))
unique (x ∷ l) (y ∷ m) r s h = unique_by x y l m r s h (unique l m r.1 s.1) (key_cmp x.0 y.0) refl

above_picked : (k : KeyVal) (positions : List ℕ) (es : Pairs) → ((p : ℕ) → p < length positions → key_cmp k (nth_key positions es p) ≡ Less) → AllAbove k (map plain_pair (picked positions es))
above_picked k [] es h = tt
above_picked k (i ∷ positions) es h = (h 0 (omega arith), above_picked k positions es (λ p lt. h (suc p) (omega arith)))

rising_picked : (positions : List ℕ) (es : Pairs) → ((p q : ℕ) → p < q → q < length positions → key_cmp (nth_key positions es p) (nth_key positions es q) ≡ Less) → Rising (map plain_pair (picked positions es))
rising_picked [] es h = tt
rising_picked (i ∷ positions) es h = (above_picked (key_at es i) positions es (λ p lt. h 0 (suc p) (omega arith) (omega arith)), rising_picked positions es (λ p q lt g. h (suc p) (suc q) (omega arith) (omega arith)))

one_more : (e : KeyVal × Val) (es : Pairs) (k : KeyVal) (i : ℕ) → key_eq k e.0 ≡ false → NoKeyBefore es k i → NoKeyBefore (e ∷ es) k (suc i)
one_more e es k i h free zero lt = h
one_more e es k i h free (suc j) lt = free j (omega arith)

-- the key stands somewhere first, or nowhere
either : (l : Pairs) (k : KeyVal) → (((p : ℕ) × (p < length l) × (key_eq k (key_at l p) ≡ true) × NoKeyBefore l k p) ⊎ NoKeyBefore l k (length l))
either [] k = inr (λ j lt. absurd (omega arith))
either (e ∷ es) k = elim (by_cases (key_eq k e.0)) [
  | inl t ↦ inl (0, omega arith, t, λ j lt. absurd (omega arith))
  | inr f ↦ elim (either es k) [
    | inl w ↦ inl (suc w.0, omega (arith, w.1), w.2, one_more e es k w.0 f w.3)
    | inr free ↦ inr (one_more e es k (length es) f free)
  ]
]

picked_at : (positions : List ℕ) (es : Pairs) (p : ℕ) → p < length positions → get_or (picked positions es) p (kbool false, undefined) ≡ get_or es (get_or positions p 0) (kbool false, undefined)
picked_at positions es p h = get_or-map (λ (i : ℕ). get_or es i (kbool false, undefined)) positions p 0 (kbool false, undefined) h

pub picked_length : (positions : List ℕ) (es : Pairs) → length (picked positions es) ≡ length positions
picked_length positions es = length-map positions (λ (i : ℕ). get_or es i (kbool false, undefined))

pub find_picked : (by_key : List ℕ) (es : Pairs) → IsIndex by_key es → (k : KeyVal) → find k (picked by_key es) ≡ find k es
find_picked by_key es ix k = elim (either (picked by_key es) k) [
  | inl w ↦
      let h : w.0 < length by_key = omega (arith, w.1, picked_length by_key es) in
      let e = picked_at by_key es w.0 h in
      let k_at : key_at (picked by_key es) w.0 ≡ nth_key by_key es w.0 = ap (λ (x : KeyVal × Val). x.0) e in
      let v_at : value_at (picked by_key es) w.0 ≡ value_at es (get_or by_key w.0 0) = ap (λ (x : KeyVal × Val). x.1) e in
      let same_key : k ≡ key_at (picked by_key es) w.0 = key_exact k (key_at (picked by_key es) w.0) (is_eq_true (key_cmp k (key_at (picked by_key es) w.0)) w.2) in
      let at : IsAt by_key es k w.0 = record { in_range = h; has_key = sym k_at ∙ sym same_key } in
      find_present (picked by_key es) k w.0 w.1 w.2 w.3 ∙ ap (λ (v : Val). Some v) v_at ∙ sym (found by_key es ix k w.0 at)
  | inr free ↦ find_absent (picked by_key es) k free ∙ sym (find_absent es k (λ j lt.
      let q = ix.reached j lt in
      let k_at : key_at (picked by_key es) q.0 ≡ nth_key by_key es q.0 = ap (λ (x : KeyVal × Val). x.0) (picked_at by_key es q.0 q.1) in
      let here : key_at (picked by_key es) q.0 ≡ key_at es j = k_at ∙ ap (key_at es) q.2 in
      rw (← here) (free q.0 (omega (arith, q.1, picked_length by_key es)))))
]

-- the entries in the order of the index are the entries in key order
pub in_order : (by_key : List ℕ) (es : Pairs) → IsIndex by_key es → plain_entries (entries es) ≡ entries (map plain_pair (picked by_key es))
in_order by_key es ix = sort_entries es ∙ ap entries (unique (sort_pairs es) (map plain_pair (picked by_key es)) (rising_sort es) (rising_picked by_key es ix.rising) (λ q. find_sort q es ∙ ap (option_map plain) (sym (find_picked by_key es ix q)) ∙ sym (find_plain q (picked by_key es))))
