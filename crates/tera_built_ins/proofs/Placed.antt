-- The positions of groups by their keys.
use Rattle.std.proofs.Common.{◌≡◌, ℕ, suc, ◌+◌, ◌<◌, ◌≤◌, ◌^◌, Bool, true, false, cond, List, [], ◌∷◌, ◌++◌, length, map, get_or, Option, Some, None, Ok, Err, refl, sym, ap, ◌∙◌, arith, add-zero, nat_lt, lt-ltb, pos, slice_set}
use Rattle.std.proofs.lemmas.List.{map-set, length-map, get_or-map}
use Rattle.tera_errors.specs.Fault.{invalid_argument}
use Rattle.tera_values.specs.Val.{KeyVal, int}
use Rattle.tera_values.specs.Access.{find, insert_pair, key_eq}
use Rattle.tera_built_ins.specs.Gathering.{numbered, put_in, position_in, ok_of}

said : (n p : ℕ) → position_in (Some (int (pos n))) ≡ Some p → p ≡ n
said n p = go (nat_lt n (2 ^ 64))
  where
    go : (b : Bool) → ok_of (cond b (Ok n) (Err invalid_argument)) ≡ Some p → p ≡ n
    go true e = cc
    go false e = cc

unsaid : (n : ℕ) → n < 2 ^ 64 → position_in (Some (int (pos n))) ≡ None → ⊥
unsaid n h e = clash (sym e ∙ ap (λ b. ok_of (cond b (Ok n) (Err invalid_argument))) (lt-ltb n (2 ^ 64) h))
  where
    clash : ◌≡◌ {A = Option ℕ} None (Some n) → ⊥
    clash e = cc

module _ {A : Type 0} (k : KeyVal) where
  -- the group of the key stands there, and takes what is put in
  pub record IsPlaced (n : ℕ) (gs : List (KeyVal × List A)) (p : ℕ) : Type 0 where
    pub position : ℕ
    pub is : p ≡ n + position
    pub there : position < length gs
    pub takes : (a : A) (d : KeyVal × List A) → put_in k a gs ≡ slice_set gs position (let g = get_or gs position d in (g.0, g.1 ++ a ∷ []))
    pub stays : (a : A) → numbered n (put_in k a gs) ≡ numbered n gs

  pub position-found : (n : ℕ) (gs : List (KeyVal × List A)) (p : ℕ) → position_in (find k (numbered n gs)) ≡ Some p → IsPlaced n gs p
  position-found n [] p = λ e. cc
  position-found n (g ∷ gs) p = go (key_eq k g.0) refl (position-found (n + 1) gs p)
    where
      go : (b : Bool) → key_eq k g.0 ≡ b → (position_in (find k (numbered (n + 1) gs)) ≡ Some p → IsPlaced (n + 1) gs p) → position_in (cond b (Some (int (pos n))) (find k (numbered (n + 1) gs))) ≡ Some p → IsPlaced n (g ∷ gs) p
      go true h later e = record {
        position = 0;
        is = said n p e ∙ sym (add-zero n);
        there = omega arith;
        takes = λ a d. rw h refl;
        stays = λ a. rw h refl;
      }
      go false h later e =
          let l = later e in
          record {
            position = suc l.position;
            is = omega (arith, l.is);
            there = omega (arith, l.there);
            takes = λ a d. rw h (ap (λ t. g ∷ t) (l.takes a d));
            stays = λ a. rw h (ap (λ t. (g.0, int (pos n)) ∷ t) (l.stays a));
          }

  -- no group has the key, so one more is placed behind the others
  pub position-new : (n : ℕ) (gs : List (KeyVal × List A)) (a : A) → position_in (find k (numbered n gs)) ≡ None → n + length gs ≤ 2 ^ 64
      → (insert_pair (numbered n gs) k (int (pos (n + length gs))) ≡ numbered n (gs ++ (k, a ∷ []) ∷ [])) × (put_in k a gs ≡ gs ++ (k, a ∷ []) ∷ [])
  position-new n [] a e h = (ap (λ m. (k, int (pos m)) ∷ []) (add-zero n), refl)
  position-new n (g ∷ gs) a e h = go (key_eq k g.0) e (position-new (n + 1) gs a)
    where
      go : (b : Bool) → position_in (cond b (Some (int (pos n))) (find k (numbered (n + 1) gs))) ≡ None
          → (position_in (find k (numbered (n + 1) gs)) ≡ None → n + 1 + length gs ≤ 2 ^ 64 → (insert_pair (numbered (n + 1) gs) k (int (pos (n + 1 + length gs))) ≡ numbered (n + 1) (gs ++ (k, a ∷ []) ∷ [])) × (put_in k a gs ≡ gs ++ (k, a ∷ []) ∷ []))
          → (cond b ((g.0, int (pos (n + length (g ∷ gs)))) ∷ numbered (n + 1) gs) ((g.0, int (pos n)) ∷ insert_pair (numbered (n + 1) gs) k (int (pos (n + length (g ∷ gs))))) ≡ (g.0, int (pos n)) ∷ numbered (n + 1) (gs ++ (k, a ∷ []) ∷ []))
          × (cond b ((g.0, g.1 ++ a ∷ []) ∷ gs) (g ∷ put_in k a gs) ≡ g ∷ (gs ++ (k, a ∷ []) ∷ []))
      go true e later = absurd (unsaid n (omega (arith, h)) e)
      go false e later =
          let l = later e (omega (arith, h)) in
          let far : n + length (g ∷ gs) ≡ n + 1 + length gs = omega arith in
          (ap (λ m. (g.0, int (pos n)) ∷ insert_pair (numbered (n + 1) gs) k (int (pos m))) far ∙ ap (λ t. (g.0, int (pos n)) ∷ t) l.0, ap (λ t. g ∷ t) l.1)

  -- the group there with what it takes is what is put in
  pub put_in-set : {G : Type 0} (view : G → KeyVal × List A) (xs : List G) (p : ℕ) → IsPlaced 0 (map view xs) p → (g d : G) (a : A)
      → view g ≡ (let e = view (get_or xs p d) in (e.0, e.1 ++ a ∷ [])) → map view (slice_set xs p g) ≡ put_in k a (map view xs)
  put_in-set view xs p at g d a e =
      let same : at.position ≡ p = omega (arith, at.is) in
      let there : p < length xs = omega (arith, at.is, at.there, length-map xs view) in
      let old : get_or (map view xs) p (view d) ≡ view (get_or xs p d) = get_or-map view xs p d (view d) there in
      map-set view xs p g ∙ ap (slice_set (map view xs) p) (e ∙ ap (λ (o : KeyVal × List A). (o.0, o.1 ++ a ∷ [])) (sym old))
      ∙ ap (λ (i : ℕ). slice_set (map view xs) i (let o = get_or (map view xs) i (view d) in (o.0, o.1 ++ a ∷ []))) (sym same) ∙ sym (at.takes a (view d))
