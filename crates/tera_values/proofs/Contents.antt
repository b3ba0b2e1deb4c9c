-- All values of a context: put into another, and as a map.
use Rattle.std.proofs.Common.{◌≡◌, ℕ, length, arith, inl, inr, Bool, true, false, List, [], ◌∷◌, ◌++◌, Option, Some, None, refl, sym, ap, ◌∙◌, subst, cond, if◌then◌else◌, map, append_assoc, append-nil, Less, true≢false}
use Rattle.std.specs.List.{AllByRecursion, IsDistinct}
use Rattle.std.specs.List.Sorted.{IsStrictlySortedBy}
use Rattle.std.specs.Map.{lookup, keys_of}
use Rattle.std.specs.Str.{bytes_eq}
use Rattle.std.specs.Ordering.{is_eq}
use Rattle.std.specs.Cmp.Lexicographic.{bytes_decides}
use Rattle.std.proofs.lemmas.Map.Keys.{IsDistinct-head, IsDistinct-tail}
use Rattle.std.proofs.lemmas.Map.Lookups.{exact_bytes}
use Rattle.tera_errors.specs.Site.{Name}
use Rattle.tera_value_types.specs.Val.{KeyVal, ktext}
use Rattle.tera_value_types.specs.Access.{key_eq, insert_pair}
use Rattle.tera_values.specs.Named.{Named, name_cmp, at_name, put, put_all, text_keys, IsAscending}
use Rattle.tera_values.specs.Names.{by_name}
use Rattle.tera_values.proofs.Named.{three, flip_less, flip_greater, before, after, put_swap, found}

not_same : (n k : Name) → name_cmp k n ≡ Less → bytes_eq n k ≡ false
not_same n k h = by (bytes_eq n k) refl
  where
    by : (b : Bool) → bytes_eq n k ≡ b → b ≡ false
    by true e =
        let same : k ≡ n = sym ((bytes_decides n k).0 e) in
        let tie : name_cmp k n ≡ name_cmp n k = ap (λ (j : Name). name_cmp j n) same ∙ ap (name_cmp n) (sym same) in
        let more = flip_less k n h in
        cc
    by false e = refl

module _ {A : Type 0} where
  split_none : (b : Bool) (a : A) (o : Option A) → cond b (Some a) o ≡ None → (b ≡ false) × (o ≡ None)
  split_none true a o h = cc
  split_none false a o h = (refl, h)

  -- a thing whose name is not among the others may be put before them
  put_all-put : (es : Named A) (n : Name) (a : A) (m : Named A) → at_name n es ≡ None → put_all (put n a es) m ≡ put_all es (put n a m)
  put_all-put [] n a m h = refl
  put_all-put (e ∷ es) n a m h =
      let s = split_none (bytes_eq n e.0) e.1 (at_name n es) h in
      elim (three (name_cmp n e.0)) [
        | inl q ↦ ap (λ (l : Named A). put_all l m) (before n a e es q)
        | inr (inl q) ↦ absurd (true≢false (sym ((bytes_decides n e.0).1 (exact_bytes n e.0 q)) ∙ s.0))
        | inr (inr q) ↦
            ap (λ (l : Named A). put_all l m) (after n a e es q)
            ∙ put_all-put es n a (put e.0 e.1 m) s.1
            ∙ ap (put_all es) (sym (put_swap e.0 n e.1 a m (flip_greater n e.0 q)))
      ]

  absent : (k : Name) (es : Named A) → AllByRecursion (λ j. bytes_eq k j ≡ false) (keys_of es) → lookup (λ j. bytes_eq k j) es ≡ None
  absent k [] h = refl
  absent k (e ∷ es) h = ap (λ (b : Bool). cond b (Some e.1) (lookup (λ j. bytes_eq k j) es)) h.0 ∙ absent k es h.1

  -- the entries put one by one
  put_first : (k : Name) (a : A) (es m : Named A) → IsDistinct bytes_eq (keys_of ((k, a) ∷ es)) → put_all (by_name ((k, a) ∷ es)) m ≡ put_all (by_name es) (put k a m)
  put_first k a es m h = put_all-put (by_name es) k a m (sym (found es k) ∙ absent k es (IsDistinct-head bytes_eq k (keys_of es) h))

  -- those that are left, put into what is there so far, make what all of them make of the first
  abbrev pub IsPut : (left so_far all first : Named A) → Type 0
  IsPut left so_far all first = record {
    once : IsDistinct bytes_eq (keys_of left);
    same : put_all (by_name left) so_far ≡ put_all (by_name all) first;
  }

  pub put_none : (es all so_far first : Named A) → all ≡ es → IsDistinct bytes_eq (keys_of es) → so_far ≡ first → IsPut all so_far all first
  put_none es all so_far first is once none = record {
    once = subst (λ l. IsDistinct bytes_eq (keys_of l)) (sym is) once;
    same = ap (put_all (by_name all)) none;
  }

  pub put_next : (k : Name) (a : A) (before left so_far more all first : Named A) → before ≡ (k, a) ∷ left → more ≡ put k a so_far → IsPut before so_far all first → IsPut left more all first
  put_next k a before left so_far more all first next is h =
      let once : IsDistinct bytes_eq (keys_of ((k, a) ∷ left)) = subst (λ es. IsDistinct bytes_eq (keys_of es)) next h.once in
      record {
        once = IsDistinct-tail bytes_eq k (keys_of left) once;
        same =
            ap (put_all (by_name left)) is
            ∙ sym (put_first k a left so_far once)
            ∙ sym (ap (λ es. put_all (by_name es) so_far) next)
            ∙ h.same;
      }

  pub put_whole : (es m left so_far all first : Named A) → left ≡ [] → all ≡ es → by_name es ≡ m → IsPut left so_far all first → so_far ≡ put_all m first
  put_whole es m left so_far all first none is view h =
      sym (ap (λ l. put_all (by_name l) so_far) none)
      ∙ h.same
      ∙ ap (λ l. put_all (by_name l) first) is
      ∙ ap (λ l. put_all l first) view

  pub among : (P : Name → Type 0) (pre : Named A) (e : Name × A) (post : Named A) → AllByRecursion P (map (λ d. d.0) (pre ++ e ∷ post)) → P e.0
  among P [] e post h = h.0
  among P (p ∷ pre) e post h = among P pre e post h.1

  pub ascends : (p : Name × A) (es : Named A) → IsAscending (p ∷ es) → AllByRecursion (λ j. name_cmp p.0 j ≡ Less) (map (λ d. d.0) es) × IsAscending es
  unfolding IsStrictlySortedBy
  ascends p es h = h

  pub found_among : (pre : Named A) (e : Name × A) (post : Named A) → IsAscending (pre ++ e ∷ post) → at_name e.0 (pre ++ e ∷ post) ≡ Some e.1
  found_among [] e post h = ap (λ (b : Bool). cond b (Some e.1) (at_name e.0 post)) ((bytes_decides e.0 e.0).1 refl)
  found_among (p ∷ pre) e post h =
      let s = ascends p (pre ++ e ∷ post) h in
      ap (λ (b : Bool). cond b (Some p.1) (at_name e.0 (pre ++ e ∷ post))) (not_same e.0 p.0 (among (λ j. name_cmp p.0 j ≡ Less) pre e post s.0))
      ∙ found_among pre e post s.1

  goes_last : (pre : Named A) (e : Name × A) (post : Named A) → IsAscending (pre ++ e ∷ post) → insert_pair (text_keys pre) (ktext e.0) e.1 ≡ text_keys (pre ++ e ∷ [])
  goes_last [] e post h = refl
  goes_last (p ∷ pre) e post h =
      let s = ascends p (pre ++ e ∷ post) h in
      let other : key_eq (ktext e.0) (ktext p.0) ≡ false = ap is_eq (flip_less p.0 e.0 (among (λ j. name_cmp p.0 j ≡ Less) pre e post s.0)) in
      ap (λ (b : Bool). if b then (ktext p.0, e.1) ∷ text_keys pre else (ktext p.0, p.1) ∷ insert_pair (text_keys pre) (ktext e.0) e.1) other
      ∙ ap (λ (l : List (KeyVal × A)). (ktext p.0, p.1) ∷ l) (goes_last pre e post s.1)

  put_last : (pre : Named A) (e : Name × A) (post : Named A) → IsAscending (pre ++ e ∷ post) → put e.0 e.1 pre ≡ pre ++ e ∷ []
  put_last [] e post h = refl
  put_last (p ∷ pre) e post h =
      let s = ascends p (pre ++ e ∷ post) h in
      after e.0 e.1 p pre (flip_less p.0 e.0 (among (λ j. name_cmp p.0 j ≡ Less) pre e post s.0))
      ∙ ap (λ (l : Named A). p ∷ l) (put_last pre e post s.1)

  behind : (m pre : Named A) → IsAscending (pre ++ m) → put_all m pre ≡ pre ++ m
  behind [] pre h = sym (append-nil pre)
  behind (e ∷ m) pre h =
      ap (put_all m) (put_last pre e m h)
      ∙ behind m (pre ++ e ∷ []) (subst IsAscending (sym (append_assoc pre (e ∷ []) m)) h)
      ∙ append_assoc pre (e ∷ []) m

  -- all of a context put into none is that context
  pub put_all-nil : (m : Named A) → IsAscending m → put_all m [] ≡ m
  put_all-nil m h = behind m [] h

  -- the map has the first things in their order, and the others are left
  abbrev pub IsFilled : Named A → List (KeyVal × A) → Named A → Type 0
  IsFilled m all left = (done : Named A) × (done ++ left ≡ m) × (all ≡ text_keys done)

  pub filled_none : (m : Named A) (all : List (KeyVal × A)) (left : Named A) → all ≡ [] → left ≡ m → IsFilled m all left
  filled_none m all left none whole = ([], whole, none)

  -- the next thing goes last
  pub filled_next : (m : Named A) (all new : List (KeyVal × A)) (e : Name × A) (left before : Named A) → before ≡ e ∷ left → IsAscending m → IsFilled m all before → new ≡ insert_pair all (ktext e.0) e.1 → IsFilled m new left
  filled_next m all new e left before next h (done, split, is) made =
      let whole : done ++ e ∷ left ≡ m = sym (ap (λ (l : Named A). done ++ l) next) ∙ split in (
        done ++ e ∷ [],
        append_assoc done (e ∷ []) left ∙ whole,
        made ∙ ap (λ (l : List (KeyVal × A)). insert_pair l (ktext e.0) e.1) is ∙ goes_last done e left (subst IsAscending (sym whole) h),
      )

  pub filled_all : (m : Named A) (all : List (KeyVal × A)) (left : Named A) → left ≡ [] → IsFilled m all left → all ≡ text_keys m
  filled_all m all left none (done, split, is) = is ∙ ap text_keys (sym (append-nil done) ∙ sym (ap (λ (l : Named A). done ++ l) none) ∙ split)

pub none_left : {A : Type 0} (xs : List A) (n : ℕ) → n ≡ length xs → n ≡ 0 → xs ≡ []
none_left [] n size none = refl
none_left (x ∷ xs) n size none = absurd (omega (arith, size, none))
