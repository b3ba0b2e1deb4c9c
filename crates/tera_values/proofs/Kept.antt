-- Things that are kept and left out by their names.
use Rattle.std.proofs.Common.{◌≡◌, ℕ, ◌+◌, ◌<◌, ◌≤◌, length, take, get_or, inl, inr, Bool, true, false, not, ◌||◌, List, [], ◌∷◌, ◌++◌, Option, Some, None, refl, sym, ap, ◌∙◌, cond, map, filter, Less, Ordering, Equal, Greater}
use Rattle.std.specs.Borrow.{Bor}
use Rattle.std.specs.List.Sorted.{IsStrictlySortedBy}
use Rattle.std.specs.Ordering.{is_eq, ordering_reverse}
use Rattle.std.specs.Str.{bytes_eq}
use Rattle.std.specs.Cmp.Lexicographic.{bytes_decides}
use Rattle.std.proofs.lemmas.List.{take_more, take_all, map-append}
use Rattle.std.proofs.lemmas.List.Folds.{list_any-append}
use Rattle.std.proofs.lemmas.Map.Text.{is_eq-slice_cmp}
use Rattle.std.proofs.lemmas.Map.Lookups.{exact_bytes}
use Rattle.tera_errors.specs.Site.{Name}
use Rattle.tera_values.specs.Named.{Named, name_cmp, at_name, put, is_one_of, with_names, without_names, IsAscending}
use Rattle.tera_values.proofs.Named.{names_total, three, flip_greater, at_put}
use Rattle.tera_values.proofs.Contexts.{IsBelow, put_ascends}

reversed : (o : Ordering) → is_eq (ordering_reverse o) ≡ is_eq o
reversed Less = refl
reversed Equal = refl
reversed Greater = refl

-- names are the same in either order
pub either_order : (n k : Name) → bytes_eq n k ≡ bytes_eq k n
either_order n k =
    sym (is_eq-slice_cmp n k) ∙ ap is_eq (names_total.antisymm n k) ∙ reversed (name_cmp k n) ∙ is_eq-slice_cmp k n

lower_differs : (n k : Name) → name_cmp n k ≡ Less → bytes_eq n k ≡ false
lower_differs n k h = sym (is_eq-slice_cmp n k) ∙ ap is_eq h

one_more : (done : List Name) (k n : Name) → is_one_of (done ++ k ∷ []) n ≡ (is_one_of done n || (bytes_eq n k || false))
one_more done k n = list_any-append (λ j. bytes_eq n j) done (k ∷ [])

module _ {A : Type 0} where
  none_below : (n : Name) (es : Named A) → IsBelow n es → at_name n es ≡ None
  none_below n [] h = refl
  none_below n (e ∷ es) h =
      ap (λ (b : Bool). cond b (Some e.1) (at_name n es)) (lower_differs n e.0 h.0) ∙ none_below n es h.1

  first : (e : Name × A) (es : Named A) → at_name e.0 (e ∷ es) ≡ Some e.1
  first e es = ap (λ (b : Bool). cond b (Some e.1) (at_name e.0 es)) ((bytes_decides e.0 e.0).1 refl)

  below_filter : (p : Name → Bool) (j : Name) (es : Named A) → IsBelow j es → IsBelow j (filter (λ e. p e.0) es)
  below_filter p j [] h = tt
  below_filter p j (e ∷ es) h = by (p e.0) (below_filter p j es h.1)
    where
      by : (b : Bool) → IsBelow j (filter (λ e. p e.0) es) → IsBelow j (cond b (e ∷ filter (λ e. p e.0) es) (filter (λ e. p e.0) es))
      by true rest = (h.0, rest)
      by false rest = rest

  if_kept : (b : Bool) (e : Name × A) (rest : Named A) → IsBelow e.0 rest → IsAscending rest → IsAscending (cond b (e ∷ rest) rest)
  unfolding IsStrictlySortedBy
  if_kept true e rest low up = (low, up)
  if_kept false e rest low up = up

  pub filter_ascends : (p : Name → Bool) (es : Named A) → IsAscending es → IsAscending (filter (λ e. p e.0) es)
  unfolding IsStrictlySortedBy
  filter_ascends p [] h = tt
  filter_ascends p (e ∷ es) h = if_kept (p e.0) e (filter (λ e. p e.0) es) (below_filter p e.0 es h.0) (filter_ascends p es h.1)

  -- what stands at a name that is kept is found, and nothing else
  pub filter_at : (p : Name → Bool) (n : Name) (es : Named A) → at_name n (filter (λ e. p e.0) es) ≡ cond (p n) (at_name n es) None
  filter_at p n [] = by (p n)
    where
      by : (b : Bool) → ◌≡◌ {A = Option A} None (cond b None None)
      by true = refl
      by false = refl
  filter_at p n (e ∷ es) = by (p e.0) (bytes_eq n e.0) refl refl (filter_at p n es)
    where
      by : (b c : Bool) → p e.0 ≡ b → bytes_eq n e.0 ≡ c → at_name n (filter (λ e. p e.0) es) ≡ cond (p n) (at_name n es) None →
          at_name n (cond b (e ∷ filter (λ e. p e.0) es) (filter (λ e. p e.0) es)) ≡ cond (p n) (cond c (Some e.1) (at_name n es)) None
      by true true q r h =
          ap (λ (t : Bool). cond t (Some e.1) (at_name n (filter (λ e. p e.0) es))) r
          ∙ sym (ap (λ (t : Bool). cond t (Some e.1) None) (ap p ((bytes_decides n e.0).0 r) ∙ q))
      by true false q r h = ap (λ (t : Bool). cond t (Some e.1) (at_name n (filter (λ e. p e.0) es))) r ∙ h
      by false true q r h =
          let out : p n ≡ false = ap p ((bytes_decides n e.0).0 r) ∙ q in
          h ∙ ap (λ (t : Bool). cond t (at_name n es) None) out ∙ sym (ap (λ (t : Bool). cond t (Some e.1) None) out)
      by false false q r h = h

  lower : (j n : Name) (es : Named A) → name_cmp j n ≡ Less → IsBelow n es → IsBelow j es
  lower j n [] q r = tt
  lower j n (x ∷ es) q r = (names_total.trans j n x.0 q r.0, lower j n es q r.1)

  joined : (d e : Name × A) (a b : Named A) → d.0 ≡ e.0 → d.1 ≡ e.1 → a ≡ b → d ∷ a ≡ e ∷ b
  joined (n, x) (k, y) a b name value rest = ap (λ m. (m, x) ∷ a) name ∙ ap (λ z. (k, z) ∷ a) value ∙ ap (λ l. (k, y) ∷ l) rest

  behind : (d e : Name × A) (a b : Named A) → IsBelow d.0 a → IsBelow e.0 b → d.0 ≡ e.0 → ((n : Name) → at_name n (d ∷ a) ≡ at_name n (e ∷ b)) → (n : Name) → at_name n a ≡ at_name n b
  behind d e a b low deep name h n = by (bytes_eq n d.0) refl
    where
      by : (t : Bool) → bytes_eq n d.0 ≡ t → at_name n a ≡ at_name n b
      by true r =
          let is : n ≡ d.0 = (bytes_decides n d.0).0 r in
          ap (λ k. at_name k a) is ∙ none_below d.0 a low ∙ sym (none_below e.0 b deep) ∙ sym (ap (λ k. at_name k b) (is ∙ name))
      by false r =
          let other : bytes_eq n e.0 ≡ false = ap (bytes_eq n) (sym name) ∙ r in
          sym (ap (λ (t : Bool). cond t (Some d.1) (at_name n a)) r) ∙ h n ∙ ap (λ (t : Bool). cond t (Some e.1) (at_name n b)) other

  -- things in byte order are the same where each name finds the same
  pub same_named : (a b : Named A) → IsAscending a → IsAscending b → ((n : Name) → at_name n a ≡ at_name n b) → a ≡ b
  unfolding IsStrictlySortedBy
  same_named [] [] up top h = refl
  same_named [] (e ∷ b) up top h = let found : None ≡ Some e.1 = h e.0 ∙ first e b in cc
  same_named (d ∷ a) [] up top h = let found : Some d.1 ≡ None = sym (first d a) ∙ h d.0 in cc
  same_named (d ∷ a) (e ∷ b) up top h = elim (three (name_cmp d.0 e.0)) [
    | inl q ↦
        let lost : at_name d.0 (e ∷ b) ≡ None = none_below d.0 (e ∷ b) (q, lower d.0 e.0 b q top.0) in
        let found : Some d.1 ≡ None = sym (first d a) ∙ h d.0 ∙ lost in
        cc
    | inr (inl q) ↦
        let name : d.0 ≡ e.0 = exact_bytes d.0 e.0 q in
        let value : Some d.1 ≡ Some e.1 = sym (first d a) ∙ h d.0 ∙ ap (λ n. at_name n (e ∷ b)) name ∙ first e b in
        joined d e a b name (cc) (same_named a b up.1 top.1 (behind d e a b up.0 top.0 name h))
    | inr (inr q) ↦
        let lost : at_name e.0 (d ∷ a) ≡ None = none_below e.0 (d ∷ a) (flip_greater d.0 e.0 q, lower e.0 d.0 a (flip_greater d.0 e.0 q) up.0) in
        let found : None ≡ Some e.1 = sym lost ∙ h e.0 ∙ first e b in
        cc
  ]

  -- each name finds what it finds in the whole, if it is one of those names, and else nothing
  abbrev AreWith : List Name → Named A → Named A → Type 0
  AreWith names whole m = (n : Name) → at_name n m ≡ cond (is_one_of names n) (at_name n whole) None

  with_at : (names : List Name) (whole : Named A) → AreWith names whole (with_names names whole)
  with_at names whole n = filter_at (is_one_of names) n whole

  with_is : (names : List Name) (whole m : Named A) → IsAscending whole → IsAscending m → AreWith names whole m → with_names names whole ≡ m
  with_is names whole m up top h =
      same_named (with_names names whole) m (filter_ascends (is_one_of names) whole up) top (λ n. with_at names whole n ∙ sym (h n))

  -- one name more changes nothing, where nothing stands at it
  pub with_absent : (done : List Name) (k : Name) (whole : Named A) → IsAscending whole → at_name k whole ≡ None → with_names (done ++ k ∷ []) whole ≡ with_names done whole
  with_absent done k whole up none =
      with_is (done ++ k ∷ []) whole (with_names done whole) up (filter_ascends (is_one_of done) whole up)
      (λ n. with_at done whole n ∙ by n (bytes_eq n k) (is_one_of done n) refl ∙ sym (ap (λ (t : Bool). cond t (at_name n whole) None) (one_more done k n)))
    where
      lost : (n : Name) → bytes_eq n k ≡ true → at_name n whole ≡ None
      lost n r = ap (λ j. at_name j whole) ((bytes_decides n k).0 r) ∙ none

      by : (n : Name) (b c : Bool) → bytes_eq n k ≡ b → cond c (at_name n whole) None ≡ cond (c || (b || false)) (at_name n whole) None
      by n true true r = refl
      by n true false r = sym (lost n r)
      by n false true r = refl
      by n false false r = refl

  -- or puts what stands at it
  pub with_found : (done : List Name) (k : Name) (a : A) (whole : Named A) → IsAscending whole → at_name k whole ≡ Some a → with_names (done ++ k ∷ []) whole ≡ put k a (with_names done whole)
  with_found done k a whole up is =
      with_is (done ++ k ∷ []) whole (put k a (with_names done whole)) up (put_ascends k a (with_names done whole) (filter_ascends (is_one_of done) whole up))
      (λ n. at_put n k a (with_names done whole) ∙ ap (λ (o : Option A). cond (bytes_eq n k) (Some a) o) (with_at done whole n) ∙ by n (bytes_eq n k) (is_one_of done n) refl
      ∙ sym (ap (λ (t : Bool). cond t (at_name n whole) None) (one_more done k n)))
    where
      found : (n : Name) → bytes_eq n k ≡ true → at_name n whole ≡ Some a
      found n r = ap (λ j. at_name j whole) ((bytes_decides n k).0 r) ∙ is

      by : (n : Name) (b c : Bool) → bytes_eq n k ≡ b → cond b (Some a) (cond c (at_name n whole) None) ≡ cond (c || (b || false)) (at_name n whole) None
      by n true true r = sym (found n r)
      by n true false r = sym (found n r)
      by n false true r = refl
      by n false false r = refl

  -- without one name each other finds what it found
  pub without_is : (k : Name) (whole m : Named A) → IsAscending whole → IsAscending m → ((n : Name) → at_name n m ≡ cond (bytes_eq k n) None (at_name n whole)) → m ≡ without_names (k ∷ []) whole
  without_is k whole m up top h =
      same_named m (without_names (k ∷ []) whole) top (filter_ascends (λ n. not (is_one_of (k ∷ []) n)) whole up)
      (λ n. h n ∙ ap (λ (t : Bool). cond t None (at_name n whole)) (either_order k n) ∙ by (bytes_eq n k) (at_name n whole) ∙ sym (filter_at (λ n. not (is_one_of (k ∷ []) n)) n whole))
    where
      by : (b : Bool) (o : Option A) → cond b None o ≡ cond (not (b || false)) o None
      by true o = refl
      by false o = refl

  pub with_none : (m : Named A) → with_names [] m ≡ []
  with_none [] = refl
  with_none (e ∷ m) = with_none m

  pub without_none : (m : Named A) → without_names [] m ≡ m
  without_none [] = refl
  without_none (e ∷ m) = ap (λ (l : Named A). e ∷ l) (without_none m)

  -- names are left out one after the other
  pub without_more : (done : List Name) (k : Name) (es : Named A) → without_names (k ∷ []) (without_names done es) ≡ without_names (done ++ k ∷ []) es
  without_more done k [] = refl
  without_more done k (e ∷ es) = by (is_one_of done e.0) (bytes_eq e.0 k) (is_one_of (done ++ k ∷ []) e.0) refl (one_more done k e.0) (without_more done k es)
    where
      by : (b c d : Bool) → bytes_eq e.0 k ≡ c → d ≡ (b || (c || false)) → without_names (k ∷ []) (without_names done es) ≡ without_names (done ++ k ∷ []) es →
          without_names (k ∷ []) (cond (not b) (e ∷ without_names done es) (without_names done es)) ≡ cond (not d) (e ∷ without_names (done ++ k ∷ []) es) (without_names (done ++ k ∷ []) es)
      by true c d r is h = h ∙ sym (ap (λ (t : Bool). cond (not t) (e ∷ without_names (done ++ k ∷ []) es) (without_names (done ++ k ∷ []) es)) is)
      by false true d r is h =
          ap (λ (t : Bool). cond (not (t || false)) (e ∷ without_names (k ∷ []) (without_names done es)) (without_names (k ∷ []) (without_names done es))) r
          ∙ h ∙ sym (ap (λ (t : Bool). cond (not t) (e ∷ without_names (done ++ k ∷ []) es) (without_names (done ++ k ∷ []) es)) is)
      by false false d r is h =
          ap (λ (t : Bool). cond (not (t || false)) (e ∷ without_names (k ∷ []) (without_names done es)) (without_names (k ∷ []) (without_names done es))) r
          ∙ ap (λ (l : Named A). e ∷ l) h ∙ sym (ap (λ (t : Bool). cond (not t) (e ∷ without_names (done ++ k ∷ []) es) (without_names (done ++ k ∷ []) es)) is)

-- of texts that are lent, the first and one more
pub next_text : (all : List (Bor (List ℕ))) (i : ℕ) (d : Bor (List ℕ)) → i < length all → map (λ t. t.now) (take (i + 1) all) ≡ map (λ t. t.now) (take i all) ++ (get_or all i d).now ∷ []
next_text all i d h = ap (map (λ t. t.now)) (take_more all i d h) ∙ map-append (λ t. t.now) (take i all) (get_or all i d ∷ [])

-- all of them
pub all_texts : (all : List (Bor (List ℕ))) (i : ℕ) → length all ≤ i → map (λ t. t.now) (take i all) ≡ map (λ t. t.now) all
all_texts all i h = ap (map (λ t. t.now)) (take_all i all h)
