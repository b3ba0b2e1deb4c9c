-- The order of values is total: it is the order of lists of numbers, by a list of numbers for each
-- value.
use Rattle.std.specs.Prelude.{◌≡◌, ℕ, ℤ, pos, Bool, true, false, List, [], ◌∷◌, refl}
use Rattle.std.proofs.Common.{◌∙◌, sym, ap, subst, arith}
use Rattle.std.specs.declared.cmp.Ordering.{Ordering}
use Rattle.std.specs.declared.cmp.Ordering.TheVariants.{Less, Equal, Greater}
use Rattle.std.specs.Ordering.{nat_cmp, int_cmp, bool_cmp, ordering_then}
use Rattle.std.specs.Cmp.{IsTotalOrder}
use Rattle.std.specs.Cmp.Lexicographic.{slice_cmp}
use Rattle.std.proofs.lemmas.Cmp.{int_cmp_total, lists_total, on_total}
use Rattle.std.proofs.lemmas.Bool.Decides.{nat_tests}
use Rattle.tera_value_types.specs.Val.{Val, Vals, Entries, KeyVal, kbool, kint, ktext, undefined, none, bool, int, text, bytes, array, map, no_items, item, no_entries, entry}
use Rattle.tera_value_types.specs.Keys.{key_cmp}
use Rattle.tera_value_types.specs.Order.{content_cmp, items_cmp, entries_cmp, plain, order}

abbrev bit : Bool → ℤ
bit false = pos 0
bit true = pos 1

abbrev bytes_then : List ℕ → List ℤ → List ℤ
bytes_then [] xs = pos 0 ∷ xs
bytes_then (b ∷ t) xs = pos 1 ∷ pos b ∷ bytes_then t xs

abbrev key_then : KeyVal → List ℤ → List ℤ
key_then (kbool b) xs = pos 1 ∷ bit b ∷ xs
key_then (kint z) xs = pos 2 ∷ z ∷ xs
key_then (ktext t) xs = pos 3 ∷ bytes_then t xs

-- the numbers of a value, and others after them
abbrev mutual
  val_then : Val → List ℤ → List ℤ
  val_then undefined xs = pos 1 ∷ xs
  val_then none xs = pos 2 ∷ xs
  val_then (bool b) xs = pos 3 ∷ bit b ∷ xs
  val_then (int z) xs = pos 4 ∷ z ∷ xs
  val_then (text t s) xs = pos 5 ∷ bytes_then t xs
  val_then (bytes t) xs = pos 6 ∷ bytes_then t xs
  val_then (array vs) xs = pos 7 ∷ items_then vs xs
  val_then (map es) xs = pos 8 ∷ entries_then es xs

  items_then : Vals → List ℤ → List ℤ
  items_then no_items xs = pos 0 ∷ xs
  items_then (item v vs) xs = val_then v (items_then vs xs)

  entries_then : Entries → List ℤ → List ℤ
  entries_then no_entries xs = pos 0 ∷ xs
  entries_then (entry k v es) xs = key_then k (val_then v (entries_then es xs))

then_assoc : (a b c : Ordering)
    → ordering_then a (ordering_then b c) ≡ ordering_then (ordering_then a b) c
then_assoc Less b c = refl
then_assoc Equal b c = refl
then_assoc Greater b c = refl

then_Equal : (a : Ordering) → ordering_then a Equal ≡ a
then_Equal Less = refl
then_Equal Equal = refl
then_Equal Greater = refl

abbrev lists : List ℤ → List ℤ → Ordering
lists = slice_cmp int_cmp

by_bit : (a b : Bool) (o : Ordering)
    → ordering_then (int_cmp (bit a) (bit b)) o ≡ ordering_then (bool_cmp a b) o
by_bit false false o = refl
by_bit false true o = refl
by_bit true false o = refl
by_bit true true o = refl

by_pos : (x y : ℕ) → int_cmp (pos x) (pos y) ≡ nat_cmp x y
by_pos x y = grind (arith, nat_tests)

by_bytes : (a b : List ℕ) (xs ys : List ℤ)
    → lists (bytes_then a xs) (bytes_then b ys)
    ≡ ordering_then (slice_cmp nat_cmp a b) (lists xs ys)
by_bytes [] [] xs ys = refl
by_bytes [] (y ∷ b) xs ys = refl
by_bytes (x ∷ a) [] xs ys = refl
by_bytes (x ∷ a) (y ∷ b) xs ys =
    ap (λ o. ordering_then o (lists (bytes_then a xs) (bytes_then b ys))) (by_pos x y)
    ∙ ap (ordering_then (nat_cmp x y)) (by_bytes a b xs ys)
    ∙ then_assoc (nat_cmp x y) (slice_cmp nat_cmp a b) (lists xs ys)

by_key : (k j : KeyVal) (xs ys : List ℤ)
    → lists (key_then k xs) (key_then j ys) ≡ ordering_then (key_cmp k j) (lists xs ys)
by_key (kbool a) (kbool b) xs ys =
    by_bit a b (lists xs ys)
    ∙ ap (λ o. ordering_then o (lists xs ys)) (sym (then_Equal (bool_cmp a b)))
by_key (kint a) (kint b) xs ys =
    ap (λ o. ordering_then o (lists xs ys)) (sym (then_Equal (int_cmp a b)))
by_key (ktext a) (ktext b) xs ys = by_bytes a b xs ys
by_key k j xs ys = refl

ends_first : (w : Val) (xs ys : List ℤ) → lists (pos 0 ∷ xs) (val_then w ys) ≡ Less
ends_first undefined xs ys = refl
ends_first w xs ys = refl

ends_later : (w : Val) (xs ys : List ℤ) → lists (val_then w ys) (pos 0 ∷ xs) ≡ Greater
ends_later undefined xs ys = refl
ends_later w xs ys = refl

key_after : (k : KeyVal) (xs ys : List ℤ) → lists (pos 0 ∷ xs) (key_then k ys) ≡ Less
key_after (kbool b) xs ys = refl
key_after (kint z) xs ys = refl
key_after (ktext t) xs ys = refl

key_before : (k : KeyVal) (xs ys : List ℤ) → lists (key_then k ys) (pos 0 ∷ xs) ≡ Greater
key_before (kbool b) xs ys = refl
key_before (kint z) xs ys = refl
key_before (ktext t) xs ys = refl

mutual
  by_value : (a b : Val) (xs ys : List ℤ)
      → lists (val_then a xs) (val_then b ys) ≡ ordering_then (content_cmp a b) (lists xs ys)
  by_value undefined undefined xs ys = refl
  by_value none none xs ys = refl
  by_value (int a) (int b) xs ys = refl
  by_value (bool a) (bool b) xs ys = by_bit a b (lists xs ys)
  by_value (text a s) (text b r) xs ys = by_bytes a b xs ys
  by_value (bytes a) (bytes b) xs ys = by_bytes a b xs ys
  by_value (array a) (array b) xs ys = by_items a b xs ys
  by_value (map a) (map b) xs ys = by_entries a b xs ys
  by_value a b xs ys = refl

  by_items : (a b : Vals) (xs ys : List ℤ)
      → lists (items_then a xs) (items_then b ys) ≡ ordering_then (items_cmp a b) (lists xs ys)
  by_items no_items no_items xs ys = refl
  by_items no_items (item w ws) xs ys = ends_first w xs (items_then ws ys)
  by_items (item v vs) no_items xs ys = ends_later v ys (items_then vs xs)
  by_items (item v vs) (item w ws) xs ys =
      by_value v w (items_then vs xs) (items_then ws ys)
      ∙ ap (ordering_then (content_cmp v w)) (by_items vs ws xs ys)
      ∙ then_assoc (content_cmp v w) (items_cmp vs ws) (lists xs ys)

  by_entries : (a b : Entries) (xs ys : List ℤ)
      → lists (entries_then a xs) (entries_then b ys)
      ≡ ordering_then (entries_cmp a b) (lists xs ys)
  by_entries no_entries no_entries xs ys = refl
  by_entries no_entries (entry j w fs) xs ys = key_after j xs (val_then w (entries_then fs ys))
  by_entries (entry k v es) no_entries xs ys = key_before k ys (val_then v (entries_then es xs))
  by_entries (entry k v es) (entry j w fs) xs ys =
      by_key k j (val_then v (entries_then es xs)) (val_then w (entries_then fs ys))
      ∙ ap (ordering_then (key_cmp k j))
      (by_value v w (entries_then es xs) (entries_then fs ys)
      ∙ ap (ordering_then (content_cmp v w)) (by_entries es fs xs ys)
      ∙ then_assoc (content_cmp v w) (entries_cmp es fs) (lists xs ys))
      ∙ then_assoc (key_cmp k j) (ordering_then (content_cmp v w) (entries_cmp es fs)) (lists xs ys)

by_numbers : (a b : Val) → lists (val_then a []) (val_then b []) ≡ content_cmp a b
by_numbers a b = by_value a b [] [] ∙ then_Equal (content_cmp a b)

pub content_total : IsTotalOrder content_cmp
content_total =
    subst IsTotalOrder (λ i a b. by_numbers a b i)
    (on_total (λ v. val_then v []) (lists_total int_cmp_total))

pub order_total : IsTotalOrder order
order_total = on_total plain content_total
