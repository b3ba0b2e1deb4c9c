-- Two values are the same where they are one value without marks and with their maps in key order; and maps are the same where each key finds the same.
use Rattle.std.proofs.Common.{◌≡◌, Bool, true, false, refl, sym, ap, ◌∙◌, Ordering, Less, Equal, Greater, is_eq, option_map}
use Rattle.std.specs.Ordering.{ordering_then, bool_cmp}
use Rattle.std.proofs.lemmas.Cmp.{int_ranked, tied_itself}
use Rattle.std.proofs.lemmas.Map.Lookups.{exact_bytes}
use Rattle.tera_value_types.specs.Val.{Val, Vals, Entries, KeyVal, undefined, none, bool, int, text, bytes, array, map, no_items, item, no_entries, entry, entries}
use Rattle.tera_value_types.specs.Keys.{key_cmp}
use Rattle.tera_value_types.specs.Access.{find, pairs}
use Rattle.tera_value_types.specs.Order.{content_cmp, items_cmp, entries_cmp, plain, plain_items, plain_entries, put, by_answer, same, order}
use Rattle.tera_value_types.specs.Laws.{content_total}
use Rattle.tera_value_types.proofs.Keys.{key_exact, then_left, is_eq_true}
use Rattle.tera_value_types.proofs.Pairs.{pairs_entries}
use Rattle.tera_value_types.proofs.Positions.{Pairs}
use Rattle.tera_value_types.proofs.Sorted.{sort_pairs, sort_entries, rising_sort, find_sort, unique}

then_right : (o p : Ordering) → ordering_then o p ≡ Equal → p ≡ Equal
then_right Less p h = cc
then_right Equal p h = h
then_right Greater p h = cc

abbrev mutual
  Unmarked : Val → Type 0
  Unmarked (text t s) = s ≡ false
  Unmarked (array vs) = UnmarkedItems vs
  Unmarked (map es) = UnmarkedEntries es
  Unmarked v = Unit {0}

  UnmarkedItems : Vals → Type 0
  UnmarkedItems no_items = Unit {0}
  UnmarkedItems (item v vs) = Unmarked v × UnmarkedItems vs

  UnmarkedEntries : Entries → Type 0
  UnmarkedEntries no_entries = Unit {0}
  UnmarkedEntries (entry k v es) = Unmarked v × UnmarkedEntries es

exact_bool : (a b : Bool) → bool_cmp a b ≡ Equal → a ≡ b
exact_bool true true h = refl
exact_bool true false h = cc
exact_bool false true h = cc
exact_bool false false h = refl

mutual
  exact : (a b : Val) → Unmarked a → Unmarked b → content_cmp a b ≡ Equal → a ≡ b
  exact undefined undefined m n h = refl
  exact none none m n h = refl
  exact (bool a) (bool b) m n h = ap bool (exact_bool a b h)
  exact (int a) (int b) m n h = ap int (int_ranked a b Equal (sym h))
  exact (text a s) (text b r) m n h =
      let e : a ≡ b = exact_bytes a b h in
      let f : s ≡ r = m ∙ sym n in
      λ i. text (e i) (f i)
  exact (bytes a) (bytes b) m n h = ap bytes (exact_bytes a b h)
  exact (array a) (array b) m n h = ap array (exact_items a b m n h)
  exact (map a) (map b) m n h = ap map (exact_entries a b m n h)
  exact a b m n h = cc

  exact_items : (a b : Vals) → UnmarkedItems a → UnmarkedItems b → items_cmp a b ≡ Equal → a ≡ b
  exact_items no_items no_items m n h = refl
  exact_items no_items (item w ws) m n h = cc
  exact_items (item v vs) no_items m n h = cc
  exact_items (item v vs) (item w ws) m n h =
      let e = exact v w m.0 n.0 (then_left (content_cmp v w) (items_cmp vs ws) h) in
      let f = exact_items vs ws m.1 n.1 (then_right (content_cmp v w) (items_cmp vs ws) h) in
      λ i. item (e i) (f i)

  exact_entries : (a b : Entries) → UnmarkedEntries a → UnmarkedEntries b → entries_cmp a b ≡ Equal → a ≡ b
  exact_entries no_entries no_entries m n h = refl
  exact_entries no_entries (entry j w fs) m n h = cc
  exact_entries (entry k v es) no_entries m n h = cc
  exact_entries (entry k v es) (entry j w fs) m n h =
      let both = ordering_then (content_cmp v w) (entries_cmp es fs) in
      let g = key_exact k j (then_left (key_cmp k j) both h) in
      let more = then_right (key_cmp k j) both h in
      let e = exact v w m.0 n.0 (then_left (content_cmp v w) (entries_cmp es fs) more) in
      let f = exact_entries es fs m.1 n.1 (then_right (content_cmp v w) (entries_cmp es fs) more) in
      λ i. entry (g i) (e i) (f i)

unmarked_chosen : (o : Ordering) (a b c : Entries) → UnmarkedEntries a → UnmarkedEntries b → UnmarkedEntries c → UnmarkedEntries (by_answer o a b c)
unmarked_chosen Less a b c x y z = x
unmarked_chosen Equal a b c x y z = y
unmarked_chosen Greater a b c x y z = z

unmarked_put : (k : KeyVal) (v : Val) (es : Entries) → Unmarked v → UnmarkedEntries es → UnmarkedEntries (put k v es)
unmarked_put k v no_entries m n = (m, tt)
unmarked_put k v (entry j w es) m n = unmarked_chosen (key_cmp k j) (entry k v (entry j w es)) (entry k v es) (entry j w (put k v es)) (m, n) (m, n.1) (n.0, unmarked_put k v es m n.1)

mutual
  unmarked : (v : Val) → Unmarked (plain v)
  unmarked (text t s) = refl
  unmarked (array vs) = unmarked_items vs
  unmarked (map es) = unmarked_entries es
  unmarked v = tt

  unmarked_items : (vs : Vals) → UnmarkedItems (plain_items vs)
  unmarked_items no_items = tt
  unmarked_items (item v vs) = (unmarked v, unmarked_items vs)

  unmarked_entries : (es : Entries) → UnmarkedEntries (plain_entries es)
  unmarked_entries no_entries = tt
  unmarked_entries (entry k v es) = unmarked_put k (plain v) (plain_entries es) (unmarked v) (unmarked_entries es)

pub plain_from_same : (a b : Val) → same a b ≡ true → plain a ≡ plain b
plain_from_same a b h = exact (plain a) (plain b) (unmarked a) (unmarked b) (is_eq_true (order a b) h)

pub same_from_plain : (a b : Val) → plain a ≡ plain b → same a b ≡ true
same_from_plain a b h = ap (λ v. is_eq (content_cmp (plain a) v)) (sym h) ∙ ap is_eq (tied_itself content_total (plain a))

pub finds_from_plain : (es fs : Pairs) → plain (map (entries es)) ≡ plain (map (entries fs)) → (q : KeyVal) → option_map plain (find q es) ≡ option_map plain (find q fs)
finds_from_plain es fs h q =
    let e : plain_entries (entries es) ≡ plain_entries (entries fs) = cc in
    let l : sort_pairs es ≡ sort_pairs fs = sym (pairs_entries (sort_pairs es)) ∙ ap pairs (sym (sort_entries es) ∙ e ∙ sort_entries fs) ∙ pairs_entries (sort_pairs fs) in
    sym (find_sort q es) ∙ ap (find q) l ∙ find_sort q fs

pub plain_from_finds : (es fs : Pairs) → ((q : KeyVal) → option_map plain (find q es) ≡ option_map plain (find q fs)) → plain (map (entries es)) ≡ plain (map (entries fs))
plain_from_finds es fs h = ap map (sort_entries es ∙ ap entries (unique (sort_pairs es) (sort_pairs fs) (rising_sort es) (rising_sort fs) (λ q. find_sort q es ∙ h q ∙ sym (find_sort q fs))) ∙ sym (sort_entries fs))
