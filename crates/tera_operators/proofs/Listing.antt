-- Entries that lie as they were evaluated, beside the map that is made of them.
use Rattle.std.proofs.Common.{◌≡◌, Bool, true, false, ◌&&◌, cond, List, [], ◌∷◌, ◌++◌, Option, Some, None, is_some, refl, ap, sym, ◌∙◌, ◌<◌, ◌≤◌, ◌+◌, ◌-◌, ℕ, length, get_or, take, map as map_list, arith}
use Rattle.std.specs.List.{zip, list_all}
use Rattle.std.proofs.lemmas.List.{take_more, get_or_default, length-map, length-take-le, get_or-map}
use Rattle.tera_syntax_tree.specs.View.{key_of, key_option}
use Rattle.tera_syntax_tree.specs.declared.expression.OwnedKey.{OwnedKey}
use Rattle.tera_syntax_tree.specs.Tree.{Key}
use Rattle.tera_values.specs.Val.{Val, KeyVal, ktext, undefined}
use Rattle.tera_values.specs.Keys.{key_cmp}
use Rattle.tera_values.specs.Access.{key_eq, find, insert_pair}
use Rattle.tera_value_types.proofs.Keys.{key_exact, is_eq_true}
use Rattle.tera_value_types.proofs.Symmetric.{find_inserted, find_other}
use Rattle.tera_operators.specs.Operand.{Evaluated}
use Rattle.tera_operators.specs.Literals.{key_val, inserted, from_left}
use Rattle.tera_operators.specs.Entries.{listed, is_at, is_key_named, is_named, are_named, AreAmong}
use Rattle.tera_operators.proofs.Keeping.{zip_none, zip_last}

-- a key finds what was put at it, and else what it found before
find_insert : (j k : KeyVal) (v : Val) (es : List (KeyVal × Val)) → find j (insert_pair es k v) ≡ cond (key_eq j k) (Some v) (find j es)
find_insert j k v es = by (key_eq j k) refl
  where
    by : (b : Bool) → key_eq j k ≡ b → find j (insert_pair es k v) ≡ cond b (Some v) (find j es)
    by true t = ap (λ (i : KeyVal). find i (insert_pair es k v)) (key_exact j k (is_eq_true (key_cmp j k) t)) ∙ find_inserted es k v
    by false t = find_other es k j v (λ u. absurd (cc))

find_put : (j : KeyVal) (k : Option Key) (v : Val) (es : List (KeyVal × Val)) → find j (inserted es k v) ≡ cond (is_at j k) (Some v) (find j es)
find_put j None v es = refl
find_put j (Some k) v es = find_insert j (key_val k) v es

from_left_last : (all : List (KeyVal × Val)) (es : List (Option Key × Evaluated)) (e : Option Key × Evaluated) → from_left all (es ++ e ∷ []) ≡ inserted (from_left all es) e.0 e.1.value
from_left_last all [] e = refl
from_left_last all (x ∷ es) e = from_left_last (inserted all x.0 x.1.value) es e

pub listed_none : (keys : List (Option OwnedKey)) → listed keys [] ≡ []
listed_none keys = ap (from_left []) (zip_none (map_list key_option keys))

-- one operand more
listed_more : (keys : List (Option OwnedKey)) (xs : List Evaluated) (i : ℕ) (key : Option OwnedKey) (x : Evaluated) → i < length xs → length keys ≡ length xs → key ≡ get_or keys i key → x ≡ get_or xs i x →
    listed keys (take (i + 1) xs) ≡ inserted (listed keys (take i xs)) (key_option key) x.value
listed_more keys xs i key x lt n k e =
    let ks = map_list key_option keys in
    let before = take i xs in
    let many : length before ≡ i = length-take-le i xs (omega (arith, lt)) in
    let there : i < length keys = omega (arith, lt, n) in
    let long : length before < length ks = omega (arith, there, many, length-map keys key_option) in
    let at : get_or ks (length before) (key_option key) ≡ key_option key = ap (λ (m : ℕ). get_or ks m (key_option key)) many ∙ get_or-map key_option keys i key (key_option key) there ∙ ap key_option (sym k) in
    ap (listed keys) (take_more xs i x lt ∙ ap (λ (y : Evaluated). before ++ y ∷ []) (sym e))
    ∙ ap (from_left []) (zip_last ks before x (key_option key) long)
    ∙ from_left_last [] (zip ks before) (get_or ks (length before) (key_option key), x)
    ∙ ap (λ (o : Option Key). inserted (listed keys before) o x.value) at

-- what is found among the operands before a position, by the last one of them
found_more : (j : KeyVal) (keys : List (Option OwnedKey)) (xs : List Evaluated) (left : ℕ) (key : Option OwnedKey) (x : Evaluated) → 0 < left → left ≤ length xs → length keys ≡ length xs → key ≡ get_or keys (left - 1) key → x ≡ get_or xs (left - 1) x →
    find j (listed keys (take left xs)) ≡ cond (is_at j (key_option key)) (Some x.value) (find j (listed keys (take (left - 1) xs)))
found_more j keys xs left key x some within n k e =
    let i = left - 1 in
    let more : left ≡ i + 1 = omega (arith, some) in
    ap (λ (m : ℕ). find j (listed keys (take m xs))) more
    ∙ ap (find j) (listed_more keys xs i key x (omega (arith, some, within)) n k e)
    ∙ find_put j (key_option key) x.value (listed keys (take i xs))

-- the last operand counts, where its key is the one looked for
pub found_last : (j : KeyVal) (keys : List (Option OwnedKey)) (xs : List Evaluated) (left : ℕ) (key : Option OwnedKey) (x : Evaluated) → 0 < left → left ≤ length xs → length keys ≡ length xs → key ≡ get_or keys (left - 1) key → x ≡ get_or xs (left - 1) x →
    is_at j (key_option key) ≡ true → find j (listed keys (take left xs)) ≡ Some x.value
found_last j keys xs left key x some within n k e it =
    found_more j keys xs left key x some within n k e ∙ ap (λ (b : Bool). cond b (Some x.value) (find j (listed keys (take (left - 1) xs)))) it

unread : Evaluated
unread = record { value = undefined; span = record { start = 0; end = 0 } }

-- and else those before it
pub found_before : (j : KeyVal) (keys : List (Option OwnedKey)) (xs : List Evaluated) (left : ℕ) (key : Option OwnedKey) → 0 < left → left ≤ length xs → length keys ≡ length xs → key ≡ get_or keys (left - 1) key →
    is_at j (key_option key) ≡ false → find j (listed keys (take left xs)) ≡ find j (listed keys (take (left - 1) xs))
found_before j keys xs left key some within n k other =
    let x = get_or xs (left - 1) unread in
    found_more j keys xs left key x some within n k (get_or_default xs (left - 1) unread x (omega (arith, some, within)))
    ∙ ap (λ (b : Bool). cond b (Some x.value) (find j (listed keys (take (left - 1) xs)))) other

and_last : (a b : Bool) → (a && b) ≡ ((a && b) && a)
and_last true true = refl
and_last true false = refl
and_last false b = refl

and_inward : (a b c : Bool) → (a && (b && c)) ≡ ((a && b) && c)
and_inward true b c = refl
and_inward false b c = refl

module _ (p : KeyVal → Bool) where
  pass_insert : (es : List (KeyVal × Val)) (k : KeyVal) (v : Val) → list_all (λ (e : KeyVal × Val). p e.0) (insert_pair es k v) ≡ (list_all (λ (e : KeyVal × Val). p e.0) es && p k)
  pass_insert [] k v = by (p k)
    where
      by : (b : Bool) → (b && true) ≡ (true && b)
      by true = refl
      by false = refl
  pass_insert (e ∷ es) k v = by (key_eq k e.0) refl (pass_insert es k v)
    where
      by : (b : Bool) → key_eq k e.0 ≡ b → list_all (λ (e : KeyVal × Val). p e.0) (insert_pair es k v) ≡ (list_all (λ (e : KeyVal × Val). p e.0) es && p k) →
          list_all (λ (e : KeyVal × Val). p e.0) (cond b ((e.0, v) ∷ es) (e ∷ insert_pair es k v)) ≡ ((p e.0 && list_all (λ (e : KeyVal × Val). p e.0) es) && p k)
      by true t rest =
          let tie : k ≡ e.0 = key_exact k e.0 (is_eq_true (key_cmp k e.0) t) in
          and_last (p e.0) (list_all (λ (e : KeyVal × Val). p e.0) es) ∙ ap (λ (i : KeyVal). (p e.0 && list_all (λ (e : KeyVal × Val). p e.0) es) && p i) (sym tie)
      by false t rest = ap (λ (b : Bool). p e.0 && b) rest ∙ and_inward (p e.0) (list_all (λ (e : KeyVal × Val). p e.0) es) (p k)

-- the keys of the operands are those of the map
named_onto : (names all : List (KeyVal × Val)) (keys : List (Option OwnedKey)) (xs : List Evaluated) → length keys ≡ length xs →
    are_named names (from_left all (zip (map_list key_option keys) xs)) ≡ (are_named names all && list_all (λ k. is_key_named names (key_option k)) keys)
named_onto names all [] xs n = by (are_named names all)
  where
    by : (b : Bool) → b ≡ (b && true)
    by true = refl
    by false = refl
named_onto names all (k ∷ keys) [] n = absurd (omega (arith, n))
named_onto names all (None ∷ keys) (x ∷ xs) n = named_onto names all keys xs (omega (arith, n))
named_onto names all (Some k ∷ keys) (x ∷ xs) n =
    let rest = list_all (λ k. is_key_named names (key_option k)) keys in
    named_onto names (inserted all (key_option (Some k)) x.value) keys xs (omega (arith, n))
    ∙ ap (λ (b : Bool). b && rest) (pass_insert (is_named names) all (key_val (key_of k)) x.value)
    ∙ sym (and_inward (are_named names all) (is_named names (key_val (key_of k))) rest)

pub listed_named : (names : List (KeyVal × Val)) (keys : List (Option OwnedKey)) (xs : List Evaluated) → length keys ≡ length xs →
    are_named names (listed keys xs) ≡ list_all (λ k. is_key_named names (key_option k)) keys
listed_named names keys xs n = named_onto names [] keys xs n

-- what a text key finds is named
pub among : (names all : List (KeyVal × Val)) → are_named names all ≡ true → AreAmong names all
among names [] h n found = absurd (cc)
among names (e ∷ all) h n found = by (key_eq (ktext n) e.0) refl (is_named names e.0) refl h found (λ l. among names all l n)
  where
    by : (b : Bool) → key_eq (ktext n) e.0 ≡ b → (c : Bool) → is_named names e.0 ≡ c → (c && are_named names all) ≡ true → is_some (cond b (Some e.1) (find (ktext n) all)) ≡ true →
        (are_named names all ≡ true → is_some (find (ktext n) all) ≡ true → is_some (find (ktext n) names) ≡ true) → is_some (find (ktext n) names) ≡ true
    by b t false u h found rest = absurd (cc)
    by true t true u h found rest = ap (is_named names) (key_exact (ktext n) e.0 (is_eq_true (key_cmp (ktext n) e.0) t)) ∙ u
    by false t true u h found rest = rest h found
