-- Maps that are written out, entry by entry from the right.
use Rattle.std.proofs.Common.{◌≡◌, Bool, true, false, cond, List, [], ◌∷◌, ◌++◌, Option, Some, None, Result, Ok, Err, refl, ap, sym, ◌∙◌, ◌<◌, ◌≤◌, ◌+◌, ℕ, length, get_or, drop, map as map_list, is_none, length-append, arith}
use Rattle.std.specs.List.{zip, list_any, slice_get}
use Rattle.std.proofs.lemmas.List.{drop_more, length-map, get_or-map}
use Rattle.std.proofs.lemmas.Option.{slice_get_within, get_or_from_slice_get}
use Rattle.tera_errors.specs.Answer.{SeenError, Tells, Says}
use Rattle.tera_syntax_tree.specs.View.{key_option}
use Rattle.tera_syntax_tree.specs.declared.expression.OwnedKey.{OwnedKey}
use Rattle.tera_errors.specs.Site.{Name}
use Rattle.tera_errors.specs.Fault.{Fault}
use Rattle.tera_syntax_tree.specs.Tree.{Key}
use Rattle.tera_values.specs.Val.{Val, KeyVal}
use Rattle.tera_values.specs.Access.{key_eq, find, insert_pair}
use Rattle.tera_operators.specs.Operand.{Evaluated, then, known, fault_at}
use Rattle.tera_operators.specs.Literals.{entry_after, from_left, from_right, map_entries, kept, pairs_of}

-- a key that is not there goes last
pub inserted_last : (all : List (KeyVal × Val)) (k : KeyVal) (v : Val) → find k all ≡ None → insert_pair all k v ≡ all ++ (k, v) ∷ []
inserted_last [] k v e = refl
inserted_last (x ∷ all) k v e =
    let by : (b : Bool) → cond b (Some x.1) (find k all) ≡ None → cond b ((x.0, v) ∷ all) (x ∷ insert_pair all k v) ≡ x ∷ (all ++ (k, v) ∷ []) =
    λ b. elim b as (λ (t : Bool). cond t (Some x.1) (find k all) ≡ None → cond t ((x.0, v) ∷ all) (x ∷ insert_pair all k v) ≡ x ∷ (all ++ (k, v) ∷ [])) [ true ↦ λ h. absurd (cc) | false ↦ λ h. ap (λ (es : List (KeyVal × Val)). x ∷ es) (inserted_last all k v h) ] in
    by (key_eq k x.0) e

-- the entries on the left of what is there
abbrev pub onto : Name → List (Option Key × Evaluated) → Result (List (KeyVal × Val)) Fault → Result (List (KeyVal × Val)) Fault
onto file [] all = all
onto file (e ∷ es) all = then (onto file es all) (entry_after file e.0 e.1)

pub from_right_onto : (file : Name) (es : List (Option Key × Evaluated)) → from_right file es ≡ onto file es (Ok [])
from_right_onto file [] = refl
from_right_onto file (e ∷ es) = ap (λ (r : Result (List (KeyVal × Val)) Fault). then r (entry_after file e.0 e.1)) (from_right_onto file es)

pub onto_fault : (file : Name) (es : List (Option Key × Evaluated)) (f : Fault) → onto file es (Err f) ≡ Err f
onto_fault file [] f = refl
onto_fault file (e ∷ es) f = ap (λ (r : Result (List (KeyVal × Val)) Fault). then r (entry_after file e.0 e.1)) (onto_fault file es f)

pub onto_last : (file : Name) (es : List (Option Key × Evaluated)) (e : Option Key × Evaluated) (all : Result (List (KeyVal × Val)) Fault) →
    onto file (es ++ e ∷ []) all ≡ onto file es (then all (entry_after file e.0 e.1))
onto_last file [] e all = refl
onto_last file (x ∷ es) e all = ap (λ (r : Result (List (KeyVal × Val)) Fault). then r (entry_after file x.0 x.1)) (onto_last file es e all)

pub zip_none : {A B : Type 0} → (xs : List A) → zip {X = B} xs [] ≡ []
zip_none [] = refl
zip_none (x ∷ xs) = refl

pub zip_last : {A B : Type 0} → (xs : List A) (ys : List B) (y : B) (d : A) → length ys < length xs → zip xs (ys ++ y ∷ []) ≡ zip xs ys ++ (get_or xs (length ys) d, y) ∷ []
zip_last [] ys y d h = absurd (omega (arith, h))
zip_last (x ∷ xs) [] y d h = ap (λ (ps : List _). (x, y) ∷ ps) (zip_none xs)
zip_last (x ∷ xs) (z ∷ ys) y d h = ap (λ (ps : List _). (x, z) ∷ ps) (zip_last xs ys y d (omega (arith, h)))

-- the operand on the right, taken off
pub onto_popped : (file : Name) (keys : List (Option OwnedKey)) (old new : List Evaluated) (x : Evaluated) (key : Option OwnedKey) (all : List (KeyVal × Val)) →
    old ≡ new ++ x ∷ [] → length old ≤ length keys → key ≡ get_or keys (length new) key →
    onto file (zip (map_list key_option keys) old) (Ok all) ≡ onto file (zip (map_list key_option keys) new) (entry_after file (key_option key) x all)
onto_popped file keys old new x key all e n k =
    let ks = map_list key_option keys in
    let many : length old ≡ length new + 1 = ap length e ∙ simp length-append in
    let there : length new < length keys = omega (arith, many, n) in
    let long : length new < length ks = omega (arith, there, length-map keys key_option) in
    let at : get_or ks (length new) (key_option key) ≡ key_option key = get_or-map key_option keys (length new) key (key_option key) there ∙ ap key_option (sym k) in
    ap (λ (xs : List Evaluated). onto file (zip ks xs) (Ok all)) e
    ∙ ap (λ (ps : List (Option Key × Evaluated)). onto file ps (Ok all)) (zip_last ks new x (key_option key) long)
    ∙ onto_last file (zip ks new) (get_or ks (length new) (key_option key), x) (Ok all)
    ∙ ap (λ (o : Option Key). onto file (zip ks new) (entry_after file o x all)) at

pub spread_fits : (file : Name) (x : Evaluated) (all es : List (KeyVal × Val)) → Some es ≡ pairs_of x.value → entry_after file None x all ≡ Ok (kept all es)
spread_fits file x all es e = ap (λ (o : Option (List (KeyVal × Val))). then (known file o x.span) (λ ps. Ok (kept all ps))) (sym e)

pub spread_unfit : (file : Name) (x : Evaluated) (all : List (KeyVal × Val)) → None ≡ pairs_of x.value → entry_after file None x all ≡ fault_at file x.span
spread_unfit file x all e = ap (λ (o : Option (List (KeyVal × Val))). then (known file o x.span) (λ ps. Ok (kept all ps))) (sym e)

-- the next of the entries that are spread
pub kept_next : (all more : List (KeyVal × Val)) (i : ℕ) (e : KeyVal × Val) → Some e ≡ slice_get more i → kept all (drop i more) ≡ kept (kept all (e ∷ [])) (drop (i + 1) more)
kept_next all more i e is =
    ap (kept all) (drop_more more i e (slice_get_within more i e (sym is)) ∙ ap (λ (x : KeyVal × Val). x ∷ drop (i + 1) more) (get_or_from_slice_get more i e e (sym is)))

-- a key is absent where an entry is spread
pub spread_keys : (keys : List (Option OwnedKey)) (xs : List Evaluated) → length keys ≡ length xs → list_any (λ (e : Option Key × Evaluated). is_none e.0) (zip (map_list key_option keys) xs) ≡ list_any is_none keys
spread_keys [] xs n = refl
spread_keys (k ∷ keys) [] n = absurd (omega (arith, n))
spread_keys (None ∷ keys) (x ∷ xs) n = refl
spread_keys (Some k ∷ keys) (x ∷ xs) n = spread_keys keys xs (omega (arith, n))

pub says_fault : {A : Type 0} → (told : SeenError) (fault : Fault) (meant : Result A Fault) → Tells told fault → meant ≡ Err fault → Says told meant
says_fault None fault meant t e = tt
says_fault (Some f) fault meant t e = e ∙ ap Err (sym t)

pub says_onto : (told : SeenError) (file : Name) (es : List (Option Key × Evaluated)) (r meant : Result (List (KeyVal × Val)) Fault) → meant ≡ onto file es r → Says told r → Says told meant
says_onto None file es r meant e h = tt
says_onto (Some f) file es r meant e h = e ∙ ap (onto file es) h ∙ onto_fault file es f

pub with_spread : (file : Name) (keys : List (Option OwnedKey)) (xs : List Evaluated) → length keys ≡ length xs → list_any is_none keys ≡ true →
    map_entries file (zip (map_list key_option keys) xs) ≡ from_right file (zip (map_list key_option keys) xs)
with_spread file keys xs n h =
    let es = zip (map_list key_option keys) xs in
    ap (λ (b : Bool). cond b (from_right file es) (Ok (from_left [] es))) (spread_keys keys xs n ∙ h)

pub without_spread : (file : Name) (keys : List (Option OwnedKey)) (xs : List Evaluated) → length keys ≡ length xs → list_any is_none keys ≡ false →
    map_entries file (zip (map_list key_option keys) xs) ≡ Ok (from_left [] (zip (map_list key_option keys) xs))
without_spread file keys xs n h =
    let es = zip (map_list key_option keys) xs in
    ap (λ (b : Bool). cond b (from_right file es) (Ok (from_left [] es))) (spread_keys keys xs n ∙ h)

pub nothing : {A : Type 0} → (xs : List A) → length xs ≡ 0 → xs ≡ []
nothing [] e = refl
nothing (x ∷ xs) e = absurd (omega (arith, e))
