-- What the entries of a map print, one after another.
use Rattle.std.proofs.Common.{◌≡◌, ℕ, zero, suc, ◌+◌, ◌-◌, ◌<◌, ◌≤◌, List, [], ◌∷◌, ◌++◌, length, take, drop, get_or, refl, sym, ap, ◌∙◌, arith, append_assoc, codes, Result, Ok, Err, OnOk}
use Rattle.std.proofs.lemmas.List.{append-nil, drop_more}
use Rattle.std.proofs.Math.Seq.{take-length}
use Rattle.tera_value_types.specs.Val.{entries}
use Rattle.tera_value_types.specs.View.{key_view, entry_views}
use Rattle.tera_value_types.specs.Printed.{inside, key_text, pairs_inside}
use Rattle.tera_value_types.specs.declared.value.Entry.{Entry}

abbrev pub listed : List Entry → List ℕ
listed all = pairs_inside (entries (entry_views all))

pub listed_more : (all : List Entry) (i : ℕ) (e : Entry) → i < length all → e ≡ get_or all i e → listed (drop i all) ≡ codes ", " ++ key_text (key_view e.key) ++ codes ": " ++ inside e.value ++ listed (drop (i + 1) all)
listed_more all i e h is = ap listed (drop_more all i e h) ∙ ap (λ (x : Entry). listed (x ∷ drop (i + 1) all)) (sym is)

pub listed_end : (all : List Entry) (i : ℕ) → length all ≤ i → listed (drop i all) ≡ []
listed_end [] zero h = refl
listed_end [] (suc i) h = refl
listed_end (x ∷ all) zero h = absurd (omega (arith, h))
listed_end (x ∷ all) (suc i) h = listed_end all i (omega (arith, h))

pub first_and_rest : (all : List Entry) (e : Entry) → 1 ≤ length all → e ≡ get_or all 0 e → all ≡ e ∷ take (length all - 1) (drop 1 all)
first_and_rest [] e h is = absurd (omega (arith, h))
first_and_rest (x ∷ all) e h is =
    let n : length (x ∷ all) - 1 ≡ length all = omega arith in
    ap (λ (y : Entry). y ∷ all) (sym is) ∙ ap (λ (l : List Entry). e ∷ l) (sym (ap (λ (k : ℕ). take k all) n ∙ take-length all))

pub four_more : (o a b c d p o1 o2 o3 o4 : List ℕ) → o1 ≡ o ++ a → o2 ≡ o1 ++ b → o3 ≡ o2 ++ c → o4 ≡ o3 ++ d → o4 ++ p ≡ o ++ (a ++ b ++ c ++ d ++ p)
four_more o a b c d p o1 o2 o3 o4 e1 e2 e3 e4 = rw (e4, e3, e2, e1) (simp append_assoc)

pub closed : (o a b c d p z o4 l n : List ℕ) → o4 ++ [] ≡ o ++ (a ++ b ++ c ++ d ++ []) → l ++ [] ≡ o4 ++ p → n ≡ l ++ z → n ≡ o ++ (a ++ b ++ c ++ d ++ p ++ z)
closed o a b c d p z o4 l n first rest last =
    let e4 : o4 ≡ o ++ (a ++ b ++ c ++ d) = sym (append-nil o4) ∙ first ∙ ap (λ (x : List ℕ). o ++ x) (append-nil (a ++ b ++ c ++ d)) in
    let el : l ≡ o4 ++ p = sym (append-nil l) ∙ rest in
    rw (last, el, e4) (simp append_assoc)

pub on_ok : {X E : Type 0} {P Q : Type 0} → (r : Result X E) → (P → Q) → OnOk r P → OnOk r Q
on_ok (Ok x) f p = f p
on_ok (Err e) f p = p
