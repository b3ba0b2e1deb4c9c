-- Sets of names: unions, differences, and sets as they are kept.
use Rattle.std.proofs.Common.{◌≡◌, ℕ, Bool, true, false, not, ◌&&◌, ◌||◌, Bor, List, [], ◌∷◌, cond, Option, Some, Result, Ok, Err, OnOk, String, Global, option_copied, refl, sym, ap, ◌∙◌, string_bytes}
use mathlib.Core.Path.{fun_ext}
use Rattle.std.specs.BTreeSet.{BTreeSet, UpdatesBy}
use Rattle.std.specs.BTreeMap.{is_at}
use Rattle.std.specs.List.{list_any}
use Rattle.std.specs.Cmp.Lexicographic.{slice_cmp, bytes_decides, nat_list_eq_equiv}
use Rattle.std.specs.Ordering.{nat_cmp, is_eq}
use Rattle.std.specs.Str.{bytes_eq}
use Rattle.std.specs.String.{string_cmp}
use Rattle.std.proofs.lemmas.Map.Text.{btree_set_updates_text, is_eq-slice_cmp}
use Rattle.tera_errors.specs.Site.{Name}
use Rattle.std.specs.declared.alloc.AllocError.{AllocError}
use Rattle.tera_syntax_tree.specs.Free.{Names, nobody, only, loop_names, ◌∪◌, ◌∖◌}
use Rattle.tera_syntax_tree.specs.Sets.{names_in}

or_assoc : (a b c : Bool) → ((a || b) || c) ≡ (a || (b || c))
or_assoc true b c = refl
or_assoc false b c = refl

pub union-assoc : (p q r : Names) → (p ∪ q) ∪ r ≡ p ∪ (q ∪ r)
union-assoc p q r = fun_ext (λ n. or_assoc (p n) (q n) (r n))

-- some are found, and others behind them
pub union-more : (p q l m whole : Names) → whole ≡ p ∪ q → m ≡ q ∪ l → p ∪ m ≡ whole ∪ l
union-more p q l m whole e h = ap (λ x. p ∪ x) h ∙ sym (union-assoc p q l) ∙ ap (λ x. x ∪ l) (sym e)

there-by : (m n : Name) (p : Names) (b : Bool) → bytes_eq m n ≡ b → p m ≡ true → p n ≡ (b || p n)
there-by m n p true e is = ap p (sym ((bytes_decides m n).0 e)) ∙ is
there-by m n p false e is = refl

-- a name that is there adds nothing
pub there : (m : Name) (p : Names) → p m ≡ true → p ≡ only m ∪ p
there m p is = fun_ext (λ n. there-by m n p (bytes_eq m n) refl is)

cond-or : (b c : Bool) → cond b true c ≡ (b || c)
cond-or true c = refl
cond-or false c = refl

cond-without : (b c : Bool) → cond b false c ≡ (not b && c)
cond-without true c = refl
cond-without false c = refl

pub added : (m : Name) (s t : BTreeSet (String Global)) → UpdatesBy string_cmp (λ k. slice_cmp nat_cmp m (string_bytes k)) s t true → names_in t ≡ only m ∪ names_in s
added m s t h = fun_ext (λ n. btree_set_updates_text m s t true h n ∙ cond-or (bytes_eq m n) (names_in s n))

pub removed : (m : Name) (s t : BTreeSet (String Global)) → UpdatesBy string_cmp (λ k. slice_cmp nat_cmp m (string_bytes k)) s t false → names_in t ≡ names_in s ∖ only m
removed m s t h = fun_ext (λ n. btree_set_updates_text m s t false h n ∙ cond-without (bytes_eq m n) (names_in s n))

without_either : (a b c : Bool) → (not b && (not a && c)) ≡ (not (a || b) && c)
without_either true true c = refl
without_either true false c = refl
without_either false true c = refl
without_either false false c = refl

-- taken away one after the other
pub without-union : (l p q : Names) → (l ∖ p) ∖ q ≡ l ∖ (p ∪ q)
without-union l p q = fun_ext (λ n. without_either (p n) (q n) (l n))

pub without_loop_names : (key : Option (Bor (List ℕ))) (k : Bor (List ℕ)) (name : Name) (l m s : Names) → key ≡ Some k → m ≡ l ∖ only name → s ≡ m ∖ only k.now → s ≡ l ∖ loop_names (option_copied key) name
without_loop_names key k name l m s is one two =
    two ∙ ap (λ x. x ∖ only k.now) one ∙ without-union l (only name) (only k.now) ∙ ap (λ o. l ∖ loop_names (option_copied o) name) (sym is)

-- the names of a list of keys
abbrev pub those : List (String Global) → Names
those ks n = list_any (is_at (λ k. slice_cmp nat_cmp n (string_bytes k))) ks

same_name : (m n : Name) → is_eq (slice_cmp nat_cmp n m) ≡ bytes_eq m n
same_name m n = is_eq-slice_cmp n m ∙ nat_list_eq_equiv.symm n m

passed : (a b c d : Bool) → a ≡ b → (c || (b || d)) ≡ ((a || c) || d)
passed true b true d e = refl
passed true true false d e = refl
passed true false false d e = (let x : true ≡ false = e in cc)
passed false true c d e = (let x : false ≡ true = e in cc)
passed false false true d e = refl
passed false false false d e = refl

-- the first of some keys is put among those that were found
pub one-more : (k : String Global) (ks whole : List (String Global)) (p q : Names) → q ≡ only (string_bytes k) ∪ p → whole ≡ k ∷ ks → those ks ∪ q ≡ those whole ∪ p
one-more k ks whole p q h is =
    ap (λ x. those ks ∪ x) h ∙ fun_ext (λ n. passed (is_eq (slice_cmp nat_cmp n (string_bytes k))) (bytes_eq (string_bytes k) n) (those ks n) (p n) (same_name (string_bytes k) n)) ∙ ap (λ x. those x ∪ p) (sym is)

or_false : (b : Bool) → (b || false) ≡ b
or_false true = refl
or_false false = refl

union-nobody : (p : Names) → p ∪ nobody ≡ p
union-nobody p = fun_ext (λ n. or_false (p n))

pub empty : (s : BTreeSet (String Global)) → s.keys ≡ [] → names_in s ≡ nobody
empty s e = ap those e

pass_by : (r e l : Bool) → (r || (e || l)) ≡ ((e || r) || l)
pass_by true true l = refl
pass_by true false l = refl
pass_by false true l = refl
pass_by false false l = refl

-- those of the first of some are put among those that were found
pub union-pass : (e rest l m whole : Names) → whole ≡ e ∪ rest → m ≡ e ∪ l → rest ∪ m ≡ whole ∪ l
union-pass e rest l m whole is h =
    ap (λ x. rest ∪ x) h ∙ fun_ext (λ n. pass_by (rest n) (e n) (l n)) ∙ ap (λ x. x ∪ l) (sym is)

-- those of the first of some are taken away
pub without-pass : (e rest l m whole : Names) → whole ≡ e ∪ rest → m ≡ l ∖ e → m ∖ rest ≡ l ∖ whole
without-pass e rest l m whole is h =
    ap (λ x. x ∖ rest) h ∙ without-union l e rest ∙ ap (λ x. l ∖ x) (sym is)

pub ok-then : {X Y : Type 0} (r : Result (Unit {0}) AllocError) → (X → Y) → OnOk r X → OnOk r Y
ok-then (Ok a) f h = f h
ok-then (Err e) f h = tt

-- first the second of two
pub two : (r : Result (Unit {0}) AllocError) (p q l m n : Names) → m ≡ q ∪ l → OnOk r (n ≡ p ∪ m) → OnOk r (n ≡ (p ∪ q) ∪ l)
two r p q l m n h g = ok-then r (λ e. e ∙ ap (λ x. p ∪ x) h ∙ sym (union-assoc p q l)) g

-- first the third of three, and then the second
pub three : (r : Result (Unit {0}) AllocError) (p q s l m o n : Names) → m ≡ s ∪ l → o ≡ q ∪ m → OnOk r (n ≡ p ∪ o) → OnOk r (n ≡ (p ∪ (q ∪ s)) ∪ l)
three r p q s l m o n first second third =
    ok-then r (λ e. e ∙ ap (λ x. p ∪ x) (second ∙ ap (λ x. q ∪ x) first ∙ sym (union-assoc q s l)) ∙ sym (union-assoc p (q ∪ s) l)) third

-- what a comprehension adds, whose own names go
pub comprehended : (r : Result (Unit {0}) AllocError) (v c t s l m i0 i1 i2 i3 n : Names) → m ≡ t ∪ l → i0 ≡ nobody → i1 ≡ c ∪ i0 → i2 ≡ v ∪ i1 → i3 ≡ i2 ∖ s → OnOk r (n ≡ i3 ∪ m) → OnOk r (n ≡ (((v ∪ c) ∖ s) ∪ t) ∪ l)
comprehended r v c t s l m i0 i1 i2 i3 n hm h0 h1 h2 h3 g =
    let inside : i3 ≡ (v ∪ c) ∖ s = h3 ∙ ap (λ x. x ∖ s) (h2 ∙ ap (λ x. v ∪ x) (h1 ∙ ap (λ x. c ∪ x) h0 ∙ union-nobody c)) in
    two r ((v ∪ c) ∖ s) t l m n hm (ok-then r (λ e. e ∙ ap (λ x. x ∪ m) inside) g)

before_by : (f g b d o : Bool) → (f || (not b && (g || (not d && o)))) ≡ ((f || (not b && g)) || (not (b || d) && o))
before_by true g b d o = refl
before_by false g true d o = refl
before_by false g false d o = refl

-- what stands before two in a row
pub before-both : (f g b d l : Names) → f ∪ ((g ∪ (l ∖ d)) ∖ b) ≡ (f ∪ (g ∖ b)) ∪ (l ∖ (b ∪ d))
before-both f g b d l = fun_ext (λ n. before_by (f n) (g n) (b n) (d n) (l n))

-- names that are taken away in three steps
pub without_three : (l p q r whole m n o : Names) → m ≡ l ∖ p → n ≡ m ∖ q → o ≡ n ∖ r → p ∪ (q ∪ r) ≡ whole → o ≡ l ∖ whole
without_three l p q r whole m n o first second third is =
    third ∙ ap (λ x. x ∖ r) (second ∙ ap (λ x. x ∖ q) first)
    ∙ without-union (l ∖ p) q r ∙ without-union l p (q ∪ r) ∙ ap (λ x. l ∖ x) is
