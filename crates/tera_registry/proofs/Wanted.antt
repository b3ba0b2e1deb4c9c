-- The names that are free in what includes lead to.
use Rattle.std.proofs.Common.{◌≡◌, ◌⊎◌, ℕ, zero, suc, Bool, true, false, ◌&&◌, ◌||◌, String, Global, string_bytes, List, [], ◌∷◌, ◌++◌, map, length, Option, Some, None, Result, Ok, Err, IfOk, IfErr, inl, inr, refl, sym, ap, ap₂, subst, ◌∙◌, slice_get}
use mathlib.Core.Path.{fun_ext}
use Rattle.std.specs.declared.rc.Rc.{Rc}
use Rattle.std.specs.Str.{bytes_eq}
use Rattle.std.specs.BTreeSet.{BTreeSet, IsOrdered}
use Rattle.std.specs.Cmp.Lexicographic.{slice_cmp, bytes_decides, nat_list_eq_equiv}
use Rattle.std.specs.Ordering.{is_eq, nat_cmp}
use Rattle.std.specs.String.{string_cmp}
use Rattle.std.proofs.lemmas.Map.Text.{is_eq-slice_cmp}
use Rattle.tera_syntax_tree.specs.Blocks.{is_among}
use Rattle.tera_syntax_tree.specs.Sets.{names_in}
use Rattle.tera_syntax_tree.proofs.Unions.{those}
use Rattle.tera_registry.proofs.Adds.{bare}
use Rattle.tera_registry.proofs.Listed.{keys-ascend}
use Rattle.std.specs.List.{list_any, cons_option}
use Rattle.std.specs.Option.{option_or}
use Rattle.std.proofs.lemmas.Bool.{cases_Bool}
use Rattle.tera_errors.specs.Site.{Name}
use Rattle.tera_errors.specs.Answer.{SeenError, Lacks, GivesOneOf, SaysOneOf}
use Rattle.tera_errors.specs.Fault.{Fault, message, circular_include, template_not_found}
use Rattle.tera_meaning.specs.Registry.{Registry, Entry}
use Rattle.tera_meaning.specs.Resolve.{parents, resolve}
use Rattle.tera_meaning.specs.Accepted.{includes_of, can_walk, leads_into_a_circle, fault_of_parents, fault_if, template_fault, first_fault}
use Rattle.tera_meaning.specs.Components.{has_a_tie}
use Rattle.tera_meaning.specs.Lineage.{ancestors}
use Rattle.tera_meaning.specs.Variables.{free_within, in_one_of, given, if_given, given_in, variables, AreVariables, AnswersVariables}
use Rattle.tera_syntax_tree.specs.Free.{Names, nobody, only, free, ◌∪◌}
use Rattle.tera_registry.specs.Definers.{Grounded}
use Rattle.tera_registry.specs.Edges.{all_at}
use Rattle.tera_registry.specs.Kept.{entries_of, seen}
use Rattle.tera_registry.specs.Reached.{IsClosure, Uncircled}
use Rattle.tera_registry.specs.declared.template.Template.{Template as Stored}
use Rattle.tera_registry.proofs.Ancestors.{grounded}

either-true : (a b : Bool) → (a || b) ≡ true → (a ≡ true) ⊎ (b ≡ true)
either-true true b e = inl refl
either-true false b e = inr e

neither : (a b : Bool) → (a || b) ≡ false → (a ≡ false) × (b ≡ false)
neither true b e = (let x : true ≡ false = e in cc)
neither false b e = (refl, e)

same-tests : (a b : Bool) → (a ≡ true → b ≡ true) → (b ≡ true → a ≡ true) → a ≡ b
same-tests true b f g = sym (f refl)
same-tests false true f g = g refl
same-tests false false f g = refl

any-none : {X : Type 0} (xs : List X) → list_any (λ x. false) xs ≡ false
any-none [] = refl
any-none (x ∷ xs) = any-none xs

or-exchange : (a b c d : Bool) → ((a || b) || (c || d)) ≡ ((a || c) || (b || d))
or-exchange true b c d = refl
or-exchange false true true d = refl
or-exchange false true false d = refl
or-exchange false false c d = refl

any-either : {X : Type 0} (f g : X → Bool) (xs : List X) → list_any (λ x. f x || g x) xs ≡ (list_any f xs || list_any g xs)
any-either f g [] = refl
any-either f g (x ∷ xs) =
    ap (λ b. (f x || g x) || b) (any-either f g xs) ∙ or-exchange (f x) (g x) (list_any f xs) (list_any g xs)

any-same : {X : Type 0} (p f g : X → Bool) (xs : List X) → ((x : X) → p x ≡ false → f x ≡ g x) → list_any p xs ≡ false → list_any f xs ≡ list_any g xs
any-same p f g [] h ends = refl
any-same p f g (x ∷ xs) h ends =
    let e = neither (p x) (list_any p xs) ends in
    ap (λ b. b || list_any f xs) (h x e.0) ∙ ap (λ b. g x || b) (any-same p f g xs h e.1)

-- what follows from a test of each, at positions
pub any-at : {X : Type 0} (f g : X → Bool) (es : List X) (ks : List ℕ) → ((i : ℕ) (x : X) → slice_get es i ≡ Some x → f x ≡ true → g x ≡ true) → list_any f (all_at es ks) ≡ true → list_any g (all_at es ks) ≡ true
any-at f g es [] h any = any
any-at {X} f g es (k ∷ ks) h any = by_first (slice_get es k) refl (any-at f g es ks h) any
  where
    by_first : (o : Option X) → slice_get es k ≡ o → (list_any f (all_at es ks) ≡ true → list_any g (all_at es ks) ≡ true) → list_any f (cons_option o (all_at es ks)) ≡ true → list_any g (cons_option (slice_get es k) (all_at es ks)) ≡ true
    by_first None at more any =
        ap (λ o. list_any g (cons_option o (all_at es ks))) at ∙ more any
    by_first (Some x) at more any =
        ap (λ o. list_any g (cons_option o (all_at es ks))) at ∙ elim (either-true (f x) (list_any f (all_at es ks)) any) [
          | inl here ↦ ap (λ b. b || list_any g (all_at es ks)) (h k x at here)
          | inr there ↦
              (let rest : list_any g (all_at es ks) ≡ true = more there in
              elim (cases_Bool (g x)) [ inl e ↦ rw e refl | inr e ↦ rw e rest ])
        ]

-- where no walk has so many includes, more of them lead to nothing else
stable : (r : Registry) (k : ℕ) (t : Entry) (n : Name) → can_walk r k t ≡ false → free_within r (suc k) t n ≡ free_within r k t n
unfolding can_walk free_within
stable r zero t n ends = (let x : true ≡ false = ends in cc)
stable r (suc k) t n ends =
    ap (λ b. free t.1.tree.nodes n || b) (any-same (can_walk r k) (λ u. free_within r (suc k) u n) (λ u. free_within r k u n) (includes_of r t) (λ u e. stable r k u n e) ends)

own-within : (r : Registry) (k : ℕ) (t : Entry) (n : Name) → free t.1.tree.nodes n ≡ true → free_within r (suc k) t n ≡ true
unfolding free_within
own-within r k t n own = ap (λ b. b || list_any (λ u. free_within r k u n) (includes_of r t)) own

included-within : (r : Registry) (k : ℕ) (t : Entry) (n : Name) → list_any (λ u. free_within r k u n) (includes_of r t) ≡ true → free_within r (suc k) t n ≡ true
unfolding free_within
included-within r k t n any =
    elim (cases_Bool (free t.1.tree.nodes n)) [ inl e ↦ rw e refl | inr e ↦ rw e any ]

-- of positions that are closed under includes, one has what one leads to
own-of-within : (r : Registry) (ts : List Entry) (n : Name) → ((f : Entry → Bool) → list_any (λ t. list_any f (includes_of r t)) ts ≡ true → list_any f ts ≡ true) → (k : ℕ) → list_any (λ t. free_within r k t n) ts ≡ true → list_any (λ t. free t.1.tree.nodes n) ts ≡ true
unfolding free_within
own-of-within r ts n closed zero any =
    (let x : true ≡ false = sym any ∙ any-none ts in cc)
own-of-within r ts n closed (suc k) any =
    elim (either-true _ _ (sym (any-either (λ t. free t.1.tree.nodes n) (λ t. list_any (λ u. free_within r k u n) (includes_of r t)) ts) ∙ any)) [
      | inl own ↦ own
      | inr led ↦ own-of-within r ts n closed k (closed (λ u. free_within r k u n) led)
    ]

-- what is free in one that is reached is free within the first
pub free-reached : (r : Registry) (from positions : List ℕ) (n : Name) → Uncircled r → IsClosure r from positions → list_any (λ t. free t.1.tree.nodes n) (all_at r.templates positions) ≡ list_any (λ t. free_within r (length r.templates) t n) (all_at r.templates from)
free-reached r from positions n uncircled c =
    let k = length r.templates in
    let still = λ (i : ℕ) (t : Entry) (at : slice_get r.templates i ≡ Some t). stable r k t n (uncircled.each i t at) in
    same-tests _ _ (λ any.
    c.no_more (λ t. free_within r k t n) (λ i t at led. sym (still i t at) ∙ included-within r k t n led) (any-at (λ t. free t.1.tree.nodes n) (λ t. free_within r k t n) r.templates positions (λ i t at own. sym (still i t at) ∙ own-within r k t n own) any)) (λ any.
    own-of-within r (all_at r.templates positions) n c.closed k (c.begun (λ t. free_within r k t n) any))

-- Templates without a fault lead into no circle.

none-each : (o p : Option Fault) → option_or o p ≡ None → (o ≡ None) × (p ≡ None)
none-each None p e = (refl, e)
none-each (Some f) p e = (let x : Some f ≡ None = e in cc)

no-fault-if : (b : Bool) (f : Fault) → fault_if b f ≡ None → b ≡ false
no-fault-if true f e = (let x : Some f ≡ None = e in cc)
no-fault-if false f e = refl

one-uncircled : (r : Registry) (before : List Entry) (t : Entry) → template_fault r before t ≡ None → leads_into_a_circle r t ≡ false
unfolding template_fault
one-uncircled r before t none =
    let rest = (none-each (fault_of_parents (parents r t)) (option_or (fault_if (leads_into_a_circle r t) circular_include) (fault_if (has_a_tie r before t) message)) none).1 in
    no-fault-if (leads_into_a_circle r t) circular_include (none-each (fault_if (leads_into_a_circle r t) circular_include) (fault_if (has_a_tie r before t) message) rest).0

each-uncircled : (r : Registry) (before es : List Entry) (i : ℕ) (t : Entry) → first_fault r before es ≡ None → slice_get es i ≡ Some t → leads_into_a_circle r t ≡ false
unfolding first_fault
each-uncircled r before [] i t none at =
    (let x : None ≡ Some t = at in cc)
each-uncircled r before (e ∷ es) zero t none at =
    (let x : e ≡ t = (let q : Some e ≡ Some t = at in cc) in
    let ends : leads_into_a_circle r e ≡ false = one-uncircled r before e (none-each (template_fault r before e) (first_fault r (before ++ e ∷ []) es) none).0 in rw (← x) ends)
each-uncircled r before (e ∷ es) (suc i) t none at =
    each-uncircled r (before ++ e ∷ []) es i t (none-each (template_fault r before e) (first_fault r (before ++ e ∷ []) es) none).1 at

pub uncircled : (r : Registry) → first_fault r [] r.templates ≡ None → Uncircled r
uncircled r none = record { each = λ i t at. each-uncircled r [] r.templates i t none at }

-- What a caller can give of them.

both-given : (g a b : Bool) → ((g && a) || (g && b)) ≡ (g && (a || b))
both-given true a b = refl
both-given false a b = refl

none-given : (g : Bool) → (g && false) ≡ false
none-given true = refl
none-given false = refl

all-given : (n : Name) (ts : List Entry) → list_any (λ t. given_in t n) ts ≡ (given n && list_any (λ t. free t.1.tree.nodes n) ts)
all-given n [] = sym (none-given (given n))
all-given n (t ∷ ts) =
    ap (λ b. given_in t n || b) (all-given n ts) ∙ both-given (given n) (free t.1.tree.nodes n) (list_any (λ u. free u.1.tree.nodes n) ts)

pub wanted : (r : Registry) (t : Entry) (from positions : List ℕ) → all_at r.templates from ≡ t ∷ ancestors r t → Uncircled r → IsClosure r from positions → in_one_of given_in (all_at r.templates positions) ≡ variables r t
wanted r t from positions is uncircled c =
    fun_ext (λ n. all-given n (all_at r.templates positions) ∙ ap (λ b. given n && b) (free-reached r from positions n uncircled c ∙ ap (λ ts. list_any (λ u. free_within r (length r.templates) u n) ts) is))

-- a name that a caller can give
same-given : (m n : Name) (b : Bool) → bytes_eq m n ≡ b → given m ≡ true → b ≡ (given n && b)
same-given m n true e is = sym (ap (λ g. g && true) (ap given (sym ((bytes_decides m n).0 e)) ∙ is))
same-given m n false e is = sym (none-given (given n))

pub is-given : (m : Name) → given m ≡ true → only m ≡ if_given (only m)
is-given m is = fun_ext (λ n. same-given m n (bytes_eq m n) refl is)

same-own : (m n : Name) (b : Bool) → bytes_eq m n ≡ b → given m ≡ false → false ≡ (given n && b)
same-own m n true e is = sym (ap (λ g. g && true) (ap given (sym ((bytes_decides m n).0 e)) ∙ is))
same-own m n false e is = sym (none-given (given n))

-- and one that no caller gives
pub is-own : (m : Name) (p : Names) → given m ≡ false → p ≡ if_given (only m) ∪ p
is-own m p is = fun_ext (λ n. ap (λ b. b || p n) (same-own m n (bytes_eq m n) refl is))

-- The same of templates that are lent.

pub lent-grounded : (ts lent : List (Rc Stored Global)) (ps lent_ps : List (String Global)) → lent ≡ ts → lent_ps ≡ ps → first_fault (seen ts ps) [] (entries_of ts) ≡ None → Grounded (seen lent lent_ps)
lent-grounded ts lent ps lent_ps e f none =
    let meant : Grounded (seen ts ps) = grounded (seen ts ps) none in rw (e, f) meant

pub lent-uncircled : (ts lent : List (Rc Stored Global)) (ps lent_ps : List (String Global)) → lent ≡ ts → lent_ps ≡ ps → first_fault (seen ts ps) [] (entries_of ts) ≡ None → Uncircled (seen lent lent_ps)
lent-uncircled ts lent ps lent_ps e f none =
    let meant : Uncircled (seen ts ps) = uncircled (seen ts ps) none in rw (e, f) meant

-- The names of a whole registry are those that its templates and prefixes alone give.

any-equal : {X : Type 0} (f g : X → Bool) (xs : List X) → ((x : X) → f x ≡ g x) → list_any f xs ≡ list_any g xs
any-equal f g [] h = refl
any-equal f g (x ∷ xs) h = ap (λ b. b || list_any f xs) (h x) ∙ ap (λ b. g x || b) (any-equal f g xs h)

within-same : (r : Registry) (k : ℕ) (t : Entry) (n : Name) → free_within (bare r.templates r.prefixes) k t n ≡ free_within r k t n
unfolding free_within
within-same r zero t n = refl
within-same r (suc k) t n =
    ap (λ b. free t.1.tree.nodes n || b) (any-equal (λ u. free_within (bare r.templates r.prefixes) k u n) (λ u. free_within r k u n) (includes_of r t) (λ u. within-same r k u n))

variables-same : (r : Registry) (t : Entry) (n : Name) → variables (bare r.templates r.prefixes) t n ≡ variables r t n
variables-same r t n =
    let k = length r.templates in
    ap (λ b. given n && b) (any-equal (λ u. free_within (bare r.templates r.prefixes) k u n) (λ u. free_within r k u n) (t ∷ ancestors r t) (λ u. within-same r k u n))

-- The names of a set, in the order of its keys.

among-those : (n : Name) (ks : List (String Global)) → is_among n (map string_bytes ks) ≡ those ks n
among-those n [] = refl
among-those n (k ∷ ks) =
    ap (λ b. b || is_among n (map string_bytes ks)) (sym (is_eq-slice_cmp n (string_bytes k))) ∙ ap (λ b. is_eq (slice_cmp nat_cmp n (string_bytes k)) || b) (among-those n ks)

pub are-variables : (r : Registry) (t : Entry) (s : BTreeSet (String Global)) → IsOrdered string_cmp s → names_in s ≡ variables (bare r.templates r.prefixes) t → AreVariables r t (map string_bytes s.keys)
are-variables r t s ordered is = record {
  ascending = keys-ascend s.keys ordered;
  those = λ n. among-those n s.keys ∙ ap (λ p. p n) is ∙ variables-same r t n;
}

same-name : (m n : Name) → is_eq (slice_cmp nat_cmp n m) ≡ bytes_eq m n
same-name m n = is_eq-slice_cmp n m ∙ nat_list_eq_equiv.symm n m

given-by : (g a b c d : Bool) → a ≡ b → ((g && c) || ((g && b) || d)) ≡ ((g && (a || c)) || d)
given-by false a b c d e = refl
given-by true true b true d e = refl
given-by true true true false d e = refl
given-by true true false false d e = (let x : true ≡ false = e in cc)
given-by true false true c d e = (let x : false ≡ true = e in cc)
given-by true false false true d e = refl
given-by true false false false d e = refl

-- the first of some keys is put among those that were found, if a caller can give it
pub one-given : (k : String Global) (ks whole : List (String Global)) (p q : Names) → q ≡ if_given (only (string_bytes k)) ∪ p → whole ≡ k ∷ ks → if_given (those ks) ∪ q ≡ if_given (those whole) ∪ p
one-given k ks whole p q h is =
    ap (λ x. if_given (those ks) ∪ x) h ∙ fun_ext (λ n. given-by (given n) (is_eq (slice_cmp nat_cmp n (string_bytes k))) (bytes_eq (string_bytes k) n) (those ks n) (p n) (same-name (string_bytes k) n)) ∙ ap (λ x. if_given (those x) ∪ p) (sym is)

pub given-none : (p : Names) → p ≡ if_given (those []) ∪ p
given-none p = fun_ext (λ n. ap (λ b. b || p n) (sym (none-given (given n))))

-- what is answered of a template that is there
pub answers-of : (r : Registry) (res : Result (BTreeSet (String Global)) SeenError) (o : Option Entry) (t : Entry) → o ≡ Some t → IfOk res (λ s. IsOrdered string_cmp s) → IfOk res (λ s. names_in s ≡ variables (bare r.templates r.prefixes) t) → IfErr res Lacks → GivesOneOf (λ s. map string_bytes s.keys) res (AnswersVariables r o)
answers-of r (Ok s) o t e ordered is lacks = rw e (are-variables r t s ordered is)
answers-of r (Err x) o t e ordered is lacks = rw lacks tt

none_behind : (b : Bool) → (b || false) ≡ b
none_behind true = refl
none_behind false = refl

pub nothing-found : (p q : Names) → q ≡ nobody → p ∪ q ≡ p
nothing-found p q e = ap (λ x. p ∪ x) e ∙ fun_ext (λ n. none_behind (p n))

module _ (r : Registry) (ts lent : List (Rc Stored Global)) (ps lent_ps : List (String Global)) (name : Name) (e : lent ≡ ts) (f : lent_ps ≡ ps) where
  -- with these templates and prefixes
  abbrev whole : Registry
  whole = record r { templates = entries_of ts; prefixes = map string_bytes ps }

  pub answers-found : (position : ℕ) (t : Entry) (res : Result (BTreeSet (String Global)) SeenError) → resolve (seen lent lent_ps) name ≡ Some t → IfOk res (λ s. IsOrdered string_cmp s) → IfOk res (λ s. names_in s ≡ variables (seen lent lent_ps) t) → IfErr res Lacks → GivesOneOf (λ s. map string_bytes s.keys) res (AnswersVariables whole (resolve whole name))
  answers-found position t res found ordered ok lacks =
      let same : seen lent lent_ps ≡ seen ts ps = ap₂ (λ xs ys. seen xs ys) e f in
      let there : resolve whole name ≡ Some t = sym (ap (λ q. resolve q name) same) ∙ found in
      answers-of whole res (resolve whole name) t there ordered (subst (λ q. IfOk res (λ s. names_in s ≡ variables q t)) same ok) lacks

  pub answers-none : (x : SeenError) → resolve (seen lent lent_ps) name ≡ None → x ≡ Some template_not_found → SaysOneOf x (AnswersVariables whole (resolve whole name))
  answers-none x none is =
      let same : seen lent lent_ps ≡ seen ts ps = ap₂ (λ xs ys. seen xs ys) e f in
      let there : resolve whole name ≡ None = sym (ap (λ q. resolve q name) same) ∙ none in
      rw (is, there) refl
