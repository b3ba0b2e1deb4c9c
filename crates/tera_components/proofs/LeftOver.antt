-- The entries whose keys no parameter has, one by one.
use Rattle.std.proofs.Common.{◌≡◌, ℕ, ◌+◌, ◌<◌, Bool, true, false, not, cond, List, [], ◌∷◌, ◌++◌, Some, None, is_some, refl, sym, ap, ◌∙◌, subst, length, take, get_or, is_eq, arith}
use Rattle.std.specs.List.{filter, slice_get}
use Rattle.std.proofs.lemmas.List.{take_more, append-nil, length-take, get_or-take}
use Rattle.std.proofs.lemmas.List.Elements.{filter-append}
use Rattle.std.proofs.lemmas.Option.{slice_get_within, get_or_from_slice_get}
use Rattle.tera_errors.specs.Site.{Name}
use Rattle.tera_syntax_tree.specs.Blocks.{is_among}
use Rattle.tera_value_types.specs.Index.{key_at, IsDistinct}
use Rattle.tera_value_types.proofs.Keys.{key_exact, key_tied, is_eq_true}
use Rattle.tera_value_types.proofs.Positions.{find_absent}
use Rattle.tera_values.specs.Val.{Val, KeyVal, kbool, kint, ktext, undefined}
use Rattle.tera_values.specs.Access.{key_eq, find, insert_pair}
use Rattle.tera_values.specs.Named.{text_keys}
use Rattle.tera_operators.proofs.Keeping.{inserted_last}
use Rattle.tera_components.specs.Definition.{Definition, formal_names, named_arguments, left_over, is_left, kept_over}

abbrev pub Pairs : Type 0
Pairs = List (KeyVal × Val)

abbrev pub only_left : Definition → Pairs → Pairs
only_left d es = filter (λ e. is_left d e.0) es

-- in the order of the entries
pub only_left-is : (d : Definition) (es : Pairs) → only_left d es ≡ text_keys (left_over d (named_arguments es))
only_left-is d [] = refl
only_left-is d ((kbool b, v) ∷ es) = only_left-is d es
only_left-is d ((kint z, v) ∷ es) = only_left-is d es
only_left-is d ((ktext n, v) ∷ es) = by (not (is_among n (formal_names d))) (only_left-is d es)
  where
    by : (b : Bool) → only_left d es ≡ text_keys (left_over d (named_arguments es)) → cond b ((ktext n, v) ∷ only_left d es) (only_left d es) ≡ text_keys (cond b ((n, v) ∷ left_over d (named_arguments es)) (left_over d (named_arguments es)))
    by true h = ap (λ rest. (ktext n, v) ∷ rest) h
    by false h = h

not_true : (b : Bool) → (b ≡ true → ⊥) → b ≡ false
not_true true h = absurd (h refl)
not_true false h = refl

-- no entry before this one has its key
absent_before : (es : Pairs) (i : ℕ) → IsDistinct es → i < length es → find (key_at es i) (take i es) ≡ None
absent_before es i one h = find_absent (take i es) (key_at es i) (λ j lt. not_true _ (λ same.
    let low : j < i = omega (arith, lt, length-take {A = KeyVal × Val}, h) in
    let key : key_at (take i es) j ≡ key_at es j = ap (λ e. e.0) (get_or-take i es j (kbool false, undefined) low) in
    let tie : key_at es i ≡ key_at (take i es) j = key_exact _ _ (is_eq_true _ same) in
    let position : i ≡ j = one i j h (omega (arith, low, h)) (tie ∙ key) in
    omega (arith, low, position)))

absent_left : (d : Definition) (es : Pairs) (k : KeyVal) → find k es ≡ None → find k (only_left d es) ≡ None
absent_left d [] k h = refl
absent_left d (e ∷ es) k h = by (key_eq k e.0) (is_left d e.0) refl h (absent_left d es k)
  where
    by : (same left : Bool) → key_eq k e.0 ≡ same → cond same (Some e.1) (find k es) ≡ None → (find k es ≡ None → find k (only_left d es) ≡ None) → find k (cond left (e ∷ only_left d es) (only_left d es)) ≡ None
    by true left t none rest = absurd (cc)
    by false true t none rest = ap (λ b. cond b (Some e.1) (find k (only_left d es))) t ∙ rest none
    by false false t none rest = rest none

-- the next entry goes last, unless a parameter has its name
pub only_left-next : (d : Definition) (es : Pairs) (i : ℕ) (e : KeyVal × Val) → IsDistinct es → Some e ≡ slice_get es i → only_left d (take (i + 1) es) ≡ kept_over d (only_left d (take i es)) e
only_left-next d es i e one is =
    let h : i < length es = slice_get_within es i e (sym is) in
    let at : get_or es i (kbool false, undefined) ≡ e = get_or_from_slice_get es i e (kbool false, undefined) (sym is) in
    let key : key_at es i ≡ e.0 = ap (λ x. x.0) at in
    let absent : find e.0 (take i es) ≡ None = subst (λ (k : KeyVal). find k (take i es) ≡ None) key (absent_before es i one h) in
    ap (only_left d) (take_more es i (kbool false, undefined) h)
    ∙ filter-append (λ x. is_left d x.0) (take i es) (get_or es i (kbool false, undefined) ∷ [])
    ∙ ap (λ x. only_left d (take i es) ++ only_left d (x ∷ [])) at
    ∙ by (is_left d e.0) (absent_left d (take i es) e.0 absent)
  where
    by : (left : Bool) → find e.0 (only_left d (take i es)) ≡ None → only_left d (take i es) ++ cond left (e ∷ []) [] ≡ cond left (insert_pair (only_left d (take i es)) e.0 e.1) (only_left d (take i es))
    by true none = sym (inserted_last (only_left d (take i es)) e.0 e.1 none)
    by false none = append-nil (only_left d (take i es))

some_behind : (k : KeyVal) (e : KeyVal × Val) (es : Pairs) → is_some (find k es) ≡ true → is_some (find k (e ∷ es)) ≡ true
some_behind k e es h = by (key_eq k e.0)
  where
    by : (b : Bool) → is_some (cond b (Some e.1) (find k es)) ≡ true
    by true = refl
    by false = h

-- where a parameter has each name, nothing is left
pub none_left : (d : Definition) (es : Pairs) → ((n : Name) → is_some (find (ktext n) es) ≡ true → is_among n (formal_names d) ≡ true) → left_over d (named_arguments es) ≡ []
none_left d [] h = refl
none_left d ((kbool b, v) ∷ es) h = none_left d es (λ n s. h n (some_behind (ktext n) (kbool b, v) es s))
none_left d ((kint z, v) ∷ es) h = none_left d es (λ n s. h n (some_behind (ktext n) (kint z, v) es s))
none_left d ((ktext m, v) ∷ es) h =
    by (is_among m (formal_names d)) (h m (ap (λ b. is_some (cond b (Some v) (find (ktext m) es))) (ap is_eq (key_tied (ktext m))))) (none_left d es (λ n s. h n (some_behind (ktext n) (ktext m, v) es s)))
  where
    by : (b : Bool) → b ≡ true → left_over d (named_arguments es) ≡ [] → cond (not b) ((m, v) ∷ left_over d (named_arguments es)) (left_over d (named_arguments es)) ≡ []
    by true t rest = rest
    by false t rest = absurd (cc)
