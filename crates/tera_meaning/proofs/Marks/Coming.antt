-- Each character of a rendering comes from what its mark says.
use Rattle.std.proofs.Common.{◌≡◌, ℕ, Bool, true, false, ◌||◌, nat_eq, IsTrue, List, [], ◌∷◌, refl, ap, ◌∙◌, ◌⊎◌, inl, inr, subst, Option, Some, None, Result, flat_map}
use Rattle.std.specs.Prelude.{IfOk}
use Rattle.std.specs.Cmp.{unsigned_Decides}
use Rattle.std.specs.List.{AllByRecursion, list_any}
use Rattle.tera_errors.specs.Site.{Name, Text}
use Rattle.tera_errors.specs.Fault.{Fault}
use Rattle.tera_syntax_tree.specs.Tree.{Nodes}
use Rattle.tera_syntax_tree.specs.Calls as called
use Rattle.tera_syntax_tree.specs.Calls.{AFilter, ATest, AFunction, AComponent, ATemplate, calls}
use Rattle.tera_values.specs.Alphabet.{Mark, template, marked_safe, escaped, made, outside, Marked}
use Rattle.tera_built_ins.specs.declared.built_in_filter.BuiltInFilter.{BuiltInFilter}
use Rattle.tera_built_ins.specs.declared.built_in_function.BuiltInFunction.{BuiltInFunction}
use Rattle.tera_state.specs.Calling.{answer_of}
use Rattle.tera_state.specs.Engine.{OwnFilter, OwnFunction, Callee, own, built_in, filter_at, function_at}
use Rattle.tera_meaning.specs.Marks.Origin.{is_markup}
use Rattle.tera_meaning.specs.Marks.Sources.{contents, safe_texts, safe_texts_of_answer, stands_in, Sources, by_filter, by_function, is_safe_filter, marks_safe, applies_safe, IsMarkedSafe, in_value, in_answer, by_template, ComesBy, ComesFrom, has_markup, HoldNoMarkup}
use Rattle.tera_meaning.specs.Marks.Renderings.{sources, CharactersComeFrom, NoMarkupComesOfNone}
use Rattle.tera_meaning.proofs.Marks.All.{all-more, all-each}
use Rattle.tera_meaning.proofs.Marks.Claim.{Claim, TextHolds, FilterHolds, FunctionHolds, CalleeHolds, CallsHold, BodyHolds, SourcesHold}
use Rattle.tera_meaning.proofs.Marks.Each.{Each, none, more}
use Rattle.tera_meaning.proofs.Marks.Standing.{Bears, answers, refuses}
use Rattle.tera_meaning.proofs.Marks.Renderings.{TextStands, rendering-stands}

or-left : (a b : Bool) → IsTrue a → IsTrue (a || b)
or-left true b h = refl
or-left false b h = cc

or-right : (a b : Bool) → IsTrue b → IsTrue (a || b)
or-right true b h = refl
or-right false b h = h

-- where the test passes for a member, it does for one of them
passes : {A : Type 0} (p : A → Bool) (xs : List A) → AllByRecursion (λ x. IsTrue (p x) → IsTrue (list_any p xs)) xs
passes p [] = tt
passes p (x ∷ xs) = (
  or-left (p x) (list_any p xs),
  all-more (λ y. IsTrue (p y) → IsTrue (list_any p xs)) (λ y. IsTrue (p y) → IsTrue (list_any p (x ∷ xs))) (λ y h i. or-right (p x) (list_any p xs) (h i)) xs (passes p xs),
)

-- each byte is in its text
bytes-in : (t : Text) → AllByRecursion (λ b. IsTrue (list_any (nat_eq b) t)) t
bytes-in [] = tt
bytes-in (b ∷ t) = (
  or-left (nat_eq b b) (list_any (nat_eq b) t) ((unsigned_Decides b b).1 refl),
  all-more (λ c. IsTrue (list_any (nat_eq c) t)) (λ c. IsTrue (list_any (nat_eq c) (b ∷ t))) (λ c h. or-right (nat_eq c b) (list_any (nat_eq c) t) h) t (bytes-in t),
)

abbrev IsPart : List Text → Text → Type 0
IsPart ts t = (b : ℕ) → IsTrue (list_any (nat_eq b) t) → IsTrue (stands_in b ts)

texts-in : (ts : List Text) → AllByRecursion (IsPart ts) ts
texts-in [] = tt
texts-in (t ∷ ts) = (
  λ b h. or-left (list_any (nat_eq b) t) (stands_in b ts) h,
  all-more (IsPart ts) (IsPart (t ∷ ts)) (λ u h b i. or-right (list_any (nat_eq b) t) (stands_in b ts) (h b i)) ts (texts-in ts),
)

-- what holds of each byte that is in one of the texts
each-in : (P : ℕ → Type 0) (ts : List Text) → ((b : ℕ) → IsTrue (stands_in b ts) → P b) → AllByRecursion (AllByRecursion P) ts
each-in P ts h = all-more (IsPart ts) (AllByRecursion P) (λ t k. all-more (λ b. IsTrue (list_any (nat_eq b) t)) P (λ b i. h b (k b i)) t (bytes-in t)) ts (texts-in ts)

module _ (s : Sources) where
  abbrev pub came : Claim
  came = record { holds = ComesFrom s; of_escaped = λ b h. h; of_made = λ b h. h }

  module _ (name : Name) where
    filter-holds : (o : Option (Callee OwnFilter BuiltInFilter)) → filter_at s.engine name ≡ o → (IsTrue (is_safe_filter o) → IsTrue (applies_safe s)) → FilterHolds came o
    filter-holds None e h = tt
    filter-holds (Some (own o)) e h = λ v given view. each-in (λ b. ComesFrom s (b, marked_safe)) (safe_texts_of_answer (answer_of o.safe (o.meaning v given view))) (λ b i. in_answer (by_filter name o v given view e i))
    filter-holds (Some (built_in f)) e h = λ i b. by_template (h i)

    function-holds : (o : Option (Callee OwnFunction BuiltInFunction)) → function_at s.engine name ≡ o → FunctionHolds came o
    function-holds None e = tt
    function-holds (Some (own o)) e = λ given view. each-in (λ b. ComesFrom s (b, marked_safe)) (safe_texts_of_answer (answer_of o.safe (o.meaning given view))) (λ b i. in_answer (by_function name o given view e i))
    function-holds (Some (built_in f)) e = tt

  callee-holds : (c : called.Callee) → (IsTrue (marks_safe s.engine c) → IsTrue (applies_safe s)) → CalleeHolds came s.engine c
  callee-holds (AFilter name) h = filter-holds name (filter_at s.engine name) refl h
  callee-holds (ATest name) h = tt
  callee-holds (AFunction name) h = function-holds name (function_at s.engine name) refl
  callee-holds (AComponent name) h = tt
  callee-holds (ATemplate name) h = tt

  all-bodies : (bs : List Nodes) → AllByRecursion (λ body. AllByRecursion (TextHolds came template) (contents body)) bs → AllByRecursion (λ body. CallsHold came s.engine (calls body)) bs → AllByRecursion (BodyHolds came s.engine) bs
  all-bodies [] h k = tt
  all-bodies (body ∷ bs) h k = (record { texts = h.0; calls_hold = k.0 }, all-bodies bs h.1 k.1)

  pub came-holds : SourcesHold came s
  came-holds = record {
    bodies_hold =
        all-bodies s.bodies (all-each (TextHolds came template) contents s.bodies (each-in (λ b. ComesFrom s (b, template)) (flat_map contents s.bodies) (λ b i. i)))
        (all-each (CalleeHolds came s.engine) calls s.bodies (all-more (λ c. IsTrue (marks_safe s.engine c) → IsTrue (applies_safe s)) (CalleeHolds came s.engine) callee-holds (flat_map calls s.bodies) (passes (marks_safe s.engine) (flat_map calls s.bodies))));
    values_hold = all-each (TextHolds came marked_safe) safe_texts s.values (each-in (λ b. ComesFrom s (b, marked_safe)) (flat_map safe_texts s.values) (λ b i. in_value i));
  }

  pub all-come : {t : List Marked} {u : List ℕ} → Each (Bears came true) t u → AllByRecursion (ComesFrom s) t
  all-come none = tt
  all-come (more r rs) = (r.claimed, all-come rs)

  text-comes : {x : Result (List Marked) Fault} {y : Result Text Fault} → TextStands came x y → IfOk x (AllByRecursion (ComesFrom s))
  text-comes (answers rs) = all-come rs
  text-comes (refuses fault) = tt

pub characters_come_from : CharactersComeFrom
characters_come_from r call by_html on =
    let s = sources r call in
    text-comes s (rendering-stands (came s) r call by_html on (came-holds s))

-- where no text holds markup, none of their bytes is
none_of-two : (a b : Bool) → (a || b) ≡ false → (a ≡ false) × (b ≡ false)
none_of-two true b h = (cc, cc)
none_of-two false b h = (refl, h)

one_of-two : (a b : Bool) → IsTrue (a || b) → IsTrue a ⊎ IsTrue b
one_of-two true b h = inl refl
one_of-two false b h = inr h

harmless-byte : (b : ℕ) (t : Text) → list_any is_markup t ≡ false → IsTrue (list_any (nat_eq b) t) → is_markup b ≡ false
harmless-byte b [] h i = cc
harmless-byte b (c ∷ t) h i =
    let apart = none_of-two (is_markup c) (list_any is_markup t) h in
    go apart.0 (harmless-byte b t apart.1) (one_of-two (nat_eq b c) (list_any (nat_eq b) t) i)
  where
    go : is_markup c ≡ false → (IsTrue (list_any (nat_eq b) t) → is_markup b ≡ false) → IsTrue (nat_eq b c) ⊎ IsTrue (list_any (nat_eq b) t) → is_markup b ≡ false
    go first rest (inl same) = ap is_markup ((unsigned_Decides b c).0 same) ∙ first
    go first rest (inr j) = rest j

harmless-in : (b : ℕ) (ts : List Text) → has_markup ts ≡ false → IsTrue (stands_in b ts) → is_markup b ≡ false
harmless-in b [] h i = cc
harmless-in b (t ∷ ts) h i =
    let apart = none_of-two (list_any is_markup t) (has_markup ts) h in
    go apart.0 (harmless-in b ts apart.1) (one_of-two (list_any (nat_eq b) t) (stands_in b ts) i)
  where
    go : list_any is_markup t ≡ false → (IsTrue (stands_in b ts) → is_markup b ≡ false) → IsTrue (list_any (nat_eq b) t) ⊎ IsTrue (stands_in b ts) → is_markup b ≡ false
    go first rest (inl j) = harmless-byte b t first j
    go first rest (inr j) = rest j

module _ (s : Sources) (none_holds : HoldNoMarkup s) where
  safe-harmless : (b : ℕ) → IsMarkedSafe s b → is_markup b ≡ false
  safe-harmless b (in_value i) = harmless-in b (flat_map safe_texts s.values) none_holds.values_hold_none i
  safe-harmless b (in_answer a) = none_holds.answers_hold_none b a
  safe-harmless b (by_template i) = absurd (differ i none_holds.none_applies_safe)
    where
      differ : IsTrue (applies_safe s) → applies_safe s ≡ false → ⊥
      differ i e = cc

  coming-harmless : (mark : Mark) (b : ℕ) → ComesBy s mark b → is_markup b ≡ false
  coming-harmless template b h = harmless-in b (flat_map contents s.bodies) none_holds.contents_hold_none h
  coming-harmless marked_safe b h = safe-harmless b h
  coming-harmless escaped b h = h
  coming-harmless made b h = h
  coming-harmless outside b h = absurd h

  all-harmless : {t : List Marked} {u : List ℕ} → Each (Bears (came s) true) t u → AllByRecursion (λ b. is_markup b ≡ false) u
  all-harmless none = tt
  all-harmless (more {x = c} {y = b} r rs) = (subst (λ n. is_markup n ≡ false) r.byte (coming-harmless c.1 c.0 r.claimed), all-harmless rs)

  text-harmless : {x : Result (List Marked) Fault} {y : Result Text Fault} → TextStands (came s) x y → IfOk y (AllByRecursion (λ b. is_markup b ≡ false))
  text-harmless (answers rs) = all-harmless rs
  text-harmless (refuses fault) = tt

pub no_markup_comes_of_none : NoMarkupComesOfNone
no_markup_comes_of_none r call by_html on none_holds =
    let s = sources r call in
    text-harmless s none_holds (rendering-stands (came s) r call by_html on (came-holds s))
