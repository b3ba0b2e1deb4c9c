-- The first of several names that is there.
use Rattle.std.proofs.Common.{◌≡◌, ℕ, zero, suc, ◌+◌, ◌<◌, List, [], ◌∷◌, ◌++◌, length, map, Option, Some, None, option_map, string_bytes, String, Global, get_or, refl, sym, ap, ◌∙◌, inl, inr, arith, slice_get}
use Rattle.std.specs.Option.{option_or}
use Rattle.std.proofs.lemmas.Bool.{cases_lt}
use Rattle.std.proofs.lemmas.Option.{slice_get_read, slice_get-map}
use Rattle.tera_errors.specs.Site.{Name}
use Rattle.tera_values.specs.Named.{Named}
use Rattle.tera_meaning.specs.Registry.{Template, Entry}
use Rattle.tera_meaning.specs.Resolve.{entry_at, first_there}
use Rattle.tera_registry.proofs.Placed.{named}

abbrev pub NoneBefore : Named Template → Name → List Name → ℕ → Type 0
NoneBefore es n ps i = (k : ℕ) (p : Name) → k < i → slice_get ps k ≡ Some p → entry_at (p ++ n) es ≡ None

pub first-there-none : (es : Named Template) (n : Name) (ps : List Name) → NoneBefore es n ps (length ps) → first_there es (map (λ p. p ++ n) ps) ≡ None
first-there-none es n [] none = refl
first-there-none es n (p ∷ ps) none =
    ap (λ o. option_or o (first_there es (map (λ q. q ++ n) ps))) (none 0 p (omega arith) refl) ∙ first-there-none es n ps (λ k q lt is. none (suc k) q (omega arith) is)

pub first-there-at : (es : Named Template) (n : Name) (ps : List Name) (i : ℕ) (p : Name) (e : Entry) → NoneBefore es n ps i → slice_get ps i ≡ Some p → entry_at (p ++ n) es ≡ Some e → first_there es (map (λ p. p ++ n) ps) ≡ Some e
first-there-at es n [] i p e none is at = (let q : None ≡ Some p = is in cc)
first-there-at es n (x ∷ ps) zero p e none is at =
    (let q : x ≡ p = (let s : Some x ≡ Some p = is in cc) in
    let at' : entry_at (x ++ n) es ≡ Some e = rw q at in
    ap (λ o. option_or o (first_there es (map (λ q. q ++ n) ps))) at')
first-there-at es n (x ∷ ps) (suc i) p e none is at =
    ap (λ o. option_or o (first_there es (map (λ q. q ++ n) ps))) (none 0 x (omega arith) refl) ∙ first-there-at es n ps i p e (λ k q lt s. none (suc k) q (omega arith) s) is at

-- one more prefix gives none
pub none-more : (es : Named Template) (n : Name) (ps : List Name) (i : ℕ) (p : Name) → NoneBefore es n ps i → slice_get ps i ≡ Some p → entry_at (p ++ n) es ≡ None → NoneBefore es n ps (i + 1)
none-more es n ps i p none is none_here = λ k q lt s.
    elim (cases_lt k i) [
      | inl before ↦ none k q before s
      | inr after ↦
          (let same : k ≡ i = omega arith in
          let e : q ≡ p = (let t : Some q ≡ Some p = sym s ∙ ap (slice_get ps) same ∙ is in cc) in rw e none_here)
    ]

-- what is found by one of several names is found by its own
pub first-there-own : (es : Named Template) (ns : List Name) (e : Entry) → first_there es ns ≡ Some e → entry_at e.0 es ≡ Some e
first-there-own es [] e is = (let q : None ≡ Some e = is in cc)
first-there-own es (n ∷ ns) e is = by_first (entry_at n es) refl is (first-there-own es ns e)
  where
    by_first : (o : Option Entry) → entry_at n es ≡ o → option_or o (first_there es ns) ≡ Some e → (first_there es ns ≡ Some e → entry_at e.0 es ≡ Some e) → entry_at e.0 es ≡ Some e
    by_first None at q later = later q
    by_first (Some x) at q later =
        (let same : x ≡ e = (let y : Some x ≡ Some e = q in cc) in
        let own : entry_at n es ≡ Some e = at ∙ ap Some same in
        ap (λ m. entry_at m es) (sym (named es n e own)) ∙ own)

pub prefix-at : (ps : List (String Global)) (i : ℕ) (p : String Global) → i < length ps → p ≡ get_or ps i p → slice_get (map string_bytes ps) i ≡ Some (string_bytes p)
prefix-at ps i p lt is = slice_get-map string_bytes ps i ∙ ap (option_map string_bytes) (slice_get_read ps (length ps) i p refl lt is)

pub length-texts : (ps : List (String Global)) → length (map string_bytes ps) ≡ length ps
length-texts [] = refl
length-texts (p ∷ ps) = ap suc (length-texts ps)
