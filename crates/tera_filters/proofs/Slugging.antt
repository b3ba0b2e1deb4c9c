-- What a slug has so far, and what the rest of a text puts behind it.
use Rattle.std.proofs.Common.{◌≡◌, ℕ, Bool, true, false, cond, not, ◌&&◌, List, [], ◌∷◌, ◌++◌, codes, refl, ap, sym, ◌∙◌, append_assoc, arith, inl, inr}
use Rattle.std.specs.Prelude.{flat_map, filter, if◌then◌else◌}
use Rattle.std.specs.Char.{is_ascii, is_ascii_alphanumeric, to_ascii_lowercase}
use Rattle.std.specs.List.{join_by, onto_first}
use Rattle.std.specs.Str.{str_to_ascii_lowercase}
use Rattle.std.proofs.lemmas.Bool.{cases_Bool}
use Rattle.std.proofs.lemmas.Bool.Decides.{nat_tests}
use Rattle.tera_built_ins.specs.Words.{has_some}
use Rattle.tera_filters.specs.Slugs.{pieces, slug}

abbrev dash : Bool → Bool → List ℕ
dash some goes_on = if not goes_on && some then codes "-" else []

-- behind a slug that has something or not, where a word goes on or not
abbrev pub more : Bool → Bool → List ℕ → List ℕ
more some goes_on [] = []
more some goes_on (b ∷ t) =
    cond (is_ascii_alphanumeric b) (dash some goes_on ++ to_ascii_lowercase b ∷ more true true t)
    (more some (cond (is_ascii b) false goes_on) t)

-- ---- the step of the loop

has_some-letter : (a d : List ℕ) (x : ℕ) → has_some (a ++ (d ++ x ∷ [])) ≡ true
has_some-letter [] [] x = refl
has_some-letter [] (y ∷ d) x = refl
has_some-letter (y ∷ a) d x = refl

pub letter-put : (a : List ℕ) (goes_on : Bool) (b : ℕ) (t : List ℕ) → is_ascii_alphanumeric b ≡ true → (a ++ (dash (has_some a) goes_on ++ to_ascii_lowercase b ∷ [])) ++ more (has_some (a ++ (dash (has_some a) goes_on ++ to_ascii_lowercase b ∷ []))) true t ≡ a ++ more (has_some a) goes_on (b ∷ t)
letter-put a goes_on b t letter =
    let d = dash (has_some a) goes_on in
    let x = to_ascii_lowercase b in
    let rest = more true true t in
    let one = ap (λ (s : Bool). (a ++ (d ++ x ∷ [])) ++ more s true t) (has_some-letter a d x) in
    let two = append_assoc a (d ++ x ∷ []) rest in
    let three = ap (λ (l : List ℕ). a ++ l) (append_assoc d (x ∷ []) rest) in
    let four = ap (λ (s : Bool). a ++ cond s (d ++ x ∷ rest) (more (has_some a) (cond (is_ascii b) false goes_on) t)) letter in
    one ∙ two ∙ three ∙ sym four

pub other-passed : (some goes_on : Bool) (b : ℕ) (t : List ℕ) → is_ascii_alphanumeric b ≡ false → more some (cond (is_ascii b) false goes_on) t ≡ more some goes_on (b ∷ t)
other-passed some goes_on b t other =
    sym (ap (λ (s : Bool). cond s (dash some goes_on ++ to_ascii_lowercase b ∷ more true true t) (more some (cond (is_ascii b) false goes_on) t)) other)

-- ---- by pieces

abbrev cut : List ℕ → List (List ℕ)
cut t = pieces (str_to_ascii_lowercase (filter is_ascii t))

abbrev first_of : List (List ℕ) → List ℕ
first_of [] = []
first_of (w ∷ ws) = w

abbrev others_of : List (List ℕ) → List (List ℕ)
others_of [] = []
others_of (w ∷ ws) = ws

abbrev joined : List (List ℕ) → List ℕ
joined ws = join_by (λ w. w) (codes "-") (filter has_some ws)

-- each with what parts it from the one before it
abbrev dashed : List (List ℕ) → List ℕ
dashed ws = flat_map (λ w. codes "-" ++ w) (filter has_some ws)

-- of what is put, by pieces: at the start, behind a word and within one
record ByPieces (at_start behind within : List ℕ) (ws : List (List ℕ)) : Type 0 where
  starts : at_start ≡ joined ws
  follows : behind ≡ dashed ws
  goes_on : within ≡ first_of ws ++ dashed (others_of ws)

onto_word : (x : ℕ) (ws : List (List ℕ)) (t : List ℕ) → t ≡ first_of ws ++ dashed (others_of ws) → ByPieces (x ∷ t) (codes "-" ++ x ∷ t) (x ∷ t) (onto_first x ws)
onto_word x [] t e = record { starts = ap (λ (l : List ℕ). x ∷ l) e; follows = ap (λ (l : List ℕ). codes "-" ++ x ∷ l) e; goes_on = ap (λ (l : List ℕ). x ∷ l) e }
onto_word x (w ∷ ws) t e = record { starts = ap (λ (l : List ℕ). x ∷ l) e; follows = ap (λ (l : List ℕ). codes "-" ++ x ∷ l) e; goes_on = ap (λ (l : List ℕ). x ∷ l) e }

cut-other : (b : ℕ) (t : List ℕ) → is_ascii b ≡ false → cut (b ∷ t) ≡ cut t
cut-other b t other = ap (λ (s : Bool). pieces (str_to_ascii_lowercase (cond s (b ∷ filter is_ascii t) (filter is_ascii t)))) other

cut-ascii : (b : ℕ) (t : List ℕ) → is_ascii b ≡ true → cut (b ∷ t) ≡ cond (not (is_ascii_alphanumeric (to_ascii_lowercase b))) ([] ∷ cut t) (onto_first (to_ascii_lowercase b) (cut t))
cut-ascii b t ascii = ap (λ (s : Bool). pieces (str_to_ascii_lowercase (cond s (b ∷ filter is_ascii t) (filter is_ascii t)))) ascii

lower-letter : (b : ℕ) → is_ascii_alphanumeric b ≡ true → (is_ascii b ≡ true) × (is_ascii_alphanumeric (to_ascii_lowercase b) ≡ true)
lower-letter b letter = (grind (arith, nat_tests), grind (arith, nat_tests))

lower-other : (b : ℕ) → is_ascii_alphanumeric b ≡ false → is_ascii_alphanumeric (to_ascii_lowercase b) ≡ false
lower-other b other = grind (arith, nat_tests)

abbrev mores : List ℕ → Type 0
mores t = ByPieces (more false false t) (more true false t) (more true true t) (cut t)

mores-letter : (b : ℕ) (t : List ℕ) → is_ascii_alphanumeric b ≡ true → mores t → mores (b ∷ t)
mores-letter b t letter h =
    let x = to_ascii_lowercase b in
    let low = lower-letter b letter in
    let is : cut (b ∷ t) ≡ onto_first x (cut t) = cut-ascii b t low.0 ∙ ap (λ (s : Bool). cond (not s) ([] ∷ cut t) (onto_first x (cut t))) low.1 in
    let put : (some goes_on : Bool) → more some goes_on (b ∷ t) ≡ dash some goes_on ++ x ∷ more true true t
    = λ some goes_on. ap (λ (s : Bool). cond s (dash some goes_on ++ x ∷ more true true t) (more some (cond (is_ascii b) false goes_on) t)) letter in
    let parts = onto_word x (cut t) (more true true t) h.goes_on in
    record {
      starts = put false false ∙ parts.starts ∙ ap joined (sym is);
      follows = put true false ∙ parts.follows ∙ ap dashed (sym is);
      goes_on = put true true ∙ parts.goes_on ∙ ap (λ (ws : List (List ℕ)). first_of ws ++ dashed (others_of ws)) (sym is);
    }

mores-gap : (b : ℕ) (t : List ℕ) → is_ascii_alphanumeric b ≡ false → is_ascii b ≡ true → mores t → mores (b ∷ t)
mores-gap b t other ascii h =
    let is : cut (b ∷ t) ≡ [] ∷ cut t = cut-ascii b t ascii ∙ ap (λ (s : Bool). cond (not s) ([] ∷ cut t) (onto_first (to_ascii_lowercase b) (cut t))) (lower-other b other) in
    let pass : (some goes_on : Bool) → more some goes_on (b ∷ t) ≡ more some false t
    = λ some goes_on. sym (other-passed some goes_on b t other) ∙ ap (λ (s : Bool). more some (cond s false goes_on) t) ascii in
    record {
      starts = pass false false ∙ h.starts ∙ ap joined (sym is);
      follows = pass true false ∙ h.follows ∙ ap dashed (sym is);
      goes_on = pass true true ∙ h.follows ∙ ap (λ (ws : List (List ℕ)). first_of ws ++ dashed (others_of ws)) (sym is);
    }

mores-left_out : (b : ℕ) (t : List ℕ) → is_ascii_alphanumeric b ≡ false → is_ascii b ≡ false → mores t → mores (b ∷ t)
mores-left_out b t other foreign h =
    let is : cut (b ∷ t) ≡ cut t = cut-other b t foreign in
    let pass : (some goes_on : Bool) → more some goes_on (b ∷ t) ≡ more some goes_on t
    = λ some goes_on. sym (other-passed some goes_on b t other) ∙ ap (λ (s : Bool). more some (cond s false goes_on) t) foreign in
    record {
      starts = pass false false ∙ h.starts ∙ ap joined (sym is);
      follows = pass true false ∙ h.follows ∙ ap dashed (sym is);
      goes_on = pass true true ∙ h.goes_on ∙ ap (λ (ws : List (List ℕ)). first_of ws ++ dashed (others_of ws)) (sym is);
    }

mores-is : (t : List ℕ) → mores t
mores-is [] = record { starts = refl; follows = refl; goes_on = refl }
mores-is (b ∷ t) =
    elim (cases_Bool (is_ascii_alphanumeric b)) [
      | inl letter ↦ mores-letter b t letter (mores-is t)
      | inr other ↦ elim (cases_Bool (is_ascii b)) [
        | inl ascii ↦ mores-gap b t other ascii (mores-is t)
        | inr foreign ↦ mores-left_out b t other foreign (mores-is t)
      ]
    ]

pub slug-is : (t : List ℕ) → more false false t ≡ slug t
slug-is t = (mores-is t).starts
