-- Lines, one after another.
use Rattle.std.proofs.Common.{◌≡◌, ℕ, suc, ◌-◌, Bool, true, false, cond, nat_eq, List, [], ◌∷◌, ◌++◌, length, take, map, refl, sym, ap, ◌∙◌, arith, append_assoc, append-nil, if◌then◌else◌, ◌==◌, slice_index}
use Rattle.std.proofs.lemmas.Grind.{common_steps, flat_map-append}
use Rattle.std.proofs.lemmas.List.{map-append}
use Rattle.std.specs.List.{slice_split, flat_map}
use Rattle.std.specs.Str.Lines as std
use Rattle.tera_built_ins.specs.Pieces.{is_code, without_return, lines_of, lines, ends_line, joined}
use Rattle.tera_built_ins.specs.Indent.{later_line, moved_lines, indented}
use Rattle.tera_built_ins.proofs.Trimming.{byte}

strip-more : (c d : ℕ) (t : List ℕ) → std.strip_carriage_return (c ∷ d ∷ t) ≡ c ∷ std.strip_carriage_return (d ∷ t)
strip-more c d t =
    let e : suc (suc (length t)) - 1 ≡ suc (length t) = omega arith in
    let f : suc (length t) - 1 ≡ length t = omega arith in
    rw e (rw f (go (slice_index (d ∷ t) (length t) == 13)))
  where
    go : (b : Bool) → (if b then take (suc (length t)) (c ∷ d ∷ t) else c ∷ d ∷ t) ≡ c ∷ (if b then take (length t) (d ∷ t) else d ∷ t)
    go true = refl
    go false = refl

return-same : (t : List ℕ) → std.strip_carriage_return t ≡ without_return byte t
return-same [] = refl
return-same (c ∷ []) = go (nat_eq c 13)
  where
    go : (b : Bool) → (if b then [] else c ∷ []) ≡ cond b [] (c ∷ [])
    go true = refl
    go false = refl
return-same (c ∷ d ∷ t) = strip-more c d t ∙ ap (λ q. c ∷ q) (return-same (d ∷ t))

lines_of-same : (ts : List (List ℕ)) → std.lines_of_parts ts ≡ lines_of byte ts
lines_of-same [] = refl
lines_of-same ([] ∷ []) = refl
lines_of-same ((c ∷ t) ∷ []) = let e : (suc (length t) == 0) ≡ false = grind (arith, common_steps) in rw e refl
lines_of-same (t ∷ u ∷ ts) = rw (return-same t) (rw (lines_of-same (u ∷ ts)) refl)

-- std's lines are these
pub lines-same : (t : List ℕ) → std.lines t ≡ lines byte t
lines-same t = lines_of-same (slice_split (is_code byte 10) t)

ends_line-push : (t : List ℕ) (c : ℕ) → ends_line byte (t ++ (c ∷ [])) ≡ nat_eq c 10
ends_line-push [] c = refl
ends_line-push (d ∷ []) c = refl
ends_line-push (d ∷ e ∷ t) c = ends_line-push (e ∷ t) c

front : List ℕ → List ℕ
front [] = []
front (c ∷ []) = []
front (c ∷ d ∷ t) = c ∷ front (d ∷ t)

ends_line-split : (t : List ℕ) → ends_line byte t ≡ true → t ≡ front t ++ (10 ∷ [])
unfolding front
ends_line-split [] h = cc
ends_line-split (c ∷ []) h = let e : c ≡ 10 = grind (arith, common_steps, h) in ap (λ q. q ∷ []) e
ends_line-split (c ∷ d ∷ t) h = ap (λ q. c ∷ q) (ends_line-split (d ∷ t) h)

-- a test for a last line feed
pub ends-same : (t before : List ℕ) (r : Bool) → (r ≡ true → t ≡ before ++ (10 ∷ [])) → ((u : List ℕ) → t ≡ u ++ (10 ∷ []) → r ≡ true) → r ≡ ends_line byte t
ends-same t before true h k = sym (ap (ends_line byte) (h refl) ∙ ends_line-push before 10)
ends-same t before false h k = go (ends_line byte t) refl
  where
    go : (b : Bool) → ends_line byte t ≡ b → false ≡ b
    go true e = k (front t) (ends_line-split t e)
    go false e = refl

-- whether a line came
abbrev pub begun : {A : Type 0} → List A → Bool
begun [] = false
begun (x ∷ xs) = true

abbrev pub made : List ℕ → Bool → Bool → List (List ℕ) → List ℕ
made pad first blank ts = joined byte (10 ∷ []) (moved_lines pad first blank ts)

begun-map : {A B : Type 0} (f : A → B) (xs : List A) → begun (map f xs) ≡ begun xs
begun-map f [] = refl
begun-map f (x ∷ xs) = refl

pub begun-push : {A : Type 0} (xs : List A) (x : A) → begun (xs ++ (x ∷ [])) ≡ true
begun-push [] x = refl
begun-push (y ∷ xs) x = refl

begun-none : {A : Type 0} (xs : List A) → begun xs ≡ false → xs ≡ []
begun-none [] h = refl
begun-none (x ∷ xs) h = cc

-- the first line
made-first : (pad : List ℕ) (first blank : Bool) (t : List ℕ) → made pad first blank (t ∷ []) ≡ cond first (pad ++ t) t
made-first pad first blank t = append-nil _

-- one line more
made-more : (pad : List ℕ) (first blank : Bool) (ts : List (List ℕ)) (t : List ℕ) → begun ts ≡ true → made pad first blank (ts ++ (t ∷ [])) ≡ made pad first blank ts ++ (10 ∷ later_line pad blank t)
made-more pad first blank [] t h = cc
made-more pad first blank (u ∷ ts) t h =
    let head = cond first (pad ++ u) u in
    let line = later_line pad blank t in
    let later = map (later_line pad blank) ts in
    let mapped : map (later_line pad blank) (ts ++ (t ∷ [])) ≡ later ++ (line ∷ []) = map-append (later_line pad blank) ts (t ∷ []) in
    let put : List ℕ → List ℕ = λ y. (10 ∷ []) ++ y in
    let flat : flat_map put (map (later_line pad blank) (ts ++ (t ∷ []))) ≡ flat_map put later ++ (10 ∷ line) =
    ap (flat_map put) mapped ∙ flat_map-append put later (line ∷ []) ∙ ap (λ q. flat_map put later ++ q) (append-nil (10 ∷ line)) in
    ap (λ q. head ++ q) flat ∙ sym (append_assoc head (flat_map put later) (10 ∷ line))

module _ {A : Type 0} (now : A → List ℕ) (pad : List ℕ) (first blank : Bool) (xs : List A) (x : A) (old new : List ℕ) (b : Bool)
    (was : old ≡ made pad first blank (map now xs)) (is : b ≡ begun xs) where
  -- a line after the first one is put out
  pub later-step : b ≡ true → new ≡ old ++ (10 ∷ later_line pad blank (now x)) → new ≡ made pad first blank (map now (xs ++ (x ∷ [])))
  later-step h e =
      let some : begun (map now xs) ≡ true = begun-map now xs ∙ sym is ∙ h in
      let line = later_line pad blank (now x) in
      e ∙ ap (λ q. q ++ (10 ∷ line)) was ∙ sym (made-more pad first blank (map now xs) (now x) some)
      ∙ ap (made pad first blank) (sym (map-append now xs (x ∷ [])))

  -- the first line is
  pub first-step : b ≡ false → new ≡ old ++ cond first (pad ++ now x) (now x) → new ≡ made pad first blank (map now (xs ++ (x ∷ [])))
  first-step h e =
      let empty : xs ≡ [] = begun-none xs (sym is ∙ h) in
      let head = cond first (pad ++ now x) (now x) in
      e ∙ ap (λ q. q ++ head) (was ∙ ap (λ q. made pad first blank (map now q)) empty)
      ∙ sym (ap (λ q. made pad first blank (map now (q ++ (x ∷ [])))) empty ∙ made-first pad first blank (now x))

-- all lines are, and then a line feed where the text ends with one
pub all-done : (pad : List ℕ) (first blank : Bool) (t : List ℕ) (ts : List (List ℕ)) (old : List ℕ) → ts ≡ std.lines t → old ≡ made pad first blank ts → indented byte (10 ∷ []) pad first blank t ≡ old ++ cond (ends_line byte t) (10 ∷ []) []
all-done pad first blank t ts old e f =
    ap (λ q. q ++ cond (ends_line byte t) (10 ∷ []) []) (sym (f ∙ ap (made pad first blank) (e ∙ lines-same t)))
