-- What literals stand for, and where tokens start.
use Rattle.std.proofs.Common.{◌≡◌, ℕ, ◌+◌, ◌-◌, ◌*◌, ◌^◌, ◌<◌, ◌≤◌, List, [], ◌∷◌, Bool, true, false, not, ◌||◌, ◌==◌, ◌++◌, suc, nat_lt, length, take, drop, map, get_or, append_assoc, append-nil, lit<, Some, None, refl, ap, ap₂, sym, ◌∙◌, arith, if◌then◌else◌}
use Rattle.std.proofs.lemmas.Bool.Decides.{nat_tests, Decides-eqb}
use Rattle.std.proofs.lemmas.List.{drop_more, drop_all, drop-map, drop-drop, get_or-drop, length-drop, take_all}
use Rattle.std.proofs.lemmas.Str.{IsCharBoundary-before_ascii, IsCharBoundary-end}
use Rattle.std.specs.Str.{IsCharBoundary}
use Rattle.tera_syntax_tokens.proofs.Positions.{by_order}
use Rattle.tera_errors.specs.Site.{Text}
use Rattle.tera_syntax_tokens.specs.Bytes.{leading}
use Rattle.tera_syntax_tokens.specs.Token.{is_quote, token_of, tokens_of}
use Rattle.tera_syntax_tokens.specs.Literal.{number_from, integer, escaped, escape_of, is_plain, unescaped}
use Rattle.tera_syntax_tokens.specs.declared.token.Token as declared
use Rattle.tera_syntax_tokens.specs.Input.{start_of}

grows : (n : ℕ) (bs : Text) → n ≤ number_from n bs
grows n [] = omega arith
grows n (b ∷ bs) = let h = grows (10 * n + (b - 48)) bs in omega arith

lt_no : (a b : ℕ) → b ≤ a → nat_lt a b ≡ false
lt_no a b h = grind (arith, nat_tests)

large : (digits : Text) → 2 ^ 127 ≤ number_from 0 digits → None ≡ integer digits
large digits h = rw (lt_no (number_from 0 digits) (2 ^ 127) h) refl

pub too_large : (n i : ℕ) (digits : Text) → i < length digits → number_from 0 digits ≡ number_from n (drop i digits) → 2 ^ 127 ≤ 10 * n + (get_or digits i 0 - 48) → None ≡ integer digits
too_large n i digits l e h =
    let d = e ∙ ap (number_from n) (drop_more digits i 0 l) in
    let g = grows (10 * n + (get_or digits i 0 - 48)) (drop (i + 1) digits) in
    large digits (omega arith)

pub start_is : (ts : List declared.Token) (at : ℕ) (t : declared.Token) → at < length ts → t ≡ get_or ts at t → t.span.start ≡ start_of (drop at (tokens_of ts))
start_is ts at t l e =
    let d : drop at (tokens_of ts) ≡ token_of (get_or ts at t) ∷ tokens_of (drop (at + 1) ts) = drop-map token_of at ts ∙ ap (map token_of) (drop_more ts at t l) in
    ap (λ (x : declared.Token). x.span.start) e ∙ sym (ap start_of d)

-- ---- texts between quotes

free_by : (q : Bool) (b : ℕ) (bs : Text) → (b == 92) ≡ q → unescaped false bs ≡ take (leading is_plain bs) bs ++ unescaped false (drop (leading is_plain bs) bs)
    → unescaped false (b ∷ bs) ≡ take (leading is_plain (b ∷ bs)) (b ∷ bs) ++ unescaped false (drop (leading is_plain (b ∷ bs)) (b ∷ bs))
unfolding unescaped leading
free_by true b bs e h = let z : leading is_plain (b ∷ bs) ≡ 0 = rw e refl in rw z refl
free_by false b bs e h =
    let z : leading is_plain (b ∷ bs) ≡ suc (leading is_plain bs) = rw e refl in
    let g : unescaped false (b ∷ bs) ≡ b ∷ unescaped false bs = rw e refl in
    g ∙ ap (λ t. b ∷ t) h ∙ rw z refl

free : (text : Text) → unescaped false text ≡ take (leading is_plain text) text ++ unescaped false (drop (leading is_plain text) text)
unfolding unescaped leading
free [] = refl
free (b ∷ bs) = free_by (b == 92) b bs refl (free bs)

pub all_plain : (text : Text) → leading is_plain text ≡ length text → text ≡ unescaped false text
unfolding unescaped
all_plain text e =
    let d : unescaped false (drop (leading is_plain text) text) ≡ [] = rw (e, drop_all (length text) text (omega arith)) refl in
    let t : take (leading is_plain text) text ≡ text = rw e (take_all (length text) text (omega arith)) in
    sym (free text ∙ ap₂ (λ a b. a ++ b) t d ∙ append-nil text)

stops_by : (q : Bool) (b : ℕ) (bs : Text) → (b == 92) ≡ q → (leading is_plain bs < length bs → get_or bs (leading is_plain bs) 0 ≡ 92)
    → (if not q then suc (leading is_plain bs) else 0) < length (b ∷ bs) → get_or (b ∷ bs) (if not q then suc (leading is_plain bs) else 0) 0 ≡ 92
stops_by true b bs e f h = (Decides-eqb b 92).0 e
stops_by false b bs e f h = f (omega arith)

stops : (text : Text) → leading is_plain text < length text → get_or text (leading is_plain text) 0 ≡ 92
unfolding leading
stops [] h = absurd (omega arith)
stops (b ∷ bs) h = stops_by (b == 92) b bs refl (stops bs) h

backslash : (bs : Text) → unescaped false (92 ∷ bs) ≡ unescaped true bs
unfolding unescaped
backslash bs = refl

escape_some : (bs : Text) (c : ℕ) → escape_of bs ≡ Some c → unescaped true bs ≡ c ∷ unescaped false (drop 1 bs)
unfolding unescaped
escape_some [] c h = absurd (cc)
escape_some (b ∷ bs) c h = rw h refl

no_backslash : (b : ℕ) → escaped b ≡ None → (b == 92) ≡ false
no_backslash b h = go (b == 92) refl h
  where
    go : (q : Bool) → (b == 92) ≡ q → (if b == 110 then Some 10 else (if b == 114 then Some 13 else (if b == 116 then Some 9 else (if q || is_quote b then Some b else None)))) ≡ None → (b == 92) ≡ false
    go true e h = let f = (Decides-eqb b 92).0 e in absurd (ninety b f h)
      where
        ninety : (b : ℕ) → b ≡ 92 → (if b == 110 then Some 10 else (if b == 114 then Some 13 else (if b == 116 then Some 9 else Some b))) ≡ None → ⊥
        ninety b e h = let f : (if 92 == 110 then Some 10 else (if 92 == 114 then Some 13 else (if 92 == 116 then Some 9 else Some 92))) ≡ None = rw e at h in cc
    go false e h = e

escape_none : (bs : Text) → escape_of bs ≡ None → unescaped true bs ≡ 92 ∷ unescaped false bs
unfolding unescaped
escape_none [] h = refl
escape_none (b ∷ bs) h = rw (h, no_backslash b h) refl

-- the plain bytes from a position on
pub record Plain (f n : ℕ) (text : Text) : Type 0 where
  pub fits : f + n ≤ length text
  pub all : n ≡ leading is_plain (drop f text)

pub plain_from : {f n : ℕ} {text bytes rest : Text} → bytes ≡ text → f < length bytes → rest ≡ drop f bytes → n ≡ leading is_plain rest → n ≤ length rest → Plain f n text
plain_from {f} e l r p w =
    let d = r ∙ ap (drop f) e in
    record { fits = omega (arith, ap length e, l, w, ap length d ∙ length-drop f _); all = p ∙ ap (leading is_plain) d }

pub slash_at : {f n : ℕ} {text : Text} → Plain f n text → f + n < length text → get_or text (f + n) 0 ≡ 92
slash_at {f} {n} {text} p l =
    let e = p.all in
    let k : leading is_plain (drop f text) < length (drop f text) = omega (arith, e, length-drop f text) in
    sym (get_or-drop f text n 0) ∙ ap (λ i. get_or (drop f text) i 0) e ∙ stops (drop f text) k

pub end_boundary : {f n : ℕ} {text : Text} → Plain f n text → IsCharBoundary text (f + n)
end_boundary {f} {n} {text} p =
    by_order (f + n) (length text)
    (λ l. IsCharBoundary-before_ascii text (f + n) l (rw (slash_at p l) (lit< tt)))
    (λ l. let z : f + n ≡ length text = omega (arith, p.fits) in rw z (IsCharBoundary-end text))

-- what was written up to a position, and what is left to write, are the whole
abbrev pub Wrote : Text → ℕ → Text → Type 0
Wrote W e text = W ++ unescaped false (drop e text) ≡ unescaped false text

pub wrote_leading : (A : Text) {W word text : Text} {f n : ℕ} → Wrote A f text → Plain f n text → word ≡ take ((f + n) - f) (drop f text) → W ≡ A ++ word → Wrote W (f + n) text
wrote_leading A {W} {word} {text} {f} {n} so p t w =
    let k : (f + n) - f ≡ n = omega arith in
    let g : unescaped false (drop f text) ≡ take n (drop f text) ++ unescaped false (drop (f + n) text) =
    rw p.all (free (drop f text) ∙ ap (λ t. take (leading is_plain (drop f text)) (drop f text) ++ unescaped false t) (drop-drop (leading is_plain (drop f text)) f text)) in
    ap (λ t. t ++ unescaped false (drop (f + n) text)) (w ∙ ap (λ t. A ++ t) (t ∙ ap (λ i. take i (drop f text)) k))
    ∙ append_assoc A (take n (drop f text)) (unescaped false (drop (f + n) text)) ∙ ap (λ t. A ++ t) (sym g) ∙ so

behind_slash : (e : ℕ) (text : Text) → e < length text → get_or text e 0 ≡ 92 → unescaped false (drop e text) ≡ unescaped true (drop (e + 1) text)
behind_slash e text l b = ap (unescaped false) (drop_more text e 0 l ∙ ap (λ x. x ∷ drop (e + 1) text) b) ∙ backslash (drop (e + 1) text)

pub wrote_escape : (W text : Text) {V : Text} {e c : ℕ} → Wrote W e text → e < length text → get_or text e 0 ≡ 92 → Some c ≡ escape_of (drop (e + 1) text) → V ≡ W ++ c ∷ [] → Wrote V (e + 2) text
wrote_escape W text {V} {e} {c} so l b h v =
    let two : (e + 1) + 1 ≡ e + 2 = omega arith in
    let g : unescaped false (drop e text) ≡ c ∷ unescaped false (drop (e + 2) text) =
    behind_slash e text l b ∙ escape_some (drop (e + 1) text) c (sym h) ∙ ap (λ t. c ∷ unescaped false t) (drop-drop 1 (e + 1) text) ∙ ap (λ k. c ∷ unescaped false (drop k text)) two in
    ap (λ t. t ++ unescaped false (drop (e + 2) text)) v ∙ append_assoc W (c ∷ []) (unescaped false (drop (e + 2) text)) ∙ ap (λ t. W ++ t) (sym g) ∙ so

pub wrote_slash : (W text : Text) {V : Text} {e : ℕ} → Wrote W e text → e < length text → get_or text e 0 ≡ 92 → None ≡ escape_of (drop (e + 1) text) → V ≡ W ++ 92 ∷ [] → Wrote V (e + 1) text
wrote_slash W text {V} {e} so l b h v =
    let g : unescaped false (drop e text) ≡ 92 ∷ unescaped false (drop (e + 1) text) = behind_slash e text l b ∙ escape_none (drop (e + 1) text) (sym h) in
    ap (λ t. t ++ unescaped false (drop (e + 1) text)) v ∙ append_assoc W (92 ∷ []) (unescaped false (drop (e + 1) text)) ∙ ap (λ t. W ++ t) (sym g) ∙ so

pub wrote_all : (text : Text) {W : Text} {e : ℕ} → Wrote W e text → length text ≤ e → W ≡ unescaped false text
unfolding unescaped
wrote_all text {W} {e} so l =
    let d : unescaped false (drop e text) ≡ [] = rw (drop_all e text l) refl in
    sym (append-nil W) ∙ ap (λ t. W ++ t) (sym d) ∙ so
