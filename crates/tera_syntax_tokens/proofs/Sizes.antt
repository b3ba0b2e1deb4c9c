-- How long tokens are.
use Rattle.std.proofs.Common.{◌≡◌, ℕ, zero, suc, ◌+◌, ◌-◌, ◌<◌, ◌≤◌, [], ◌∷◌, Bool, true, false, not, ◌&&◌, ◌==◌, length, take, drop, get_or, Option, Some, None, option_map, lit<, subst, refl, ap, sym, ◌∙◌, arith, if◌then◌else◌}
use Rattle.std.proofs.lemmas.Grind.{common_steps}
use Rattle.std.proofs.lemmas.Bool.{and_parts}
use Rattle.std.proofs.lemmas.Bool.Decides.{Decides-eqb}
use Rattle.std.proofs.lemmas.List.{drop_more, drop_all, get_or-drop, get_or_past, length-drop, length-take-le}
use Rattle.std.proofs.lemmas.Str.{IsCharBoundary-before_ascii, IsCharBoundary-after_ascii}
use Rattle.std.specs.Str.{IsUtf8, IsCharBoundary}
use Rattle.tera_errors.specs.Site.{Text}
use Rattle.tera_syntax_tokens.specs.Bytes.{leading}
use Rattle.tera_syntax_tokens.specs.declared.token.Kind.{Kind}
use Rattle.tera_syntax_tokens.specs.declared.token.Kind.TheVariants as k
use Rattle.tera_syntax_tokens.specs.declared.token.Measure.{Measure}
use Rattle.tera_syntax_tokens.specs.Token.{Token, token, named, next_token, is_letter, is_digit, is_name_byte, is_quote, quoted, pair, single, of_size, or_else, sign, text_of_size, measured}
use Rattle.tera_syntax_tokens.proofs.Positions.{by_order}

pub leading_le : (test : ℕ → Bool) (bs : Text) → leading test bs ≤ length bs
unfolding leading
leading_le test [] = omega arith
leading_le test (b ∷ bs) = let h = leading_le test bs in grind (arith, common_steps, h)

-- a test that only ASCII passes
abbrev IsLow : (ℕ → Bool) → Type 0
IsLow test = (b : ℕ) → test b ≡ true → b < 128

letter_low : IsLow is_letter
letter_low b h = grind (arith, common_steps)

digit_low : IsLow is_digit
digit_low b h = grind (arith, common_steps)

name_low : IsLow is_name_byte
name_low b h = grind (arith, common_steps)

quote_low : IsLow is_quote
quote_low b h = grind (arith, common_steps)

first : (test : ℕ → Bool) → IsLow test → (t : Bool) (b n : ℕ) → test b ≡ t → 0 < (if t then suc n else 0) → b < 128
first test low true b n e h = low b e
first test low false b n e h = absurd (omega arith)

later : (t : Bool) (n k : ℕ) → suc k < (if t then suc n else 0) → k < n
later true n k h = omega arith
later false n k h = absurd (omega arith)

leading_low : (test : ℕ → Bool) → IsLow test → (bs : Text) (k : ℕ) → k < leading test bs → get_or bs k 0 < 128
unfolding leading
leading_low test low [] k h = absurd (omega arith)
leading_low test low (b ∷ bs) zero h = first test low (test b) b (leading test bs) refl h
leading_low test low (b ∷ bs) (suc k) h = leading_low test low bs k (later (test b) (leading test bs) k h)

-- a measure of what the text begins with, between ASCII bytes
pub record Sized (text : Text) (m : Measure) : Type 0 where
  pub some : 0 < m.size
  pub fits : m.size ≤ length text
  pub first : get_or text 0 0 < 128
  pub last : get_or text (m.size - 1) 0 < 128

sized_by : (b : ℕ) (bs : Text) (m : Measure) (n : ℕ) → m.size ≡ 1 + n → n ≤ length bs → b < 128 → ((k : ℕ) → suc k ≡ n → get_or bs k 0 < 128) → Sized (b ∷ bs) m
sized_by b bs m zero e l f last =
    let p : m.size - 1 ≡ 0 = omega arith in
    record { some = omega arith; fits = omega arith; first = f; last = rw p f }
sized_by b bs m (suc k) e l f last =
    let p : m.size - 1 ≡ suc k = omega arith in
    record { some = omega arith; fits = omega arith; first = f; last = rw p (last k refl) }

leading_sized : (test : ℕ → Bool) → IsLow test → (kind : Kind) (b : ℕ) (bs : Text) → b < 128 → Sized (b ∷ bs) (record { kind = kind; size = 1 + leading test bs })
leading_sized test low kind b bs f = sized_by b bs _ (leading test bs) refl (leading_le test bs) f (λ k e. leading_low test low bs k (omega arith))

-- a quoted text ends with its quote
abbrev Closed : Text → ℕ → ℕ → Type 0
Closed bs q n = (0 < n) × (n ≤ length bs) × (get_or bs (n - 1) 0 ≡ q)

closed_more : (b q n : ℕ) (bs : Text) (o : Option ℕ) → ((m : ℕ) → o ≡ Some m → Closed bs q m) → option_map suc o ≡ Some n → Closed (b ∷ bs) q n
closed_more b q n bs None f h = absurd (cc)
closed_more b q n bs (Some zero) f h = let c = f zero refl in absurd (omega (arith, c.0))
closed_more b q n bs (Some (suc m)) f h =
    let c = f (suc m) refl in
    let e : suc (suc m) ≡ n = cc in
    let p : n - 1 ≡ suc m = omega arith in
    let r : suc m - 1 ≡ m = omega arith in
    (omega arith, omega (arith, c.1), rw p (rw r at c.2))

closed_by : (t escaped : Bool) (b q n : ℕ) (bs : Text) (o : Option ℕ) → (not escaped && b == q) ≡ t → ((m : ℕ) → o ≡ Some m → Closed bs q m)
    → (if t then Some 1 else option_map suc o) ≡ Some n → Closed (b ∷ bs) q n
closed_by true escaped b q n bs o e f h =
    let s : 1 ≡ n = cc in
    let p : n - 1 ≡ 0 = omega arith in
    (omega arith, omega arith, rw p ((Decides-eqb b q).0 (and_parts _ _ e).1))
closed_by false escaped b q n bs o e f h = closed_more b q n bs o f h

quoted_closed : (q : ℕ) (escaped : Bool) (bs : Text) (n : ℕ) → quoted q escaped bs ≡ Some n → Closed bs q n
unfolding quoted
quoted_closed q escaped [] n h = absurd (cc)
quoted_closed q escaped (b ∷ bs) n h =
    closed_by (not escaped && b == q) escaped b q n bs (quoted q (not escaped && b == 92) bs) refl (λ m e. quoted_closed q (not escaped && b == 92) bs m e) h

text_sized : (q : ℕ) (bs : Text) (o : Option ℕ) (m : Measure) → q < 128 → ((n : ℕ) → o ≡ Some n → Closed bs q n) → text_of_size o ≡ Some m → Sized (q ∷ bs) m
text_sized q bs None m low f h = absurd (cc)
text_sized q bs (Some n) m low f h =
    let c = f n refl in
    let e : record { kind = k.Text; size = 1 + n } ≡ m = cc in
    subst_sized q bs n e (sized_by q bs _ n refl c.1 low (λ k p. let r : k ≡ n - 1 = omega arith in rw r (rw c.2 low)))
  where
    subst_sized : (q : ℕ) (bs : Text) (n : ℕ) {m : Measure} → record { kind = k.Text; size = 1 + n } ≡ m → Sized (q ∷ bs) (record { kind = k.Text; size = 1 + n }) → Sized (q ∷ bs) m
    subst_sized q bs n e s = subst (Sized (q ∷ bs)) e s

-- signs
peel : {P : Type 0} (t : Bool) (a x : Kind) (rest : Option Kind) → (if t then Some a else rest) ≡ Some x → (t ≡ true → P) → (rest ≡ Some x → P) → P
peel true a x rest h f g = f refl
peel false a x rest h f g = g h

low : (x b : ℕ) → x < 128 → (b == x) ≡ true → b < 128
low x b l e = let d = (Decides-eqb b x).0 e in omega arith

low_pair : (x y b c : ℕ) → x < 128 → 0 < y → y < 128 → (b == x && c == y) ≡ true → (b < 128) × (0 < c) × (c < 128)
low_pair x y b c l p m e =
    let d = (Decides-eqb b x).0 (and_parts _ _ e).0 in
    let f = (Decides-eqb c y).0 (and_parts _ _ e).1 in
    (omega (arith, d), omega (arith, f), omega (arith, f))

pair_low : (b c : ℕ) (x : Kind) → pair b c ≡ Some x → (b < 128) × (0 < c) × (c < 128)
pair_low b c x h0 = peel _ _ _ _ h0 (λ e. low_pair 61 61 b c (lit< tt) (lit< tt) (lit< tt) e) (λ h1. peel _ _ _ _ h1 (λ e. low_pair 33 61 b c (lit< tt) (lit< tt) (lit< tt) e) (λ h2. peel _ _ _ _ h2 (λ e. low_pair 60 61 b c (lit< tt) (lit< tt) (lit< tt) e) (λ h3. peel _ _ _ _ h3 (λ e. low_pair 62 61 b c (lit< tt) (lit< tt) (lit< tt) e) (λ h4. peel _ _ _ _ h4 (λ e. low_pair 42 42 b c (lit< tt) (lit< tt) (lit< tt) e) (λ h5. peel _ _ _ _ h5 (λ e. low_pair 47 47 b c (lit< tt) (lit< tt) (lit< tt) e) (λ h6. peel _ _ _ _ h6 (λ e. low_pair 47 62 b c (lit< tt) (lit< tt) (lit< tt) e) (λ h7. peel _ _ _ _ h7 (λ e. low_pair 63 46 b c (lit< tt) (lit< tt) (lit< tt) e) (λ h8. peel _ _ _ _ h8 (λ e. low_pair 63 91 b c (lit< tt) (lit< tt) (lit< tt) e) (λ h9. absurd (cc))))))))))

single_low : (b : ℕ) (x : Kind) → single b ≡ Some x → b < 128
single_low b x h0 = peel _ _ _ _ h0 (λ e. low 60 b (lit< tt) e) (λ h1. peel _ _ _ _ h1 (λ e. low 62 b (lit< tt) e) (λ h2. peel _ _ _ _ h2 (λ e. low 43 b (lit< tt) e) (λ h3. peel _ _ _ _ h3 (λ e. low 45 b (lit< tt) e) (λ h4. peel _ _ _ _ h4 (λ e. low 42 b (lit< tt) e) (λ h5. peel _ _ _ _ h5 (λ e. low 47 b (lit< tt) e) (λ h6. peel _ _ _ _ h6 (λ e. low 37 b (lit< tt) e) (λ h7. peel _ _ _ _ h7 (λ e. low 126 b (lit< tt) e) (λ h8. peel _ _ _ _ h8 (λ e. low 124 b (lit< tt) e) (λ h9. peel _ _ _ _ h9 (λ e. low 46 b (lit< tt) e) (λ h10. peel _ _ _ _ h10 (λ e. low 91 b (lit< tt) e) (λ h11. peel _ _ _ _ h11 (λ e. low 93 b (lit< tt) e) (λ h12. peel _ _ _ _ h12 (λ e. low 40 b (lit< tt) e) (λ h13. peel _ _ _ _ h13 (λ e. low 41 b (lit< tt) e) (λ h14. peel _ _ _ _ h14 (λ e. low 123 b (lit< tt) e) (λ h15. peel _ _ _ _ h15 (λ e. low 125 b (lit< tt) e) (λ h16. peel _ _ _ _ h16 (λ e. low 44 b (lit< tt) e) (λ h17. peel _ _ _ _ h17 (λ e. low 58 b (lit< tt) e) (λ h18. peel _ _ _ _ h18 (λ e. low 61 b (lit< tt) e) (λ h19. peel _ _ _ _ h19 (λ e. low 64 b (lit< tt) e) (λ h20. absurd (cc)))))))))))))))))))))

head_of : (bs : Text) (i : ℕ) → 0 < get_or bs i 0 → i < length bs
head_of bs i h = by_order i (length bs) (λ l. l) (λ l. let z = get_or_past bs i 0 l in absurd (omega arith))

sized_at : (b : ℕ) (bs : Text) (m : Measure) (n : ℕ) → m.size ≡ suc n → n ≤ length bs → b < 128 → ((i : ℕ) → suc i ≡ n → get_or bs i 0 < 128) → Sized (b ∷ bs) m
sized_at b bs m n e l f last = sized_by b bs m n (omega arith) l f last

sign_by : (t : Bool) (b : ℕ) (bs : Text) (m : Measure) → ((b == 46 && get_or bs 0 0 == 46) && get_or bs 1 0 == 46) ≡ t
    → (if t then Some (record { kind = k.Spread; size = 3 }) else or_else (of_size 2 (pair b (get_or bs 0 0))) (of_size 1 (single b))) ≡ Some m → Sized (b ∷ bs) m
sign_by true b bs m e h =
    let s : record { kind = k.Spread; size = 3 } ≡ m = cc in
    let p = and_parts _ _ e in
    let b0 = (Decides-eqb b 46).0 (and_parts _ _ p.0).0 in
    let b2 = (Decides-eqb (get_or bs 1 0) 46).0 p.1 in
    let l : 1 < length bs = head_of bs 1 (omega arith) in
    let z : m.size ≡ 3 = ap (λ x. x.size) (sym s) in
    sized_at b bs m 2 z (omega arith) (omega arith) (λ i p. let q : i ≡ 1 = omega arith in rw q (omega arith))
sign_by false b bs m e h = pair_by (pair b (get_or bs 0 0)) refl h
  where
    single_by : (o : Option Kind) → single b ≡ o → of_size 1 o ≡ Some m → Sized (b ∷ bs) m
    single_by None p h = absurd (cc)
    single_by (Some x) p h =
        let s : record { kind = x; size = 1 } ≡ m = cc in
        let z : m.size ≡ 1 = ap (λ x. x.size) (sym s) in
        sized_at b bs m 0 z (omega arith) (single_low b x p) (λ i q. absurd (omega arith))

    pair_by : (o : Option Kind) → pair b (get_or bs 0 0) ≡ o → or_else (of_size 2 o) (of_size 1 (single b)) ≡ Some m → Sized (b ∷ bs) m
    pair_by None p h = single_by (single b) refl h
    pair_by (Some x) p h =
        let s : record { kind = x; size = 2 } ≡ m = cc in
        let f = pair_low b (get_or bs 0 0) x p in
        let l : 0 < length bs = head_of bs 0 f.1 in
        let z : m.size ≡ 2 = ap (λ x. x.size) (sym s) in
        sized_at b bs m 1 z (omega arith) f.0 (λ i q. let r : i ≡ 0 = omega arith in rw r f.2)

measure_at : {text : Text} {m n : Measure} → m ≡ n → Sized text m → Sized text n
measure_at {text} e s = subst (Sized text) e s

sized_one : (t u v : Bool) (b : ℕ) (bs : Text) (m : Measure) → is_letter b ≡ t → is_digit b ≡ u → is_quote b ≡ v
    → (if t then Some (record { kind = k.Name; size = 1 + leading is_name_byte bs }) else (
    if u then Some (record { kind = k.Int; size = 1 + leading is_digit bs }) else (
    if v then text_of_size (quoted b false bs) else sign b (get_or bs 0 0) (get_or bs 1 0)))) ≡ Some m → Sized (b ∷ bs) m
unfolding sign
sized_one true u v b bs m e f g h = measure_at (let s : record { kind = k.Name; size = 1 + leading is_name_byte bs } ≡ m = cc in s) (leading_sized is_name_byte name_low k.Name b bs (letter_low b e))
sized_one false true v b bs m e f g h = measure_at (let s : record { kind = k.Int; size = 1 + leading is_digit bs } ≡ m = cc in s) (leading_sized is_digit digit_low k.Int b bs (digit_low b f))
sized_one false false true b bs m e f g h = text_sized b bs (quoted b false bs) m (quote_low b g) (λ n p. quoted_closed b false bs n p) h
sized_one false false false b bs m e f g h = sign_by ((b == 46 && get_or bs 0 0 == 46) && get_or bs 1 0 == 46) b bs m refl h

pub measured_sized : (text : Text) (m : Measure) → measured text ≡ Some m → Sized text m
unfolding measured
measured_sized [] m h = absurd (cc)
measured_sized (b ∷ bs) m h = sized_one (is_letter b) (is_digit b) (is_quote b) b bs m refl refl refl h

-- a step of the search for the quote that closes
quoted_head : (q : ℕ) (escaped : Bool) (b : ℕ) (bs : Text) → quoted q escaped (b ∷ bs) ≡ (if not escaped && b == q then Some 1 else option_map suc (quoted q (not escaped && b == 92) bs))
unfolding quoted
quoted_head q escaped b bs = refl

quoted_here : (q : ℕ) (escaped : Bool) (i : ℕ) (text : Text) → i < length text
    → quoted q escaped (drop i text) ≡ (if not escaped && get_or text i 0 == q then Some 1 else option_map suc (quoted q (not escaped && get_or text i 0 == 92) (drop (i + 1) text)))
quoted_here q escaped i text l = ap (quoted q escaped) (drop_more text i 0 l) ∙ quoted_head q escaped (get_or text i 0) (drop (i + 1) text)

add_after : (i : ℕ) (o : Option ℕ) → option_map (λ n. i + n) (option_map suc o) ≡ option_map (λ n. (i + 1) + n) o
add_after i None = refl
add_after i (Some n) = let e : i + suc n ≡ (i + 1) + n = omega arith in ap Some e

pub quote_closes : (q : ℕ) (escaped : Bool) (i : ℕ) (text : Text) (o : Option ℕ) → i < length text → (not escaped && get_or text i 0 == q) ≡ true
    → o ≡ option_map (λ n. i + n) (quoted q escaped (drop i text)) → Some (i + 1) ≡ o
quote_closes q escaped i text o l h e =
    let p : quoted q escaped (drop i text) ≡ Some 1 = rw (quoted_here q escaped i text l, h) refl in
    sym (e ∙ ap (option_map (λ n. i + n)) p)

pub quote_goes_on : (q : ℕ) (escaped after : Bool) (i : ℕ) (text : Text) (o : Option ℕ) → i < length text → (not escaped && get_or text i 0 == q) ≡ false → after ≡ (not escaped && get_or text i 0 == 92)
    → o ≡ option_map (λ n. i + n) (quoted q escaped (drop i text)) → o ≡ option_map (λ n. (i + 1) + n) (quoted q after (drop (i + 1) text))
quote_goes_on q escaped after i text o l h a e =
    let p : quoted q escaped (drop i text) ≡ option_map suc (quoted q (not escaped && get_or text i 0 == 92) (drop (i + 1) text)) = rw (quoted_here q escaped i text l, h) refl in
    e ∙ ap (option_map (λ n. i + n)) p ∙ add_after i (quoted q (not escaped && get_or text i 0 == 92) (drop (i + 1) text))
    ∙ ap (λ x. option_map (λ n. (i + 1) + n) (quoted q x (drop (i + 1) text))) (sym a)

pub quote_ends : (q : ℕ) (escaped : Bool) (i : ℕ) (text : Text) (o : Option ℕ) → length text ≤ i → o ≡ option_map (λ n. i + n) (quoted q escaped (drop i text)) → None ≡ o
unfolding quoted
quote_ends q escaped i text o l e = let d = drop_all i text l in sym (e ∙ rw d refl)

-- the first token of the text from a position on
pub no_token : (at i : ℕ) (text : Text) → measured (drop i text) ≡ None → None ≡ next_token (at + i) (drop i text)
unfolding next_token
no_token at i text h = rw h refl

pub a_token : (at i e : ℕ) (text word : Text) (kind : Kind) (m : Measure) → measured (drop i text) ≡ Some m → e ≡ i + m.size → word ≡ take m.size (drop i text) → kind ≡ named m.kind word
    → Some (record { kind = kind; text = word; span = record { start = at + i; end = at + e } }) ≡ next_token (at + i) (drop i text)
unfolding next_token
a_token at i e text word kind m h p w n =
    let s : at + e ≡ (at + i) + m.size = omega arith in
    rw (n, w, s, h) refl

-- where a token begins and ends a text may be cut
pub start_boundary : (i : ℕ) (text : Text) (m : Measure) → i < length text → measured (drop i text) ≡ Some m → IsCharBoundary text i
start_boundary i text m l h =
    let s = measured_sized (drop i text) m h in
    let p : i + 0 ≡ i = omega arith in
    let f : get_or text i 0 < 128 = rw (← p) (rw (← get_or-drop i text 0 0) s.first) in
    IsCharBoundary-before_ascii text i l f

pub end_le : (i : ℕ) (text : Text) (m : Measure) → i < length text → measured (drop i text) ≡ Some m → i + m.size ≤ length text
end_le i text m l h = let s = (measured_sized (drop i text) m h).fits in omega (arith, s, length-drop i text)

pub end_boundary : (i : ℕ) (text : Text) (m : Measure) → IsUtf8 text → i < length text → measured (drop i text) ≡ Some m → IsCharBoundary text (i + m.size)
end_boundary i text m u l h =
    let s = measured_sized (drop i text) m h in
    let some = s.some in
    let le = end_le i text m l h in
    let f : get_or text (i + (m.size - 1)) 0 < 128 = rw (← get_or-drop i text (m.size - 1) 0) s.last in
    let p : i + m.size ≡ (i + (m.size - 1)) + 1 = omega arith in
    rw p (IsCharBoundary-after_ascii text (i + (m.size - 1)) u (omega arith) f)

-- a token is not empty, and part of the text
abbrev text_of : Option Token → Text
text_of None = []
text_of (Some t) = t.text

some_size : (n : ℕ) (text : Text) (t : Token) → 0 < n → n ≤ length text → take n text ≡ t.text → (0 < length t.text) × (length t.text ≤ length text)
some_size n text t l h e =
    let f : length (take n text) ≡ length t.text = ap length e in
    let g = length-take-le n text h in
    (omega arith, omega arith)

size_by : (o : Option Measure) (at : ℕ) (text : Text) (t : Token) → measured text ≡ o → option_map (token at text) o ≡ Some t → (0 < length t.text) × (length t.text ≤ length text)
size_by None at text t e h = absurd (cc)
size_by (Some m) at text t e h =
    let s = measured_sized text m e in
    some_size m.size text t s.some s.fits (ap text_of h)

pub token_size : (at : ℕ) (text : Text) (t : Token) → next_token at text ≡ Some t → (0 < length t.text) × (length t.text ≤ length text)
unfolding next_token
token_size at text t h = size_by (measured text) at text t refl h
