-- Positions in a text.
use Rattle.std.proofs.Common.{inl, inr, ◌≡◌, ℕ, zero, suc, ◌+◌, ◌<◌, ◌≤◌, [], ◌∷◌, ◌++◌, Bool, true, false, ◌||◌, ◌==◌, length, take, drop, get_or, refl, ap, sym, ◌∙◌, arith, if◌then◌else◌}
use Rattle.std.proofs.lemmas.Grind.{common_steps}
use Rattle.std.proofs.lemmas.List.{drop_more, drop_all, drop-drop, get_or-drop, length-drop, length-append, get_or_append_left, take_at}
use Rattle.std.proofs.lemmas.Slice.Eq.{starts_is}
use Rattle.std.proofs.lemmas.Bool.Decides.{Decides-eqb, leb_tells}
use Rattle.std.proofs.lemmas.Str.{IsCharBoundary-start, IsCharBoundary-from_take, IsCharBoundary-from_rest, IsUtf8-drop}
use Rattle.std.specs.Str.{IsUtf8, IsCharBoundary}
use Rattle.memchr.specs.Find.{is_byte, is_byte3}
use Rattle.tera_errors.specs.Site.{Text}
use Rattle.tera_syntax_tokens.specs.Bytes.{begins, position, heads}

pub by_order : {P : Type 0} (a b : ℕ) → (a < b → P) → (b ≤ a → P) → P
by_order a b f g = elim (leb_tells (suc a) b) [ inl p ↦ f p.1 | inr p ↦ g (omega arith) ]

position_head : (test : Text → Bool) (b : ℕ) (bs : Text) → test (b ∷ bs) ≡ true → position test (b ∷ bs) ≡ 0
unfolding position
position_head test b bs h = rw h

position_tail : (test : Text → Bool) (b : ℕ) (bs : Text) → test (b ∷ bs) ≡ false → position test (b ∷ bs) ≡ suc (position test bs)
unfolding position
position_tail test b bs h = rw h

pub position_here : (test : Text → Bool) (i : ℕ) (text : Text) → i < length text → test (drop i text) ≡ true → position test (drop i text) ≡ 0
position_here test i text l h =
    let d = drop_more text i 0 l in
    rw d (position_head test (get_or text i 0) (drop (i + 1) text) (ap test (sym d) ∙ h))

pub position_later : (test : Text → Bool) (i : ℕ) (text : Text) → i < length text → test (drop i text) ≡ false → position test (drop i text) ≡ suc (position test (drop (i + 1) text))
position_later test i text l h =
    let d = drop_more text i 0 l in
    rw d (position_tail test (get_or text i 0) (drop (i + 1) text) (ap test (sym d) ∙ h))

position_end : (test : Text → Bool) (i : ℕ) (text : Text) → length text ≤ i → position test (drop i text) ≡ 0
unfolding position
position_end test i text l = let d = drop_all i text l in rw d refl

passes_by : (q : Bool) (test : Text → Bool) (b : ℕ) (bs : Text) → test (b ∷ bs) ≡ q → (position test bs < length bs → test (drop (position test bs) bs) ≡ true)
    → (if q then 0 else suc (position test bs)) < length (b ∷ bs) → test (drop (if q then 0 else suc (position test bs)) (b ∷ bs)) ≡ true
passes_by true test b bs e later l = e
passes_by false test b bs e later l = later (omega arith)

-- there the test is passed
pub position_passes : (test : Text → Bool) (text : Text) → position test text < length text → test (drop (position test text) text) ≡ true
unfolding position
position_passes test [] l = absurd (omega arith)
position_passes test (b ∷ bs) l = passes_by (test (b ∷ bs)) test b bs refl (position_passes test bs) l

pub position_le : (test : Text → Bool) (text : Text) → position test text ≤ length text
unfolding position
position_le test [] = omega arith
position_le test (b ∷ bs) = let h = position_le test bs in grind (arith, common_steps, h)

pub begins_is : (word text : Text) → begins word text ≡ true → text ≡ word ++ drop (length word) text
begins_is word text h = (starts_is Decides-eqb text word (begins word text) refl).0 h

pub word_fits : (word text : Text) (i : ℕ) → begins word (drop i text) ≡ true → 0 < length word → i + length word ≤ length text
word_fits word text i h l =
    let e : length (drop i text) ≡ length (word ++ drop (length word) (drop i text)) = ap length (begins_is word (drop i text) h) in
    omega (arith, e, length-drop i text, length-append word (drop (length word) (drop i text)))

pub word_lead : (word text : Text) (i : ℕ) → begins word (drop i text) ≡ true → 0 < length word → get_or text i 0 ≡ get_or word 0 0
word_lead word text i h l =
    let e = ap (λ bs. get_or bs 0 0) (begins_is word (drop i text) h) in
    let p : i + 0 ≡ i = omega arith in
    ap (λ k. get_or text k 0) (sym p) ∙ sym (get_or-drop i text 0 0) ∙ e ∙ get_or_append_left word (drop (length word) (drop i text)) 0 0 l

-- a text may be cut before a word that stands in it, and behind it
pub boundary_before : (word text : Text) (i : ℕ) → IsUtf8 word → begins word (drop i text) ≡ true → 0 < length word → IsCharBoundary text i
boundary_before word text i u h l =
    let f = word_fits word text i h l in
    let e = word_lead word text i h l in
    (omega arith, λ _ high. rw e ((IsCharBoundary-start word u).1 l (rw e at high)))

pub boundary_after : (word text : Text) (i : ℕ) → IsUtf8 text → IsUtf8 word → begins word (drop i text) ≡ true → 0 < length word → IsCharBoundary text (i + length word)
boundary_after word text i u v h l =
    let f = word_fits word text i h l in
    let d : IsUtf8 (drop i text) = IsUtf8-drop text i u (boundary_before word text i v h l) in
    let t : take (length word) (drop i text) ≡ word = ap (take (length word)) (begins_is word (drop i text) h) ∙ take_at word (drop (length word) (drop i text)) (length word) refl in
    let w : IsUtf8 (take (length word) (drop i text)) = rw t v in
    let m : length word ≤ length (drop i text) = omega (arith, length-drop i text) in
    IsCharBoundary-from_rest text i (length word) (omega arith) (IsCharBoundary-from_take (drop i text) (length word) d m w)

-- the first position of a byte that passes a test
pub position_of_head : (test : ℕ → Bool) (text : Text) (k : ℕ) → k ≤ length text → ((j : ℕ) → j < k → test (get_or text j 0) ≡ false)
    → (k < length text → test (get_or text k 0) ≡ true) → position (heads test) text ≡ k
unfolding position
position_of_head test [] k l before here = omega arith
position_of_head test (b ∷ bs) zero l before here = rw (here (omega arith)) refl
position_of_head test (b ∷ bs) (suc k) l before here =
    rw (before 0 (omega arith)) (ap suc (position_of_head test bs k (omega arith) (λ j m. before (suc j) (omega arith)) (λ m. here (omega arith))))

-- tests that say the same find the same position
position_alike : (p q : Text → Bool) → ((text : Text) → p text ≡ q text) → (text : Text) → position p text ≡ position q text
unfolding position
position_alike p q h [] = refl
position_alike p q h (b ∷ bs) = rw (h (b ∷ bs), position_alike p q h bs) refl

thrice : (t : Bool) → t ≡ (t || t || t)
thrice true = refl
thrice false = refl

heads_thrice : (a : ℕ) (text : Text) → heads (is_byte a) text ≡ heads (is_byte3 a a a) text
heads_thrice a [] = refl
heads_thrice a (b ∷ bs) = thrice (b == a)

-- one byte of three that are one
pub position_thrice : (a b c : ℕ) (text : Text) → b ≡ a → c ≡ a → position (heads (is_byte a)) text ≡ position (heads (is_byte3 a b c)) text
position_thrice a b c text e f = rw (e, f) (position_alike (heads (is_byte a)) (heads (is_byte3 a a a)) (heads_thrice a) text)

-- A search may pass over what a weaker test does not pass.
skips_by : (t u : Bool) (p q : Text → Bool) (b : ℕ) (bs : Text) → p (b ∷ bs) ≡ t → q (b ∷ bs) ≡ u → (u ≡ true → t ≡ true)
    → position q bs ≡ position p bs + position q (drop (position p bs) bs) → position q (b ∷ bs) ≡ position p (b ∷ bs) + position q (drop (position p (b ∷ bs)) (b ∷ bs))
unfolding position
skips_by true u p q b bs e f s h = let n : 0 + position q (b ∷ bs) ≡ position q (b ∷ bs) = omega arith in rw e (sym n)
skips_by false true p q b bs e f s h = let n = s refl in absurd (cc)
skips_by false false p q b bs e f s h =
    let n : suc (position p bs) + position q (drop (position p bs) bs) ≡ suc (position p bs + position q (drop (position p bs) bs)) = omega arith in
    rw (e, f) (ap suc h ∙ sym n)

position_skips : (p q : Text → Bool) → ((text : Text) → q text ≡ true → p text ≡ true) → (text : Text) → position q text ≡ position p text + position q (drop (position p text) text)
unfolding position
position_skips p q s [] = refl
position_skips p q s (b ∷ bs) = skips_by (p (b ∷ bs)) (q (b ∷ bs)) p q b bs refl refl (s (b ∷ bs)) (position_skips p q s bs)

position_goes_on : (p q : Text → Bool) → ((text : Text) → q text ≡ true → p text ≡ true) → (i k : ℕ) (text : Text) → i < length text → q (drop i text) ≡ false
    → k ≡ position p (drop (i + 1) text) → position q (drop i text) ≡ suc (k + position q (drop ((i + 1) + k) text))
position_goes_on p q s i k text l h e =
    position_later q i text l h ∙ ap suc (position_skips p q s (drop (i + 1) text) ∙ rw (← e, drop-drop k (i + 1) text) refl)

-- a text that begins with a word begins with its first byte
pub heads_word : (test : ℕ → Bool) (word text : Text) → begins word text ≡ true → 0 < length word → test (get_or word 0 0) ≡ true → heads test text ≡ true
heads_word test word [] h l e = let f = word_fits word [] 0 h l in absurd (omega arith)
heads_word test word (b ∷ bs) h l e = let p : b ≡ get_or word 0 0 = word_lead word (b ∷ bs) 0 h l in rw p e

-- the test is passed nowhere before this position
abbrev pub NoneBefore : (Text → Bool) → ℕ → Text → Type 0
NoneBefore test i text = record {
  within : i ≤ length text;
  so_far : position test text ≡ i + position test (drop i text);
}

-- a search that passes over what a weaker test does not pass: its start, a step, and its two ends
pub none_before-start : (p q : Text → Bool) → ((text : Text) → q text ≡ true → p text ≡ true) → (k : ℕ) (text : Text) → k ≡ position p text → NoneBefore q k text
none_before-start p q s k text e = rw e (record { within = position_le p text; so_far = position_skips p q s text })

pub none_before-step : (p q : Text → Bool) → ((text : Text) → q text ≡ true → p text ≡ true) → (i k : ℕ) (text : Text) → NoneBefore q i text → i < length text
    → q (drop i text) ≡ false → k ≡ position p (drop (i + 1) text) → NoneBefore q ((i + 1) + k) text
none_before-step p q s i k text n l h e =
    let g = position_goes_on p q s i k text l h e in
    let m = position_le p (drop (i + 1) text) in
    record { within = omega (arith, m, e, length-drop (i + 1) text); so_far = omega (arith, n.so_far, g) }

pub none_before-here : (test : Text → Bool) (i : ℕ) (text : Text) → NoneBefore test i text → i < length text → test (drop i text) ≡ true → i ≡ position test text
none_before-here test i text n l h = omega (arith, n.so_far, position_here test i text l h)

pub none_before-end : (test : Text → Bool) (i : ℕ) (text : Text) → NoneBefore test i text → length text ≤ i → i ≡ position test text
none_before-end test i text n l = omega (arith, n.so_far, position_end test i text l)
