-- The steps of the cut of a tag.
use Rattle.std.proofs.Common.{◌≡◌, ℕ, zero, suc, ◌+◌, ◌-◌, ◌<◌, ◌≤◌, List, [], ◌∷◌, ◌++◌, Bool, true, false, ◌==◌, ◌&&◌, length, drop, get_or, Option, Some, None, refl, ap, sym, ◌∙◌, arith, if◌then◌else◌, append_assoc}
use Rattle.std.proofs.lemmas.Bool.{and_parts}
use Rattle.std.proofs.lemmas.List.{drop_more, drop-drop, map-append}
use Rattle.tera_errors.specs.Site.{Text}
use Rattle.tera_syntax_tokens.specs.declared.tag_tokens.Ending.{Ending}
use Rattle.tera_syntax_tokens.specs.Token.{Token, token_of, tokens_of, next_token, is_blank}
use Rattle.tera_syntax_tokens.specs.Inside.{Inside, inside, closing, closing_in, open_after, hyphen, prefixed, token_then}
use Rattle.tera_syntax_tokens.specs.Bytes.{begins}
use Rattle.tera_syntax_tokens.proofs.Sizes.{token_size}
use Rattle.tera_syntax_tokens.proofs.Positions.{boundary_after, word_fits}
use Rattle.std.specs.Str.{IsUtf8, IsCharBoundary}
use Rattle.tera_syntax_tokens.specs.declared.token.Token as declared

pub prefixed-append : (ts us : List Token) (o : Option Inside) → prefixed ts (prefixed us o) ≡ prefixed (ts ++ us) o
prefixed-append ts us None = refl
prefixed-append ts us (Some x) = ap (λ all. Some (record x { tokens = all })) (sym (append_assoc ts us x.tokens))

-- what is passed over is no part of it
pub passed : (end : Text) (opened n at : ℕ) (text : Text) → inside end opened n at text ≡ inside end opened 0 (at + n) (drop n text)
unfolding inside
passed end opened zero at text = let e : at ≡ at + 0 = omega arith in ap (λ k. inside end opened 0 k text) e
passed end opened (suc n) at [] = refl
passed end opened (suc n) at (b ∷ bs) = let e : suc at + n ≡ at + suc n = omega arith in passed end opened n (suc at) bs ∙ ap (λ k. inside end opened 0 k (drop n bs)) e

head_ends : (end : Text) (opened at b : ℕ) (bs : Text) (c : Ending) → closing_in opened end (b ∷ bs) ≡ Some c
    → inside end opened 0 at (b ∷ bs) ≡ Some (record { tokens = []; next = at + c.size; trims = c.trims })
unfolding inside
head_ends end opened at b bs c h = rw h

head_blank : (end : Text) (opened at b : ℕ) (bs : Text) → closing_in opened end (b ∷ bs) ≡ None → is_blank b ≡ true → inside end opened 0 at (b ∷ bs) ≡ inside end opened 0 (suc at) bs
unfolding inside
head_blank end opened at b bs h k = rw h (rw k)

head_token : (end : Text) (opened at b : ℕ) (bs : Text) → closing_in opened end (b ∷ bs) ≡ None → is_blank b ≡ false
    → inside end opened 0 at (b ∷ bs) ≡ token_then (next_token at (b ∷ bs)) (λ t. inside end (open_after opened t.kind) (length t.text - 1) (suc at) bs)
unfolding inside
head_token end opened at b bs h k = rw h (rw k)

pub ends_here : (end : Text) (opened at i : ℕ) (text : Text) (c : Ending) → i < length text → closing_in opened end (drop i text) ≡ Some c
    → inside end opened 0 (at + i) (drop i text) ≡ Some (record { tokens = []; next = at + i + c.size; trims = c.trims })
ends_here end opened at i text c l h =
    let d = drop_more text i 0 l in
    rw d (head_ends end opened (at + i) (get_or text i 0) (drop (i + 1) text) c (ap (closing_in opened end) (sym d) ∙ h))

pub passes_blank : (end : Text) (opened at i : ℕ) (text : Text) → i < length text → closing_in opened end (drop i text) ≡ None → is_blank (get_or text i 0) ≡ true
    → inside end opened 0 (at + i) (drop i text) ≡ inside end opened 0 (at + (i + 1)) (drop (i + 1) text)
passes_blank end opened at i text l h k =
    let d = drop_more text i 0 l in
    let e : suc (at + i) ≡ at + (i + 1) = omega arith in
    rw d (head_blank end opened (at + i) (get_or text i 0) (drop (i + 1) text) (ap (closing_in opened end) (sym d) ∙ h) k ∙ ap (λ n. inside end opened 0 n (drop (i + 1) text)) e)

abbrev past : Text → ℕ → ℕ → ℕ → Text → Token → Option Inside
past end opened at i text t = inside end (open_after opened t.kind) (length t.text - 1) (suc (at + i)) (drop (i + 1) text)

token_here : (end : Text) (opened at i : ℕ) (text : Text) → i < length text → closing_in opened end (drop i text) ≡ None → is_blank (get_or text i 0) ≡ false
    → inside end opened 0 (at + i) (drop i text) ≡ token_then (next_token (at + i) (drop i text)) (past end opened at i text)
token_here end opened at i text l h k =
    let d = drop_more text i 0 l in
    rw d (head_token end opened (at + i) (get_or text i 0) (drop (i + 1) text) (ap (closing_in opened end) (sym d) ∙ h) k)

pub no_token : (end : Text) (opened at i : ℕ) (text : Text) → i < length text → closing_in opened end (drop i text) ≡ None → is_blank (get_or text i 0) ≡ false
    → next_token (at + i) (drop i text) ≡ None → inside end opened 0 (at + i) (drop i text) ≡ None
no_token end opened at i text l h k t = token_here end opened at i text l h k ∙ ap (λ o. token_then o (past end opened at i text)) t

past_is : (end : Text) (opened at i n : ℕ) (text : Text) → 0 < n → inside end opened (n - 1) (suc (at + i)) (drop (i + 1) text) ≡ inside end opened 0 (at + (i + n)) (drop (i + n) text)
past_is end opened at i n text h =
    let e : suc (at + i) + (n - 1) ≡ at + (i + n) = omega arith in
    let f : (i + 1) + (n - 1) ≡ i + n = omega arith in
    passed end opened (n - 1) (suc (at + i)) (drop (i + 1) text) ∙ rw (e, drop-drop (n - 1) (i + 1) text, f) refl

pub takes_token : (end : Text) (opened at i : ℕ) (text : Text) (t : Token) → i < length text → closing_in opened end (drop i text) ≡ None → is_blank (get_or text i 0) ≡ false
    → next_token (at + i) (drop i text) ≡ Some t
    → inside end opened 0 (at + i) (drop i text) ≡ prefixed (t ∷ []) (inside end (open_after opened t.kind) 0 (at + (i + length t.text)) (drop (i + length t.text) text))
takes_token end opened at i text t l h k n =
    token_here end opened at i text l h k ∙ ap (λ o. token_then o (past end opened at i text)) n
    ∙ ap (prefixed (t ∷ [])) (past_is end (open_after opened t.kind) at i (length t.text) text (token_size (at + i) (drop i text) t n).0)

abbrev size_of : Option Ending → ℕ
size_of None = 0
size_of (Some c) = c.size

boundary_by : (end text : Text) (i : ℕ) (c : Ending) → IsUtf8 text → IsUtf8 end → 0 < length end
    → (p q : Bool) → (begins hyphen (drop i text) && begins end (drop 1 (drop i text))) ≡ p → begins end (drop i text) ≡ q
    → (if p then Some (record { size = length end + 1; trims = true }) else (if q then Some (record { size = length end; trims = false }) else None)) ≡ Some c
    → IsCharBoundary text (i + c.size)
boundary_by end text i c u v l true q hp hq h =
    let b : begins end (drop 1 (drop i text)) ≡ true = (and_parts _ _ hp).1 in
    let e : c.size ≡ length end + 1 = sym (ap size_of h) in
    let f : begins end (drop (i + 1) text) ≡ true = ap (begins end) (sym (drop-drop 1 i text)) ∙ b in
    let k : i + c.size ≡ (i + 1) + length end = omega arith in
    rw k (boundary_after end text (i + 1) u v f l)
boundary_by end text i c u v l false true hp hq h =
    let e : c.size ≡ length end = sym (ap size_of h) in
    rw e (boundary_after end text i u v hq l)
boundary_by end text i c u v l false false hp hq h = absurd (cc)

fits_by : (end text : Text) (i : ℕ) (c : Ending) → 0 < length end
    → (p q : Bool) → (begins hyphen (drop i text) && begins end (drop 1 (drop i text))) ≡ p → begins end (drop i text) ≡ q
    → (if p then Some (record { size = length end + 1; trims = true }) else (if q then Some (record { size = length end; trims = false }) else None)) ≡ Some c
    → (i < length text) × (i + c.size ≤ length text)
fits_by end text i c l true q hp hq h =
    let e : c.size ≡ length end + 1 = sym (ap size_of h) in
    let f : begins end (drop (i + 1) text) ≡ true = ap (begins end) (sym (drop-drop 1 i text)) ∙ (and_parts _ _ hp).1 in
    let k = word_fits end text (i + 1) f l in
    (omega arith, omega arith)
fits_by end text i c l false true hp hq h =
    let e : c.size ≡ length end = sym (ap size_of h) in
    let k = word_fits end text i hq l in
    (omega arith, omega arith)
fits_by end text i c l false false hp hq h = absurd (cc)

-- the end of a tag lies in the text
pub ending_fits : (end text : Text) (i : ℕ) (c : Ending) → 0 < length end → closing end (drop i text) ≡ Some c → (i < length text) × (i + c.size ≤ length text)
ending_fits end text i c l h =
    fits_by end text i c l (begins hyphen (drop i text) && begins end (drop 1 (drop i text))) (begins end (drop i text)) refl refl h

-- a text may be cut behind the end of a tag
pub ending_boundary : (end text : Text) (i : ℕ) (c : Ending) → IsUtf8 text → IsUtf8 end → 0 < length end → closing end (drop i text) ≡ Some c → IsCharBoundary text (i + c.size)
ending_boundary end text i c u v l h =
    boundary_by end text i c u v l (begins hyphen (drop i text) && begins end (drop 1 (drop i text))) (begins end (drop i text)) refl refl h

pub none_from : {A : Type 0} (o : Option A) → ((x : A) → o ≡ Some x → ⊥) → o ≡ None
none_from None h = refl
none_from (Some x) h = absurd (h x refl)

pub tokens_of-push : (ts : List declared.Token) (t : declared.Token) → tokens_of (ts ++ t ∷ []) ≡ tokens_of ts ++ token_of t ∷ []
tokens_of-push ts t = map-append token_of ts (t ∷ [])

pub nothing : (end : Text) (opened at : ℕ) → inside end opened 0 at [] ≡ None
unfolding inside
nothing end opened at = refl

-- the end of a tag that is found is one
pub closing_found : (opened : ℕ) (end text : Text) (c : Ending) → closing_in opened end text ≡ Some c → closing end text ≡ Some c
closing_found opened end text c h = go (opened == 0) h
  where
    go : (q : Bool) → (if q then closing end text else None) ≡ Some c → closing end text ≡ Some c
    go true e = e
    go false e = absurd (cc)
