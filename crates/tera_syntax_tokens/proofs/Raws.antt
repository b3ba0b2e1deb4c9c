-- The tag `endraw`.
use Rattle.std.proofs.Common.{◌≡◌, ℕ, suc, ◌+◌, ◌<◌, List, [], ◌∷◌, ◌++◌, Bool, true, false, not, ◌&&◌, ◌||◌, length, take, drop, get_or, Option, Some, None, is_some, option_map, bytes_eq, codes, refl, ap, sym, subst, ◌∙◌, arith, if◌then◌else◌, IsTrue}
use Rattle.std.proofs.lemmas.Bool.{and_parts, not-true}
use Rattle.std.proofs.lemmas.List.{drop_all, drop-drop, take-append-drop, length-take-le, length-drop, get_or-drop}
use Rattle.std.proofs.lemmas.Slice.Eq.{bytes_eq-Decides}
use Rattle.std.proofs.lemmas.Str.{IsCharBoundary-end}
use Rattle.std.specs.Str.{IsUtf8, IsCharBoundary}
use denote.Enum.Bare.{sameb}
use Rattle.tera_errors.specs.Site.{Text}
use Rattle.tera_syntax_tokens.specs.contracts.cut.Tag.{the_type}
use Rattle.tera_syntax_tokens.specs.declared.tag_tokens.Ending.{Ending}
use Rattle.tera_syntax_tokens.specs.declared.token.Kind.TheVariants as k
use Rattle.tera_syntax_tokens.specs.declared.token.Measure.{Measure}
use Rattle.tera_syntax_tokens.specs.Bytes.{begins, position, leading}
use Rattle.tera_syntax_tokens.specs.Token.{Token, token, measured, next_token, word_kind, is_blank, is_name_byte}
use Rattle.tera_syntax_tokens.specs.Inside.{Inside, inside, closing, prefixed}
use Rattle.tera_syntax_tokens.specs.Cut.{Piece, of_word, is_alone, opening_at, opens, start_size, trims_before, words, tag_of, endraw, endraw_of, endraw_by, ends_raw, raw}
use Rattle.tera_syntax_tokens.specs.Found.{end_of, end_from}
use Rattle.tera_syntax_tokens.specs.declared.cut.Tag.{Tag}
use Rattle.tera_syntax_tokens.specs.declared.cut.Tag.TheVariants as tag
use Rattle.tera_syntax_tokens.specs.declared.cut.Opening.{Opening}
use Rattle.tera_syntax_tree.specs.Delimiters.{Delims, delimiters_of, accepted}
use Rattle.tera_syntax_tree.specs.declared.delimiters.Delimiters.{Delimiters}
use Rattle.tera_syntax_tokens.proofs.Sizes.{measured_sized}
use Rattle.tera_syntax_tokens.proofs.Positions.{by_order, begins_is, word_fits, position_le, position_passes}
use Rattle.tera_syntax_tokens.proofs.Openings.{opening_boundary}
use Rattle.tera_syntax_tokens.proofs.Insides.{ends_here, no_token, takes_token, nothing, ending_fits}

abbrev pub word : Text
word = codes "endraw"

abbrev same : Tag → Tag → Bool
same = sameb the_type

abbrev pub names : Text → Bool
names text = begins word text && not (is_name_byte (get_or text 6 0))

-- the name `endraw` is the first token just where it stands, with no byte of a name behind it
no_more : (rest : Text) → is_name_byte (get_or rest 0 0) ≡ false → leading is_name_byte rest ≡ 0
unfolding leading
no_more [] h = refl
no_more (b ∷ bs) h = rw h refl

ends_name : (rest : Text) → leading is_name_byte rest ≡ 0 → not (is_name_byte (get_or rest 0 0)) ≡ true
unfolding leading
ends_name [] h = refl
ends_name (b ∷ bs) h = go (is_name_byte b) h
  where
    go : (q : Bool) → (if q then suc (leading is_name_byte bs) else 0) ≡ 0 → not q ≡ true
    go true e = absurd (cc)
    go false e = refl

measured_word : (rest : Text) → measured (word ++ rest) ≡ Some (record { kind = k.Name; size = 6 + leading is_name_byte rest })
unfolding measured leading
measured_word rest =
    let n = leading is_name_byte rest in
    let e : 1 + suc (suc (suc (suc (suc n)))) ≡ 6 + n = omega arith in
    ap (λ size. Some (record { kind = k.Name; size = size })) e

abbrev pub word_token : ℕ → Token
word_token at = record { kind = k.Name; text = word; span = record { start = at; end = at + 6 } }

pub first_token : (at : ℕ) (text : Text) → names text ≡ true → next_token at text ≡ Some (word_token at)
unfolding next_token word_kind
first_token at text h =
    let e : text ≡ word ++ drop 6 text = begins_is word text (and_parts _ _ h).0 in
    let s : is_name_byte (get_or text 6 0) ≡ false = not-true _ (and_parts _ _ h).1 in
    let g : is_name_byte (get_or (drop 6 text) 0 0) ≡ false = ap (λ bs. is_name_byte (get_or bs 6 0)) (sym e) ∙ s in
    let r : leading is_name_byte (drop 6 text) ≡ 0 = no_more (drop 6 text) g in
    let m : measured (word ++ drop 6 text) ≡ Some (record { kind = k.Name; size = 6 }) = measured_word (drop 6 text) ∙ ap (λ n. Some (record { kind = k.Name; size = 6 + n })) r in
    ap (next_token at) e ∙ ap (option_map (token at (word ++ drop 6 text))) m

abbrev text_of : Option Token → Text
text_of None = []
text_of (Some t) = t.text

abbrev size_of : Option Measure → ℕ
size_of None = 0
size_of (Some m) = m.size

word_measure : (text : Text) (m : Measure) → measured text ≡ Some m → take m.size text ≡ word → names text ≡ true
word_measure text m h e =
    let s = (measured_sized text m h).fits in
    let n : m.size ≡ 6 = sym (length-take-le m.size text s) ∙ ap length e in
    let f : take 6 text ≡ word = rw (← n) e in
    let t : text ≡ word ++ drop 6 text = sym (take-append-drop 6 text) ∙ ap (λ bs. bs ++ drop 6 text) f in
    let z : 6 + leading is_name_byte (drop 6 text) ≡ 6 = ap size_of (sym (measured_word (drop 6 text)) ∙ ap measured (sym t) ∙ h) ∙ n in
    let r : leading is_name_byte (drop 6 text) ≡ 0 = omega (arith, z) in
    ap names t ∙ ends_name (drop 6 text) r

word_by : (o : Option Measure) (at : ℕ) (text : Text) (t : Token) → measured text ≡ o → option_map (token at text) o ≡ Some t → t.text ≡ word → names text ≡ true
word_by None at text t h e w = absurd (cc)
word_by (Some m) at text t h e w = let f : take m.size text ≡ t.text = ap text_of e in word_measure text m h (f ∙ w)

pub is_word : (at : ℕ) (text : Text) (t : Token) → next_token at text ≡ Some t → t.text ≡ word → names text ≡ true
unfolding next_token
is_word at text t h w = word_by (measured text) at text t refl h w

-- what stands behind the blanks: nothing, the end of the tag, or a token
abbrev pub Reached : Text → Text → ℕ → Type 0
Reached end text i = i < length text → (is_some (closing end (drop i text)) || not (is_blank (get_or text i 0))) ≡ true

not_blank : (end text : Text) (i : ℕ) → i < length text → Reached end text i → closing end (drop i text) ≡ None → is_blank (get_or text i 0) ≡ false
not_blank end text i l r h =
    let e : not (is_blank (get_or text i 0)) ≡ true = ap (λ o. is_some o || not (is_blank (get_or text i 0))) (sym h) ∙ r l in
    not-true _ e

-- what is so of nothing, and of any token with what follows it, is so of a text with no end of the tag at its front
goes_on : (P : Option Inside → Type 0) (end : Text) (at i : ℕ) (text : Text) → Reached end text i → closing end (drop i text) ≡ None
    → P None → ((t : Token) (more : Option Inside) → next_token (at + i) (drop i text) ≡ Some t → P (prefixed (t ∷ []) more)) → P (inside end 0 0 (at + i) (drop i text))
goes_on P end at i text r h p f = by_order i (length text)
    (λ l. go l (next_token (at + i) (drop i text)) refl)
    (λ l. let d = drop_all i text l in let e : inside end 0 0 (at + i) (drop i text) ≡ None = rw d (nothing end 0 (at + i)) in subst P (sym e) p)
  where
    go : i < length text → (o : Option Token) → next_token (at + i) (drop i text) ≡ o → P (inside end 0 0 (at + i) (drop i text))
    go l None e = subst P (sym (no_token end 0 at i text l h (not_blank end text i l r h) e)) p
    go l (Some t) e = subst P (sym (takes_token end 0 at i text t l h (not_blank end text i l r h) e)) (f t _ e)

-- a tag with no token, with another, and with more than one
pub ends_first : (end : Text) (at i : ℕ) (text : Text) (o : Ending) → closing end (drop i text) ≡ Some o → of_word word (inside end 0 0 (at + i) (drop i text)) ≡ None
ends_first end at i text o h = by_order i (length text)
    (λ l. ap (of_word word) (ends_here end 0 at i text o l h))
    (λ l. let d = drop_all i text l in let e : inside end 0 0 (at + i) (drop i text) ≡ None = rw d (nothing end 0 (at + i)) in ap (of_word word) e)

alone_by : (t : Token) (ts : List Token) → bytes_eq t.text word ≡ false → is_alone word (t ∷ ts) ≡ false
alone_by t [] h = h
alone_by t (u ∷ us) h = refl

other : (t : Token) (more : Option Inside) → bytes_eq t.text word ≡ false → of_word word (prefixed (t ∷ []) more) ≡ None
other t None h = refl
other t (Some x) h = rw (alone_by t x.tokens h) refl

no_word : (t : Token) (text : Text) (at : ℕ) → next_token at text ≡ Some t → names text ≡ false → bytes_eq t.text word ≡ false
no_word t text at e h = go (bytes_eq t.text word) refl
  where
    go : (q : Bool) → bytes_eq t.text word ≡ q → bytes_eq t.text word ≡ false
    go true s = let w = is_word at text t e ((bytes_eq-Decides t.text word).0 s) in absurd (cc)
    go false s = s

pub other_first : (end : Text) (at i : ℕ) (text : Text) → Reached end text i → closing end (drop i text) ≡ None → names (drop i text) ≡ false
    → of_word word (inside end 0 0 (at + i) (drop i text)) ≡ None
other_first end at i text r h n =
    goes_on (λ o. of_word word o ≡ None) end at i text r h refl (λ t more e. other t more (no_word t (drop i text) (at + i) e n))

two : (t u : Token) (more : Option Inside) → of_word word (prefixed (t ∷ []) (prefixed (u ∷ []) more)) ≡ None
two t u None = refl
two t u (Some x) = refl

pub goes_past : (t : Token) (end : Text) (at i : ℕ) (text : Text) → Reached end text i → closing end (drop i text) ≡ None
    → of_word word (prefixed (t ∷ []) (inside end 0 0 (at + i) (drop i text))) ≡ None
goes_past t end at i text r h = goes_on (λ o. of_word word (prefixed (t ∷ []) o) ≡ None) end at i text r h refl (λ u more e. two t u more)

-- the tag is `endraw` where its end follows the name
pub ends_word : (t : Token) (end : Text) (at i : ℕ) (text : Text) (o : Ending) → bytes_eq t.text word ≡ true → i < length text → closing end (drop i text) ≡ Some o
    → of_word word (prefixed (t ∷ []) (inside end 0 0 (at + i) (drop i text))) ≡ Some (record { tokens = t ∷ []; next = at + i + o.size; trims = o.trims })
ends_word t end at i text o w l h =
    let e = ends_here end 0 at i text o l h in
    ap (λ x. of_word word (prefixed (t ∷ []) x)) e ∙ rw w refl

pub is_none : {A : Type 0} (o : Option A) → is_some o ≡ false → o ≡ None
is_none None h = refl
is_none (Some x) h = absurd (cc)

pub reached_in : (end text : Text) (j m : ℕ) → Reached end (drop j text) m → Reached end text (j + m)
reached_in end text j m r l =
    let f : m < length (drop j text) = omega (arith, length-drop j text) in
    rw (← drop-drop m j text, ← get_or-drop j text m 0) (r f)

-- what stands behind a part of what stands behind another
pub behind_both : (i k : ℕ) (text : Text) {a b : Text} → a ≡ drop i text → b ≡ drop k a → b ≡ drop (i + k) text
behind_both i k text e f = f ∙ ap (drop k) e ∙ drop-drop k i text

-- behind blanks, the name, and blanks again
pub reaches : (end : Text) (at n m : ℕ) (text : Text) → inside end 0 0 at text ≡ inside end 0 0 (at + n) (drop n text)
    → Reached end text n → closing end (drop n text) ≡ None → names (drop n text) ≡ true
    → ((from : ℕ) → inside end 0 0 from (drop (n + 6) text) ≡ inside end 0 0 (from + m) (drop m (drop (n + 6) text)))
    → inside end 0 0 at text ≡ prefixed (word_token (at + n) ∷ []) (inside end 0 0 (at + ((n + 6) + m)) (drop ((n + 6) + m) text))
reaches end at n m text s r h w more =
    let f = word_fits word text n (and_parts _ _ w).0 (omega arith) in
    let l : n < length text = omega arith in
    let e : (at + (n + 6)) + m ≡ at + ((n + 6) + m) = omega arith in
    let d = drop-drop m (n + 6) text in
    s ∙ takes_token end 0 at n text (word_token (at + n)) l h (not_blank end text n l r h) (first_token (at + n) (drop n text) w)
    ∙ ap (prefixed (word_token (at + n) ∷ [])) (more (at + (n + 6)) ∙ rw (e, d) refl)

-- and then the end of the tag, or no end
pub alone : (end : Text) (at n m : ℕ) (text : Text) (o : Ending) → 0 < length end → inside end 0 0 at text ≡ inside end 0 0 (at + n) (drop n text)
    → Reached end text n → closing end (drop n text) ≡ None → names (drop n text) ≡ true
    → ((from : ℕ) → inside end 0 0 from (drop (n + 6) text) ≡ inside end 0 0 (from + m) (drop m (drop (n + 6) text)))
    → closing end (drop m (drop (n + 6) text)) ≡ Some o
    → of_word word (inside end 0 0 at text) ≡ Some (record { tokens = word_token (at + n) ∷ []; next = at + (((n + 6) + m) + o.size); trims = o.trims })
alone end at n m text o some s r h w more last =
    let i = (n + 6) + m in
    let e : closing end (drop i text) ≡ Some o = rw (← drop-drop m (n + 6) text) last in
    let p : (at + i) + o.size ≡ at + (i + o.size) = omega arith in
    ap (of_word word) (reaches end at n m text s r h w more) ∙ ends_word (word_token (at + n)) end at i text o refl (ending_fits end text i o some e).0 e
    ∙ ap (λ k. Some (record { tokens = word_token (at + n) ∷ []; next = k; trims = o.trims })) p

pub not_alone : (end : Text) (at n m : ℕ) (text : Text) → inside end 0 0 at text ≡ inside end 0 0 (at + n) (drop n text)
    → Reached end text n → closing end (drop n text) ≡ None → names (drop n text) ≡ true
    → ((from : ℕ) → inside end 0 0 from (drop (n + 6) text) ≡ inside end 0 0 (from + m) (drop m (drop (n + 6) text)))
    → Reached end (drop (n + 6) text) m → closing end (drop m (drop (n + 6) text)) ≡ None → of_word word (inside end 0 0 at text) ≡ None
not_alone end at n m text s r h w more stops last =
    let i = (n + 6) + m in
    let e : closing end (drop i text) ≡ None = rw (← drop-drop m (n + 6) text) last in
    ap (of_word word) (reaches end at n m text s r h w more) ∙ goes_past (word_token (at + n)) end at i text (reached_in end text (n + 6) m stops) e

-- the tag `endraw` stands where a block begins
pub no_opening : (d : Delims) (at : ℕ) (text : Text) → opening_at d text ≡ None → endraw d at text ≡ None
unfolding endraw
no_opening d at text h = rw h refl

pub no_block : (d : Delims) (at : ℕ) (text : Text) (o : Opening) → opening_at d text ≡ Some o → not (same o.tag tag.Block) ≡ true → endraw d at text ≡ None
unfolding endraw
no_block d at text o h n = rw h (go o.tag n)
  where
    go : (kind : Tag) → not (same kind tag.Block) ≡ true → endraw_of d kind (at + start_size o text) (drop (start_size o text) text) ≡ None
    go tag.Variable n = refl
    go tag.Block n = absurd (cc)
    go tag.Comment n = refl

a_block : (d : Delims) (at : ℕ) (text : Text) (o : Opening) → opening_at d text ≡ Some o → not (same o.tag tag.Block) ≡ false
    → endraw d at text ≡ of_word word (inside d.block_end 0 0 (at + start_size o text) (drop (start_size o text) text))
unfolding endraw
a_block d at text o h k = rw h (go o.tag k)
  where
    go : (kind : Tag) → not (same kind tag.Block) ≡ false
        → endraw_of d kind (at + start_size o text) (drop (start_size o text) text) ≡ of_word word (inside d.block_end 0 0 (at + start_size o text) (drop (start_size o text) text))
    go tag.Variable k = absurd (cc)
    go tag.Block k = refl
    go tag.Comment k = absurd (cc)

pub block_is : (d : Delims) (at : ℕ) (text : Text) (o : Opening) (n : ℕ) (end rest : Text) → opening_at d text ≡ Some o → not (same o.tag tag.Block) ≡ false
    → n ≡ start_size o text → end ≡ d.block_end → rest ≡ drop n text → of_word word (inside end 0 0 (at + n) rest) ≡ endraw d at text
block_is d at text o n end rest h k s e r = rw (r, e, s) (sym (a_block d at text o h k))

pub end_moves : (at n : ℕ) (e : Ending) → end_from (at + n) e ≡ end_from at (record { size = n + e.size; trims = e.trims })
end_moves at n e = let p : (at + n) + e.size ≡ at + (n + e.size) = omega arith in ap (λ k. (k, e.trims)) p

pub some_alike : {A B C : Type 0} (f : A → C) (g : B → C) (a : Option A) (b : Option B) → option_map f a ≡ option_map g b → is_some a ≡ is_some b
some_alike f g None None h = refl
some_alike f g None (Some y) h = absurd (cc)
some_alike f g (Some x) None h = absurd (cc)
some_alike f g (Some x) (Some y) h = refl

-- where the raw text ends, a block begins
opened_by : (d : Delims) (text : Text) (o : Option Opening) → is_some (endraw_by d 0 text o) ≡ true → is_some o ≡ true
opened_by d text None h = absurd (cc)
opened_by d text (Some o) h = refl

pub ends_opened : (d : Delims) (text : Text) → ends_raw d text ≡ true → opens d text ≡ true
unfolding endraw
ends_opened d text h = opened_by d text (opening_at d text) h

-- a text may be cut there
pub raw_boundary : (d : Delimiters) (text : Text) → IsTrue (accepted (delimiters_of d)) → IsUtf8 text → IsCharBoundary text (position (ends_raw (delimiters_of d)) text)
raw_boundary d text h u =
    let n = position (ends_raw (delimiters_of d)) text in
    let m = position_le (ends_raw (delimiters_of d)) text in
    by_order n (length text)
    (λ l. opening_boundary d text n h (ends_opened (delimiters_of d) (drop n text) (position_passes (ends_raw (delimiters_of d)) text l)))
    (λ l. let e : n ≡ length text = omega arith in rw e (IsCharBoundary-end text))

ended_by : (make : List Token → Piece) (o : Option Inside) → option_map end_of o ≡ None → tag_of make o ≡ None
ended_by make None h = refl
ended_by make (Some x) h = absurd (cc)

pub no_raw : (d : Delims) (trims : Bool) (at : ℕ) (text : Text) (n : ℕ) → n ≡ position (ends_raw d) text
    → option_map end_of (endraw d (at + n) (drop n text)) ≡ None → raw d trims at text ≡ None
unfolding raw
no_raw d trims at text n e h = rw e at (ended_by (λ ts. words trims (trims_before (drop n text) (opening_at d (drop n text))) n at text) (endraw d (at + n) (drop n text)) h)

abbrev next_from : Option (ℕ × Bool) → ℕ
next_from None = 0
next_from (Some p) = p.0

abbrev trims_from : Option (ℕ × Bool) → Bool
trims_from None = false
trims_from (Some p) = p.1

found_by : (p : Piece) (o : Option Inside) (next : ℕ) (trims : Bool) → option_map end_of o ≡ Some (next, trims) → tag_of (λ ts. p) o ≡ Some (record { piece = p; next = next; trims = trims })
found_by p None next trims h = absurd (cc)
found_by p (Some x) next trims h =
    let n : x.next ≡ next = ap next_from h in
    let t : x.trims ≡ trims = ap trims_from h in
    rw (n, t) refl

pub a_raw : (d : Delims) (trims : Bool) (at : ℕ) (text : Text) (n : ℕ) (p : Piece) (e : Ending) → n ≡ position (ends_raw d) text
    → p ≡ words trims (trims_before (drop n text) (opening_at d (drop n text))) n at text
    → option_map end_of (endraw d (at + n) (drop n text)) ≡ Some (end_from (at + n) e)
    → raw d trims at text ≡ Some (record { piece = p; next = (at + n) + e.size; trims = e.trims })
unfolding raw
a_raw d trims at text n p e f w h =
    rw (← f) (ap (λ q. tag_of (λ ts. q) (endraw d (at + n) (drop n text))) (sym w) ∙ found_by p (endraw d (at + n) (drop n text)) _ _ h)
