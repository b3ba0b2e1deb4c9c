-- Where a start delimiter begins.
use Rattle.std.proofs.Common.{◌≡◌, ℕ, ◌+◌, ◌<◌, ◌≤◌, [], ◌∷◌, Bool, true, false, nat_lt, length, drop, get_or, Option, Some, None, is_some, string_bytes, refl, ap, ◌∙◌, arith, subst, if◌then◌else◌, IsTrue, IfSome}
use Rattle.std.proofs.lemmas.Bool.{and_parts}
use Rattle.std.proofs.lemmas.List.{drop_all}
use Rattle.std.proofs.lemmas.Str.{IsUtf8-string_bytes, IsCharBoundary-end, IsUtf8-from_is_utf8}
use Rattle.std.specs.Str.{IsUtf8, IsCharBoundary, is_utf8, chars}
use lib.Utf8.{encode}
use Rattle.std.proofs.lemmas.Grind.{common_steps}
use Rattle.memchr.specs.Find.{is_byte3}
use Rattle.tera_errors.specs.Site.{Text}
use Rattle.tera_syntax_tokens.specs.Bytes.{begins, position, heads}
use Rattle.tera_syntax_tokens.specs.Inside.{hyphen}
use Rattle.tera_syntax_tree.specs.Delimiters.{Delims, delimiters_of, accepted, is_filled}
use Rattle.tera_syntax_tree.specs.declared.delimiters.Delimiters.{Delimiters}
use Rattle.tera_syntax_tokens.specs.declared.cut.Tag.{Tag}
use Rattle.tera_syntax_tokens.specs.declared.cut.Tag.TheVariants as tag
use Rattle.tera_syntax_tokens.specs.declared.cut.Opening.{Opening}
use Rattle.tera_syntax_tokens.specs.Cut.{longer, opening_at, opens, start_size}
use Rattle.tera_syntax_tokens.proofs.Positions.{by_order, word_fits, boundary_before, boundary_after, position_le, position_passes, heads_word}

-- a word that may be a start delimiter, and begins the text
pub record Start (text : Text) (o : Opening) : Type 0 where
  pub word : Text
  pub utf8 : IsUtf8 word
  pub filled : 0 < length word
  pub begun : begins word text ≡ true
  pub size : length word ≡ o.size

abbrev pub Starts : Text → Option Opening → Type 0
Starts text None = Unit {0}
Starts text (Some o) = Start text o

opened_starts_by : (q : Bool) (kind : Tag) (word text : Text) → IsUtf8 word → 0 < length word → begins word text ≡ q
    → Starts text (if q then Some (record { tag = kind; size = length word }) else None)
opened_starts_by true kind word text u l b = record { word = word; utf8 = u; filled = l; begun = b; size = refl }
opened_starts_by false kind word text u l b = tt

longer_by : (q : Bool) (text : Text) (a b : Opening) → Start text a → Start text b → Starts text (if q then Some b else Some a)
longer_by true text a b s t = t
longer_by false text a b s t = s

longer_starts : (text : Text) (a b : Option Opening) → Starts text a → Starts text b → Starts text (longer a b)
longer_starts text None b s t = t
longer_starts text (Some a) None s t = s
longer_starts text (Some a) (Some b) s t = longer_by (nat_lt a.size b.size) text a b s t

filled_size : (text : Text) → is_filled text ≡ true → 0 < length text
filled_size [] h = absurd (cc)
filled_size (b ∷ bs) h = omega arith

-- the texts of delimiters that can be used are not empty
pub record Filled (d : Delims) : Type 0 where
  pub block_start : 0 < length d.block_start
  pub block_end : 0 < length d.block_end
  pub variable_start : 0 < length d.variable_start
  pub variable_end : 0 < length d.variable_end
  pub comment_start : 0 < length d.comment_start
  pub comment_end : 0 < length d.comment_end

pub filled : (d : Delims) → IsTrue (accepted d) → Filled d
unfolding accepted
filled d h =
    let six = (and_parts _ _ h).0 in
    let five = and_parts _ _ six in
    let four = and_parts _ _ five.0 in
    let three = and_parts _ _ four.0 in
    let two = and_parts _ _ three.0 in
    let one = and_parts _ _ two.0 in
    record {
      block_start = filled_size d.block_start one.0;
      block_end = filled_size d.block_end one.1;
      variable_start = filled_size d.variable_start two.1;
      variable_end = filled_size d.variable_end three.1;
      comment_start = filled_size d.comment_start four.1;
      comment_end = filled_size d.comment_end five.1;
    }

pub opening_starts : (d : Delimiters) (text : Text) → IsTrue (accepted (delimiters_of d)) → Starts text (opening_at (delimiters_of d) text)
unfolding opening_at
opening_starts d text h =
    let f = filled (delimiters_of d) h in
    longer_starts text _ _ (opened_starts_by (begins (string_bytes d.variable_start) text) _ _ text (IsUtf8-string_bytes d.variable_start) f.variable_start refl)
    (longer_starts text _ _ (opened_starts_by (begins (string_bytes d.block_start) text) _ _ text (IsUtf8-string_bytes d.block_start) f.block_start refl)
    (opened_starts_by (begins (string_bytes d.comment_start) text) _ _ text (IsUtf8-string_bytes d.comment_start) f.comment_start refl))

pub start_of : (d : Delimiters) (text : Text) (o : Opening) → IsTrue (accepted (delimiters_of d)) → opening_at (delimiters_of d) text ≡ Some o → Start text o
start_of d text o h e = subst (Starts text) e (opening_starts d text h)

pub some_from : {A : Type 0} (o : Option A) → is_some o ≡ true → (x : A) × (o ≡ Some x)
some_from None h = absurd (cc)
some_from (Some x) h = (x, refl)

pub start_fits : (text : Text) (o : Opening) → Start text o → (0 < o.size) × (o.size ≤ length text)
start_fits text o s =
    let f = word_fits s.word text 0 s.begun s.filled in
    let e = s.size in
    let l = s.filled in
    (omega arith, omega arith)

-- a text may be cut before a start delimiter
pub opening_boundary : (d : Delimiters) (text : Text) (i : ℕ) → IsTrue (accepted (delimiters_of d)) → opens (delimiters_of d) (drop i text) ≡ true → IsCharBoundary text i
opening_boundary d text i h e =
    let p = some_from (opening_at (delimiters_of d) (drop i text)) e in
    let s = start_of d (drop i text) p.0 h p.1 in
    boundary_before s.word text i s.utf8 s.begun s.filled

pub words_boundary : (d : Delimiters) (text : Text) → IsTrue (accepted (delimiters_of d)) → IsUtf8 text → IsCharBoundary text (position (opens (delimiters_of d)) text)
words_boundary d text h u =
    let n = position (opens (delimiters_of d)) text in
    let m = position_le (opens (delimiters_of d)) text in
    by_order n (length text)
    (λ l. opening_boundary d text n h (position_passes (opens (delimiters_of d)) text l))
    (λ l. let e : n ≡ length text = omega arith in rw e (IsCharBoundary-end text))

fits_of : (text : Text) (o : Option Opening) → Starts text o → IfSome o (λ x. x.size ≤ length text)
fits_of text None s = tt
fits_of text (Some o) s = (start_fits text o s).1

pub opening_fits : (d : Delimiters) (text : Text) → IsTrue (accepted (delimiters_of d)) → IfSome (opening_at (delimiters_of d) text) (λ x. x.size ≤ length text)
opening_fits d text h = fits_of text (opening_at (delimiters_of d) text) (opening_starts d text h)

byte_hyphen : is_utf8 hyphen ≡ true
unfolding is_utf8 chars encode
byte_hyphen = refl

hyphen_utf8 : IsUtf8 hyphen
hyphen_utf8 = IsUtf8-from_is_utf8 hyphen byte_hyphen

size_boundary : (text : Text) (o : Opening) → Start text o → IsUtf8 text → IsCharBoundary text o.size
size_boundary text o s u = let e : 0 + length s.word ≡ o.size = s_size s.word o.size s.size in rw (← e) (boundary_after s.word text 0 u s.utf8 s.begun s.filled)
  where
    s_size : (word : Text) (n : ℕ) → length word ≡ n → 0 + length word ≡ n
    s_size word n e = omega arith

-- and behind it, with the `-` that may follow it
pub start_boundary : (text : Text) (o : Opening) → Start text o → IsUtf8 text → IsCharBoundary text (start_size o text)
start_boundary text o s u = go (begins hyphen (drop o.size text)) refl
  where
    go : (q : Bool) → begins hyphen (drop o.size text) ≡ q → IsCharBoundary text (if q then o.size + 1 else o.size)
    go true e = boundary_after hyphen text o.size u (hyphen_utf8) e (omega arith)
    go false e = size_boundary text o s u

pub start_size_le : (text : Text) (o : Opening) → o.size ≤ start_size o text
start_size_le text o = go (begins hyphen (drop o.size text))
  where
    go : (q : Bool) → o.size ≤ (if q then o.size + 1 else o.size)
    go true = omega arith
    go false = omega arith

pub start_size_fits : (text : Text) (o : Opening) → Start text o → start_size o text ≤ length text
start_size_fits text o s = go (begins hyphen (drop o.size text)) refl
  where
    go : (q : Bool) → begins hyphen (drop o.size text) ≡ q → (if q then o.size + 1 else o.size) ≤ length text
    go true e = word_fits hyphen text o.size e (omega arith)
    go false e = (start_fits text o s).1

-- the first bytes of the start delimiters
abbrev pub first_bytes : Delims → ℕ → Bool
first_bytes d = is_byte3 (get_or d.variable_start 0 0) (get_or d.block_start 0 0) (get_or d.comment_start 0 0)

one_of : (a b c : ℕ) → (is_byte3 a b c a ≡ true) × (is_byte3 a b c b ≡ true) × (is_byte3 a b c c ≡ true)
one_of a b c = (grind (arith, common_steps), grind (arith, common_steps), grind (arith, common_steps))

heads_by : (u v w : Bool) (d : Delims) (text : Text) → Filled d → begins d.variable_start text ≡ u → begins d.block_start text ≡ v → begins d.comment_start text ≡ w
    → is_some (longer (if u then Some (record { tag = tag.Variable; size = length d.variable_start }) else None)
    (longer (if v then Some (record { tag = tag.Block; size = length d.block_start }) else None) (if w then Some (record { tag = tag.Comment; size = length d.comment_start }) else None))) ≡ true
    → heads (first_bytes d) text ≡ true
heads_by true v w d text f a b c h = heads_word (first_bytes d) d.variable_start text a f.variable_start (one_of (get_or d.variable_start 0 0) (get_or d.block_start 0 0) (get_or d.comment_start 0 0)).0
heads_by false true w d text f a b c h = heads_word (first_bytes d) d.block_start text b f.block_start (one_of (get_or d.variable_start 0 0) (get_or d.block_start 0 0) (get_or d.comment_start 0 0)).1
heads_by false false true d text f a b c h = heads_word (first_bytes d) d.comment_start text c f.comment_start (one_of (get_or d.variable_start 0 0) (get_or d.block_start 0 0) (get_or d.comment_start 0 0)).2
heads_by false false false d text f a b c h = absurd (cc)

pub opens_heads : (d : Delims) → Filled d → (text : Text) → opens d text ≡ true → heads (first_bytes d) text ≡ true
unfolding opening_at
opens_heads d f text h = heads_by (begins d.variable_start text) (begins d.block_start text) (begins d.comment_start text) d text f refl refl refl h

-- nothing opens where the first byte is no start delimiter's
pub no_start : (d : Delims) → Filled d → (text : Text) → 0 < length text → first_bytes d (get_or text 0 0) ≡ false → opening_at d text ≡ None
no_start d f [] l h = absurd (omega arith)
no_start d f (b ∷ bs) l h = go (opening_at d (b ∷ bs)) refl
  where
    go : (o : Option Opening) → opening_at d (b ∷ bs) ≡ o → opening_at d (b ∷ bs) ≡ None
    go None e = e
    go (Some o) e = let t = opens_heads d f (b ∷ bs) (ap is_some e) in absurd (cc)

-- nothing opens at the end
pub nothing_opens : (d : Delims) → Filled d → opening_at d [] ≡ None
nothing_opens d f = go (opening_at d []) refl
  where
    go : (o : Option Opening) → opening_at d [] ≡ o → opening_at d [] ≡ None
    go None e = e
    go (Some o) e = let h = opens_heads d f [] (ap is_some e) in absurd (cc)

pub opens_no_more : (d : Delims) → Filled d → (i : ℕ) (text : Text) → length text ≤ i → opening_at d (drop i text) ≡ None
opens_no_more d f i text l = ap (opening_at d) (drop_all i text l) ∙ nothing_opens d f
