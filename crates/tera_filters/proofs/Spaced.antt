-- What `split_whitespace` of std gives are the words, and how they are joined.
use Rattle.std.proofs.Common.{◌≡◌, ℕ, ◌<◌, Bool, true, false, cond, not, List, [], ◌∷◌, ◌++◌, length, map, filter, refl, sym, ap, subst, ◌∙◌, arith, append_assoc, append-nil, zero, suc, ◌≤◌, slice_get, None}
use Rattle.std.specs.Prelude.{encode_utf8_all}
use Rattle.std.specs.Char.{encode_utf8, is_whitespace, is_not_whitespace}
use Rattle.std.specs.List.{slice_split, onto_first, join_by}
use Rattle.std.specs.Str.{IsUtf8, chars, NonePass, NoCharPasses, EmptyOrStartsWithPassing}
use Rattle.std.specs.Str.Iter.{split_whitespace_rest, split_whitespace_steps}
use Rattle.std.specs.declared.str.SplitWhitespace.{SplitWhitespace}
use Rattle.std.proofs.lemmas.Iterator.{YieldsList}
use Rattle.std.proofs.lemmas.Iterator.Splits.{YieldsList-from_shown_while}
use Rattle.std.proofs.lemmas.List.{flat_map_more}
use Rattle.std.proofs.lemmas.List.Folds.{flat_map-map}
use Rattle.std.proofs.lemmas.List.Splits.{slice_split-cons_yes, slice_split-cons_no}
use Rattle.std.proofs.lemmas.Str.{IsUtf8-past_char, chars-nil, chars_past_char, chars_from_encodes, encodes-append, encodes-chars}
use Rattle.tera_built_ins.specs.Words.{has_some}
use Rattle.tera_filters.specs.Words.{words_of}

-- the words, each as its characters
abbrev spelled : List ℕ → List (List ℕ)
spelled cs = filter has_some (slice_split is_whitespace cs)

is-white : (b : Bool) → not b ≡ false → b ≡ true
is-white true h = refl
is-white false h = cc

-- white space before the words goes
past-blank : (cs ds : List ℕ) → NonePass is_not_whitespace cs → spelled (cs ++ ds) ≡ spelled ds
past-blank [] ds h = refl
past-blank (c ∷ cs) ds h = ap (filter has_some) (slice_split-cons_yes is_whitespace c (cs ++ ds) (is-white (is_whitespace c) h.0)) ∙ past-blank cs ds h.1

first-piece : (ds rs : List ℕ) (qs : List (List ℕ)) → NonePass is_whitespace ds → slice_split is_whitespace rs ≡ [] ∷ qs → slice_split is_whitespace (ds ++ rs) ≡ ds ∷ qs
first-piece [] rs qs h e = e
first-piece (d ∷ ds) rs qs h e = slice_split-cons_no is_whitespace d (ds ++ rs) h.0 ∙ ap (onto_first d) (first-piece ds rs qs h.1 e)

-- a word ends where white space begins, or the text ends
first-word : (ds rs : List ℕ) (qs : List (List ℕ)) → 0 < length (encode_utf8_all ds) → NonePass is_whitespace ds → slice_split is_whitespace rs ≡ [] ∷ qs → spelled (ds ++ rs) ≡ ds ∷ spelled rs
first-word [] rs qs some h e = absurd (omega arith)
first-word (d ∷ ds) rs qs some h e = ap (filter has_some) (first-piece (d ∷ ds) rs qs h e) ∙ ap (λ ts. (d ∷ ds) ∷ ts) (sym (ap (filter has_some) e))

-- the pieces of a text that is empty or begins with white space
seam : (bs more : List ℕ) → IsUtf8 bs → EmptyOrStartsWithPassing is_whitespace bs more → (qs : List (List ℕ)) × (slice_split is_whitespace (chars bs) ≡ [] ∷ qs)
seam [] more u h = ([], ap (slice_split is_whitespace) chars-nil)
seam (b ∷ bs) more u h =
    let begins = h (omega arith) in
    let first = chars_past_char (b ∷ bs) more begins.0 u begins.2 in
    (slice_split is_whitespace (chars more), ap (slice_split is_whitespace) first ∙ slice_split-cons_yes is_whitespace begins.0 (chars more) begins.1)

past-chars : (cs rest : List ℕ) → IsUtf8 (encode_utf8_all cs ++ rest) → IsUtf8 rest
past-chars [] rest u = u
past-chars (c ∷ cs) rest u = past-chars cs rest (IsUtf8-past_char _ _ c u (append_assoc (encode_utf8 c) (encode_utf8_all cs) rest))

none-left : (bs : List ℕ) → IsUtf8 bs → NoCharPasses is_not_whitespace bs → length (words_of bs) ≡ 0
none-left bs u (cs, e, h) =
    let spell : chars bs ≡ cs ++ [] = sym (chars_from_encodes cs bs u e) ∙ sym (append-nil cs) in
    ap (λ ds. length (map encode_utf8_all (spelled ds))) spell ∙ ap (λ ts. length (map encode_utf8_all ts)) (past-blank cs [] h)

-- the first word, and what is left behind it
next-word : (bs gap w rest more gs ds : List ℕ) → IsUtf8 bs → bs ≡ gap ++ (w ++ rest) → 0 < length w → encode_utf8_all gs ≡ gap → NonePass is_not_whitespace gs → encode_utf8_all ds ≡ w → NonePass is_whitespace ds → EmptyOrStartsWithPassing is_whitespace rest more → IsUtf8 rest × (words_of bs ≡ w ∷ words_of rest)
next-word bs gap w rest more gs ds u split some blank none word whole begins =
    let spelt : bs ≡ encode_utf8_all gs ++ (encode_utf8_all ds ++ rest) = split ∙ ap (λ t. t ++ (w ++ rest)) (sym blank) ∙ ap (λ t. encode_utf8_all gs ++ (t ++ rest)) (sym word) in
    let v : IsUtf8 rest = past-chars ds rest (past-chars gs (encode_utf8_all ds ++ rest) (subst IsUtf8 spelt u)) in
    let back : encode_utf8_all (gs ++ (ds ++ chars rest)) ≡ bs =
    encodes-append gs (ds ++ chars rest) ∙ ap (λ t. encode_utf8_all gs ++ t) (encodes-append ds (chars rest) ∙ ap (λ t. encode_utf8_all ds ++ t) (encodes-chars rest v)) ∙ sym spelt in
    let all : chars bs ≡ gs ++ (ds ++ chars rest) = sym (chars_from_encodes (gs ++ (ds ++ chars rest)) bs u back) in
    let piece = seam rest more v begins in
    let long : 0 < length (encode_utf8_all ds) = subst (λ (t : List ℕ). 0 < length t) (sym word) some in
    let are : spelled (chars bs) ≡ ds ∷ spelled (chars rest) = ap spelled all ∙ past-blank gs (ds ++ chars rest) none ∙ first-word ds (chars rest) piece.0 long whole piece.1 in
    (v, ap (map encode_utf8_all) are ∙ ap (λ t. t ∷ words_of rest) word)

pub YieldsList-from_words : (s : SplitWhitespace) (bs : List ℕ) → IsUtf8 bs → split_whitespace_rest s ≡ bs → YieldsList split_whitespace_steps (λ x. x.now) s (words_of bs)
YieldsList-from_words s bs u e =
    subst (λ (t : List ℕ). YieldsList split_whitespace_steps (λ x. x.now) s (words_of t)) e
    (YieldsList-from_shown_while split_whitespace_steps (λ x. x.now) (λ t. words_of (split_whitespace_rest t)) (λ t. IsUtf8 (split_whitespace_rest t))
    (λ q t v h. none-left (split_whitespace_rest q) v h.1)
    (λ q x t v h. next-word (split_whitespace_rest q) h.0 x.now (split_whitespace_rest t) h.5.0 h.3.0 h.4.0 v h.1 h.2 h.3.1 h.3.2 h.4.1 h.4.2 h.5.1)
    s (subst IsUtf8 (sym e) u))

-- one text more
pub join-push : {X : Type 0} (f : X → List ℕ) (between : List ℕ) (xs : List X) (x : X) → join_by f between (xs ++ x ∷ []) ≡ join_by f between xs ++ (cond (has_some xs) between [] ++ f x)
join-push f between [] x = append-nil (f x)
join-push f between (y ∷ xs) x = sym (flat_map_more (λ z. between ++ f z) (f y) xs x)

pub has-pushed : {X : Type 0} (xs : List X) (x : X) → has_some (xs ++ x ∷ []) ≡ true
has-pushed [] x = refl
has-pushed (y ∷ xs) x = refl

pub join-seen : {X : Type 0} (f : X → List ℕ) (between : List ℕ) (xs : List X) → join_by f between xs ≡ join_by (λ t. t) between (map f xs)
join-seen f between [] = refl
join-seen f between (x ∷ xs) = ap (λ t. f x ++ t) (sym (flat_map-map (λ t. between ++ t) f xs))

pub none-at : {X : Type 0} (xs : List X) (n : ℕ) → slice_get xs n ≡ None → length xs ≤ n
none-at [] n h = omega arith
none-at (x ∷ xs) zero h = cc
none-at (x ∷ xs) (suc n) h = let l = none-at xs n h in omega (arith, l)
