-- How a text is cut at a byte.
use Rattle.std.proofs.Common.{◌≡◌, ◌≢◌, ℕ, ◌+◌, ◌<◌, Bool, true, false, not, List, [], ◌∷◌, length, refl, sym, ap, ◌∙◌, arith, ⊎_elim}
use Rattle.std.proofs.lemmas.Bool.{cases_Bool}
use Rattle.std.proofs.lemmas.List.Splits.{slice_split_first, slice_split-cons_no, slice_split-cons_yes}
use Rattle.std.specs.List.{slice_split, onto_first, position_or_len, prefix_len, before_first, after_first}
use Rattle.tera_run_script.specs.Lines.{is_line_feed, lines_of, whole_lines, last_line}
use Rattle.tera_run_script.specs.Words.{is_space, words_of}

prefix_len-cons_no : {X : Type 0} (q : X → Bool) (x : X) (xs : List X) → q x ≡ false → prefix_len q (x ∷ xs) ≡ 0
prefix_len-cons_no q x xs h = rw h

prefix_len-cons_yes : {X : Type 0} (q : X → Bool) (x : X) (xs : List X) → q x ≡ true → prefix_len q (x ∷ xs) ≡ 1 + prefix_len q xs
prefix_len-cons_yes q x xs h = rw h

-- where nothing passes, the list is the one part
pub slice_split_whole : {X : Type 0} (p : X → Bool) (xs : List X) → position_or_len p xs ≡ length xs → slice_split p xs ≡ xs ∷ []
slice_split_whole p [] h = refl
slice_split_whole p (x ∷ xs) h =
    ⊎_elim
    (λ yes. absurd (omega (arith, prefix_len-cons_no (λ y. not (p y)) x xs (ap not yes), h)))
    (λ no. slice_split-cons_no p x xs no ∙ ap (onto_first x) (slice_split_whole p xs (omega (arith, prefix_len-cons_yes (λ y. not (p y)) x xs (ap not no), h))))
    (cases_Bool (p x))

onto_first-some : {X : Type 0} (x : X) (parts : List (List X)) → onto_first x parts ≢ []
onto_first-some x [] h = cc
onto_first-some x (part ∷ parts) h = cc

pub slice_split-some : {X : Type 0} (p : X → Bool) (xs : List X) → slice_split p xs ≢ []
slice_split-some p [] h = cc
slice_split-some p (x ∷ xs) h =
    ⊎_elim
    (λ yes. let e : slice_split p (x ∷ xs) ≡ [] ∷ slice_split p xs = slice_split-cons_yes p x xs yes in cc)
    (λ no. onto_first-some x (slice_split p xs) (sym (slice_split-cons_no p x xs no) ∙ h))
    (cases_Bool (p x))

whole_lines-cons : (part : List ℕ) (parts : List (List ℕ)) → parts ≢ [] → whole_lines (part ∷ parts) ≡ part ∷ whole_lines parts
whole_lines-cons part [] h = absurd (h refl)
whole_lines-cons part (next ∷ parts) h = refl

-- the lines of a text with a line feed, and of one without
pub lines_of-more : (text front back : List ℕ) → front ≡ before_first is_line_feed text → back ≡ after_first is_line_feed text → position_or_len is_line_feed text < length text → lines_of text ≡ front ∷ lines_of back
lines_of-more text front back f b h =
    rw (f, b) (ap whole_lines (slice_split_first is_line_feed text 0 h) ∙ whole_lines-cons (before_first is_line_feed text) (slice_split is_line_feed (after_first is_line_feed text)) (slice_split-some is_line_feed (after_first is_line_feed text)))

last_line-some : (text : List ℕ) → 0 < length text → last_line text ≡ text ∷ []
last_line-some [] h = absurd (omega arith)
last_line-some (b ∷ bs) h = refl

pub lines_of-one : (text : List ℕ) → 0 < length text → position_or_len is_line_feed text ≡ length text → lines_of text ≡ text ∷ []
lines_of-one text some h = ap whole_lines (slice_split_whole is_line_feed text h) ∙ last_line-some text some

-- the words of a line with a space, and of one without
pub words_of-more : (line front back : List ℕ) → front ≡ before_first is_space line → back ≡ after_first is_space line → position_or_len is_space line < length line → words_of line ≡ front ∷ words_of back
words_of-more line front back f b h = rw (f, b) (slice_split_first is_space line 0 h)

pub words_of-one : (line : List ℕ) → position_or_len is_space line ≡ length line → words_of line ≡ line ∷ []
words_of-one line h = slice_split_whole is_space line h
