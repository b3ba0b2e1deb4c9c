-- The lines of a body, as the text is walked line by line.
use Rattle.std.proofs.Common.{◌≡◌, ◌≢◌, ℕ, ◌+◌, ◌-◌, ◌<◌, suc, true, false, List, [], ◌∷◌, ◌++◌, length, take, drop, get_or, codes, Some, None, Option, refl, sym, ap, ◌∙◌, arith, ⊎_elim, append_assoc, append-nil, length-append, length-drop}
use Rattle.std.proofs.Math.Seq.{get_or-append_seam, take-append_seam, drop-append-add}
use Rattle.std.proofs.lemmas.Bool.{cases_Bool}
use Rattle.std.proofs.lemmas.Str.{IsCharBoundary-start, IsCharBoundary-before_ascii}
use Rattle.std.specs.Str.{IsUtf8, IsCharBoundary}
use Rattle.tera_run_script.specs.declared.body.CommandBody.{CommandBody}
use Rattle.std.proofs.lemmas.List.Splits.{join_with_byte-slice_split, slice_split_first}
use Rattle.std.specs.List.{slice_split, join_with_byte, before_first, after_first, position_or_len}
use Rattle.std.specs.Option.{option_map}
use Rattle.tera_run_script.specs.Body.{Passed, Ended, IsBody}
use Rattle.tera_run_script.specs.Lines.{is_line_feed, lines_of, whole_lines, last_line, joined}
use Rattle.tera_run_script.specs.Script.{body_lines, ends_body}
use Rattle.tera_run_script.proofs.Splits.{slice_split-some, slice_split_whole}

body_lines-no : (line : List ℕ) (lines : List (List ℕ)) → ends_body line ≡ false → body_lines (line ∷ lines) ≡ option_map (λ body. line ∷ body) (body_lines lines)
body_lines-no line lines h = rw h

body_lines-yes : (line : List ℕ) (lines : List (List ℕ)) → ends_body line ≡ true → body_lines (line ∷ lines) ≡ Some []
body_lines-yes line lines h = rw h

option_map-none : {A B : Type 0} (f : A → B) (o : Option A) → option_map f o ≡ None → o ≡ None
option_map-none f None h = refl
option_map-none f (Some x) h = cc

-- a line that ends no body, and what the lines behind it do
record Unended (line : List ℕ) (lines : List (List ℕ)) : Type 0 where
  here : ends_body line ≡ false
  later : body_lines lines ≡ None

unended : (line : List ℕ) (lines : List (List ℕ)) → body_lines (line ∷ lines) ≡ None → Unended line lines
unended line lines h =
    ⊎_elim
    (λ yes. let e = body_lines-yes line lines yes in cc)
    (λ no. record { here = no; later = option_map-none (λ body. line ∷ body) (body_lines lines) (sym (body_lines-no line lines no) ∙ h) })
    (cases_Bool (ends_body line))

option_map-twice : {A B C : Type 0} (f : B → C) (g : A → B) (o : Option A) → option_map f (option_map g o) ≡ option_map (λ x. f (g x)) o
option_map-twice f g None = refl
option_map-twice f g (Some x) = refl

option_map-same : {A : Type 0} (o : Option A) → o ≡ option_map (λ x. x) o
option_map-same None = refl
option_map-same (Some x) = refl

-- lines that end no body go before the body of what follows
pub body_lines-append : (front more : List (List ℕ)) → body_lines front ≡ None → body_lines (front ++ more) ≡ option_map (λ body. front ++ body) (body_lines more)
body_lines-append [] more h = option_map-same (body_lines more)
body_lines-append (line ∷ front) more h =
    let u = unended line front h in
    body_lines-no line (front ++ more) u.here
    ∙ ap (option_map (λ body. line ∷ body)) (body_lines-append front more u.later)
    ∙ option_map-twice (λ body. line ∷ body) (λ body. front ++ body) (body_lines more)

whole_lines-cons : (part : List ℕ) (parts : List (List ℕ)) → parts ≢ [] → whole_lines (part ∷ parts) ≡ part ∷ whole_lines parts
whole_lines-cons part [] h = absurd (h refl)
whole_lines-cons part (next ∷ parts) h = refl

append-some : {A : Type 0} (xs ys : List A) → ys ≢ [] → xs ++ ys ≢ []
append-some [] ys h e = h e
append-some (x ∷ xs) ys h e = cc

whole_lines-append : (front parts : List (List ℕ)) → parts ≢ [] → whole_lines (front ++ parts) ≡ front ++ whole_lines parts
whole_lines-append [] parts h = refl
whole_lines-append (part ∷ front) parts h =
    whole_lines-cons part (front ++ parts) (append-some front parts h) ∙ ap (λ lines. part ∷ lines) (whole_lines-append front parts h)

-- the lines of a text of which some are passed
pub lines_of-passed : (text after : List ℕ) (count : ℕ) (p : Passed text after count) → lines_of text ≡ p.front ++ lines_of after
lines_of-passed text after count p =
    ap whole_lines p.parts ∙ whole_lines-append p.front (slice_split is_line_feed after) (slice_split-some is_line_feed after)

pub passed_none : (text : List ℕ) → Passed text text 0
passed_none text = record { front = []; parts = refl; counted = refl; unended = refl; room = omega arith }

-- one line more
pub passed_one : (text after line rest : List ℕ) (count : ℕ) → Passed text after count → line ≡ before_first is_line_feed after → rest ≡ after_first is_line_feed after → position_or_len is_line_feed after < length after → ends_body line ≡ false → Passed text rest (count + 1)
passed_one text after line rest count p f b here unlike = record {
  front = p.front ++ line ∷ [];
  parts = p.parts ∙ ap (λ parts. p.front ++ parts) (rw (f, b) (slice_split_first is_line_feed after 0 here)) ∙ sym (append_assoc p.front (line ∷ []) (slice_split is_line_feed rest));
  counted = length-append p.front (line ∷ []) ∙ ap (λ n. n + 1) p.counted;
  unended = body_lines-append p.front (line ∷ []) p.unended ∙ ap (option_map (λ body. p.front ++ body)) (body_lines-no line [] unlike);
  room = omega (arith, p.room, ap length b, length-drop (position_or_len is_line_feed after + 1) after);
}

join-append : (line : List ℕ) (front more : List (List ℕ)) → more ≢ [] → join_with_byte 10 ((line ∷ front) ++ more) ≡ join_with_byte 10 (line ∷ front) ++ (10 ∷ join_with_byte 10 more)
join-append line [] [] h = absurd (h refl)
join-append line [] (next ∷ more) h = refl
join-append line (next ∷ front) more h =
    ap (λ bytes. line ++ (10 ∷ bytes)) (join-append next front more h)
    ∙ sym (append_assoc line (10 ∷ join_with_byte 10 (next ∷ front)) (10 ∷ join_with_byte 10 more))

-- the bytes passed: none, or those of the lines and a line feed
pub data Cut (text after : List ℕ) (front : List (List ℕ)) : Type 0 where
  at_start : front ≡ [] → text ≡ after → Cut text after front
  behind : text ≡ joined front ++ (10 ∷ after) → Cut text after front

cut_of : (text after : List ℕ) (front : List (List ℕ)) → slice_split is_line_feed text ≡ front ++ slice_split is_line_feed after → Cut text after front
cut_of text after [] h =
    at_start refl (sym (join_with_byte-slice_split 10 text) ∙ ap (join_with_byte 10) h ∙ join_with_byte-slice_split 10 after)
cut_of text after (line ∷ front) h =
    behind (sym (join_with_byte-slice_split 10 text) ∙ ap (join_with_byte 10) h
    ∙ join-append line front (slice_split is_line_feed after) (slice_split-some is_line_feed after)
    ∙ ap (λ bytes. join_with_byte 10 (line ∷ front) ++ (10 ∷ bytes)) (join_with_byte-slice_split 10 after))

-- where the text may be cut behind the lines that were passed
pub boundary_passed : (text after : List ℕ) (front : List (List ℕ)) → IsUtf8 text → slice_split is_line_feed text ≡ front ++ slice_split is_line_feed after → IsCharBoundary text (length text - length after - 1)
boundary_passed text after front utf8 h =
    elim (cut_of text after front h) [
      | at_start none same ↦
          let zero : length text - length after - 1 ≡ 0 = omega (arith, ap length same) in
          rw zero (IsCharBoundary-start text utf8)
      | behind same ↦
          let size : length text ≡ length (joined front) + suc (length after) = ap length same ∙ length-append (joined front) (10 ∷ after) in
          let position : length text - length after - 1 ≡ length (joined front) = omega arith in
          let byte : get_or text (length (joined front)) 0 ≡ 10 = ap (λ bytes. get_or bytes (length (joined front)) 0) same ∙ get_or-append_seam (joined front) 10 after 0 in
          rw position (IsCharBoundary-before_ascii text (length (joined front)) (omega arith) (omega arith))
    ]

-- what was passed, without the last line feed
pub take_passed : (text after : List ℕ) (front : List (List ℕ)) → slice_split is_line_feed text ≡ front ++ slice_split is_line_feed after → take (length text - length after - 1) text ≡ joined front
take_passed text after front h =
    elim (cut_of text after front h) [
      | at_start none same ↦
          let zero : length text - length after - 1 ≡ 0 = omega (arith, ap length same) in
          rw (zero, none) refl
      | behind same ↦
          let size : length text ≡ length (joined front) + suc (length after) = ap length same ∙ length-append (joined front) (10 ∷ after) in
          let position : length text - length after - 1 ≡ length (joined front) = omega arith in
          rw position (ap (take (length (joined front))) same ∙ take-append_seam (joined front) (10 ∷ after))
    ]

last_unended : (after : List ℕ) → ends_body after ≡ false → body_lines (last_line after) ≡ None
last_unended [] h = refl
last_unended (b ∷ bs) h = body_lines-no (b ∷ bs) [] h

-- no line of the text ends the body
pub body_unended : (text after : List ℕ) (count : ℕ) → Passed text after count → position_or_len is_line_feed after ≡ length after → ends_body after ≡ false → body_lines (lines_of text) ≡ None
body_unended text after count p whole unlike =
    ap body_lines (lines_of-passed text after count p ∙ ap (λ parts. p.front ++ whole_lines parts) (slice_split_whole is_line_feed after whole))
    ∙ body_lines-append p.front (last_line after) p.unended
    ∙ ap (option_map (λ body. p.front ++ body)) (last_unended after unlike)

-- the body whose lines were passed
pub body_ended : (text after : List ℕ) (count : ℕ) (rest : List ℕ) (body : CommandBody) → Ended text after count rest → body.text.now ≡ take (length text - length after - 1) text → body.lines ≡ count + 1 → body.rest.now ≡ rest → IsBody text body
body_ended text after count rest body e cut lines follows =
    let p = e.passed in
    let all : lines_of text ≡ p.front ++ codes "@@ end" ∷ lines_of rest = lines_of-passed text after count p ∙ ap (λ lines. p.front ++ lines) e.last in
    record {
      lines = p.front;
      found = ap body_lines all ∙ body_lines-append p.front (codes "@@ end" ∷ lines_of rest) p.unended ∙ ap Some (append-nil p.front);
      is_text = cut ∙ take_passed text after p.front p.parts;
      counted = lines ∙ ap (λ n. n + 1) (sym p.counted);
      follows = ap lines_of follows ∙ sym (ap (λ n. drop n (lines_of text)) (lines ∙ ap (λ n. n + 1) (sym p.counted)) ∙ ap (drop (length p.front + 1)) all ∙ drop-append-add p.front (codes "@@ end" ∷ lines_of rest) 1);
      room = omega (arith, p.room, e.room, ap length follows);
    }
