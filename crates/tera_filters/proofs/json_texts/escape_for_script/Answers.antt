use Rattle.std.proofs.Common.{◌≡◌, ◌+◌, ◌≤◌, ◌++◌, ◌∷◌, [], codes, length, string_bytes, arith, ap, sym, ◌∙◌}
use Rattle.std.specs.Char.{encode_utf8}
use Rattle.std.specs.Str.{chars}
use Rattle.std.proofs.lemmas.Bool.Decides.{nat_tests}
use Rattle.std.proofs.lemmas.Iterator.{YieldsList-from_chars}
use Rattle.std.proofs.lemmas.Iterator.Consumers.{YieldsList-turn, YieldsList-end}
use Rattle.std.proofs.lemmas.List.{length_push}
use Rattle.tera_filters.specs.JsonTexts.{script_char, for_script}
use Rattle.tera_filters.proofs.Scripted.{letter-put, script-end}
use Rattle.tera_filters.proofs.json_texts.escape_for_script.Goals as goal

pub loop-letter-preserved-in-Continue-1 : goal.loop-letter-preserved-in-Continue-1
loop-letter-preserved-in-Continue-1 c =
    let at = YieldsList-turn (YieldsList-from_chars c.args.text.now c.utf8.text cc) c.loop-letter.yielded _ c.loop-letter.yielded_by _ _ c.in-Some.letter c.in-Some.is c.next.ensures.steps in
    let more : length (c.loop-letter.yielded ++ c.in-Some.letter ∷ []) ≡ length c.loop-letter.yielded + 1 = length_push c.loop-letter.yielded c.in-Some.letter in
    let letter : 60 ≡ c.in-Some.letter = cc in
    let is : codes "\\u003c" ≡ script_char c.in-Some.letter = ap script_char letter in
    letter-put (string_bytes c.loop-letter.escaped) (string_bytes c.push_str.new.self) (codes "\\u003c") (for_script c.args.text.now) (chars c.args.text.now) (length c.loop-letter.yielded) _ c.in-Some.letter at more c.in_ok-push_str-in-60.ensures.bytes is c.loop-letter.invariant

pub loop-letter-preserved-in-Continue-branch-2 : goal.loop-letter-preserved-in-Continue-branch-2
loop-letter-preserved-in-Continue-branch-2 c =
    let at = YieldsList-turn (YieldsList-from_chars c.args.text.now c.utf8.text cc) c.loop-letter.yielded _ c.loop-letter.yielded_by _ _ c.in-Some.letter c.in-Some.is c.next.ensures.steps in
    let more : length (c.loop-letter.yielded ++ c.in-Some.letter ∷ []) ≡ length c.loop-letter.yielded + 1 = length_push c.loop-letter.yielded c.in-Some.letter in
    let letter : 62 ≡ c.in-Some.letter = cc in
    let is : codes "\\u003e" ≡ script_char c.in-Some.letter = ap script_char letter in
    letter-put (string_bytes c.loop-letter.escaped) (string_bytes c.push_str-in-62.new.self) (codes "\\u003e") (for_script c.args.text.now) (chars c.args.text.now) (length c.loop-letter.yielded) _ c.in-Some.letter at more c.in_ok-push_str-in-62.ensures.bytes is c.loop-letter.invariant

pub loop-letter-preserved-in-Continue-branch-3 : goal.loop-letter-preserved-in-Continue-branch-3
loop-letter-preserved-in-Continue-branch-3 c =
    let at = YieldsList-turn (YieldsList-from_chars c.args.text.now c.utf8.text cc) c.loop-letter.yielded _ c.loop-letter.yielded_by _ _ c.in-Some.letter c.in-Some.is c.next.ensures.steps in
    let more : length (c.loop-letter.yielded ++ c.in-Some.letter ∷ []) ≡ length c.loop-letter.yielded + 1 = length_push c.loop-letter.yielded c.in-Some.letter in
    let letter : 38 ≡ c.in-Some.letter = cc in
    let is : codes "\\u0026" ≡ script_char c.in-Some.letter = ap script_char letter in
    letter-put (string_bytes c.loop-letter.escaped) (string_bytes c.push_str-in-38.new.self) (codes "\\u0026") (for_script c.args.text.now) (chars c.args.text.now) (length c.loop-letter.yielded) _ c.in-Some.letter at more c.in_ok-push_str-in-38.ensures.bytes is c.loop-letter.invariant

pub loop-letter-preserved-in-Continue-branch-4 : goal.loop-letter-preserved-in-Continue-branch-4
loop-letter-preserved-in-Continue-branch-4 c =
    let at = YieldsList-turn (YieldsList-from_chars c.args.text.now c.utf8.text cc) c.loop-letter.yielded _ c.loop-letter.yielded_by _ _ c.in-Some.letter c.in-Some.is c.next.ensures.steps in
    let more : length (c.loop-letter.yielded ++ c.in-Some.letter ∷ []) ≡ length c.loop-letter.yielded + 1 = length_push c.loop-letter.yielded c.in-Some.letter in
    let letter : 39 ≡ c.in-Some.letter = cc in
    let is : codes "\\u0027" ≡ script_char c.in-Some.letter = ap script_char letter in
    letter-put (string_bytes c.loop-letter.escaped) (string_bytes c.push_str-in-39.new.self) (codes "\\u0027") (for_script c.args.text.now) (chars c.args.text.now) (length c.loop-letter.yielded) _ c.in-Some.letter at more c.in_ok-push_str-in-39.ensures.bytes is c.loop-letter.invariant

pub loop-letter-preserved : goal.loop-letter-preserved
loop-letter-preserved c =
    let at = YieldsList-turn (YieldsList-from_chars c.args.text.now c.utf8.text cc) c.loop-letter.yielded _ c.loop-letter.yielded_by _ _ c.in-Some.letter c.in-Some.is c.next.ensures.steps in
    let more : length (c.loop-letter.yielded ++ c.in-Some.letter ∷ []) ≡ length c.loop-letter.yielded + 1 = length_push c.loop-letter.yielded c.in-Some.letter in
    let is : encode_utf8 c.in-Some.letter ≡ script_char c.in-Some.letter = grind (arith, nat_tests) in
    letter-put (string_bytes c.loop-letter.escaped) (string_bytes c.push.new.self) (encode_utf8 c.in-Some.letter) (for_script c.args.text.now) (chars c.args.text.now) (length c.loop-letter.yielded) _ c.in-Some.letter at more c.in_ok-push-in_default.ensures.bytes is c.loop-letter.invariant

pub returns : goal.returns
returns c =
    let t = YieldsList-end (YieldsList-from_chars c.args.text.now c.utf8.text cc) c.loop-letter.yielded _ c.loop-letter.yielded_by _ _ c.in-None.is c.next.ensures.steps in
    let ended : length (chars c.args.text.now) ≤ length c.loop-letter.yielded = omega (arith, t.1) in
    sym (script-end (string_bytes c.loop-letter.escaped) (chars c.args.text.now) (length c.loop-letter.yielded) ended) ∙ c.loop-letter.invariant
