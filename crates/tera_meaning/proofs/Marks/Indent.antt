-- Lines moved to the right, at marked characters.
use Rattle.std.proofs.Common.{◌≡◌, ℕ, ◌^◌, Bool, ◌||◌, ◌&&◌, min, codes, List, refl, Option, Ok, Err, Result, if◌then◌else◌}
use Rattle.std.specs.List.{repeat}
use Rattle.tera_errors.specs.Fault.{Fault, message}
use Rattle.tera_values.specs.Alphabet.{Alphabet, Marked, plain, marking, made}
use Rattle.tera_values.specs.Escape.{escape_html}
use Rattle.tera_values.specs.Named.{Named}
use Rattle.tera_values.specs.Val.{ValOf, text}
use Rattle.tera_built_ins.specs.Arguments.{GivenOf}
use Rattle.tera_built_ins.specs.Escaping.{Escaping}
use Rattle.tera_built_ins.specs.Parts.{part, given_safe}
use Rattle.tera_built_ins.specs.Indent as of
use Rattle.tera_meaning.proofs.Marks.Claim.{Claim}
use Rattle.tera_meaning.proofs.Marks.Each.{Each, none, more, one_of, each-append, each-map, each-repeat}
use Rattle.tera_meaning.proofs.Marks.Standing.{Bears, Stands, texts, seen-is, harmless-made, OptionStands, no_value, value, ResultStands, answers, refuses}
use Rattle.tera_meaning.proofs.Marks.Given.{NamedStand, GivenStands, given_texts, after-stands, as_text-stands, as_bool-stands, as_natural-stands, optional-stands, or_default-stands}
use Rattle.tera_meaning.proofs.Marks.Pieces.{each-joined, each-lines, ends_line-same}
use Rattle.tera_meaning.proofs.Marks.Parts.{decodes, part-each, given_safe-same}

module _ {C : Type 0} {R : C → ℕ → Type 0} where
  later_line-each : (blank : Bool) {padding : List C} {by : List ℕ} → Each R padding by → {t : List C} {u : List ℕ} → Each R t u → Each R (of.later_line padding blank t) (of.later_line by blank u)
  later_line-each blank s none = one_of (Each R) blank s none
  later_line-each blank s (more r rs) = each-append s (more r rs)

  moved_lines-each : (first blank : Bool) {padding : List C} {by : List ℕ} → Each R padding by → {ts : List (List C)} {us : List (List ℕ)} → Each (Each R) ts us → Each (Each R) (of.moved_lines padding first blank ts) (of.moved_lines by first blank us)
  moved_lines-each first blank s none = none
  moved_lines-each first blank s (more r rs) =
      more (one_of (Each R) first (each-append s r) r) (each-map _ _ (λ t u r. later_line-each blank s r) rs)

module _ {K : Claim} where
  indented-each : (safe first blank : Bool) {feed padding t : List Marked} {other by u : List ℕ} → Each (Bears K safe) feed other → Each (Bears K safe) padding by → Each (Bears K safe) t u → Each (Bears K safe) (of.indented marking.code feed padding first blank t) (of.indented plain.code other by first blank u)
  indented-each safe first blank f s rs =
      rw (ends_line-same (decodes safe) rs)
      (each-append (each-joined (decodes safe) f (moved_lines-each first blank s (each-lines (decodes safe) rs))) (one_of (Each (Bears K safe)) _ f none))

  character-same : {g : Option (GivenOf Marked)} {h : Option (GivenOf ℕ)} → OptionStands (GivenStands K) g h → of.is_character marking g ≡ of.is_character plain h
  character-same no_value = refl
  character-same (value (given_texts safe rs)) = rw (seen-is safe rs) refl

module _ (view : Escaping) where
  -- the answer, once all is read
  abbrev answer : {C : Type 0} → Alphabet C → GivenOf C → ℕ → Option (GivenOf C) → Bool → Bool → Result (ValOf C) Fault
  answer alphabet g width indentation first blank =
      let safe = view.autoescape && (g.safe || given_safe indentation) in
      let padding = repeat (min width 1000) (of.unit alphabet view safe indentation) in
      let feed = alphabet.spelled made (codes "\n") in
      if of.is_character alphabet indentation
      then Ok (text (of.indented alphabet.code feed padding first blank (part alphabet view safe g)) safe)
      else Err message

module _ {K : Claim} (view : Escaping) (by_html : view.escape ≡ escape_html) where
  unit-each : (safe : Bool) {g : Option (GivenOf Marked)} {h : Option (GivenOf ℕ)} → OptionStands (GivenStands K) g h → Each (Bears K safe) (of.unit marking view safe g) (of.unit plain view safe h)
  unit-each safe no_value = harmless-made safe (codes " ") (refl, tt)
  unit-each safe (value s) = part-each view by_html safe s

  answer-stands : (width : ℕ) (first blank : Bool) {g : GivenOf Marked} {h : GivenOf ℕ} → GivenStands K g h → {indentation : Option (GivenOf Marked)} {other : Option (GivenOf ℕ)} → OptionStands (GivenStands K) indentation other
      → ResultStands (Stands K) (answer view marking g width indentation first blank) (answer view plain h width other first blank)
  answer-stands width first blank (given_texts s rs) {other = other} k =
      let safe = view.autoescape && (s || given_safe other) in
      rw (character-same k) (rw (given_safe-same k)
      (one_of (ResultStands (Stands K)) (of.is_character plain other)
      (answers (texts safe (indented-each safe first blank (harmless-made safe (codes "\n") (refl, tt)) (each-repeat (min width 1000) (unit-each safe k)) (part-each view by_html safe (given_texts s rs)))))
      (refuses message)))

  pub indent-stands : {v : ValOf Marked} {w : ValOf ℕ} → Stands K v w → {given : Named (ValOf Marked)} {others : Named (ValOf ℕ)} → NamedStand K given others → ResultStands (Stands K) (of.indent_of marking view v given) (of.indent_of plain view w others)
  indent-stands s ns =
      after-stands (as_text-stands s) (λ g h k.
      after-stands (or_default-stands (λ v w. as_natural-stands (2 ^ 64)) refl (codes "width") ns) (λ width n e.
      after-stands (optional-stands (λ v w. as_text-stands) (codes "indentation") ns) (λ indentation other l.
      after-stands (or_default-stands (λ v w. as_bool-stands) refl (codes "first") ns) (λ first b e'.
      after-stands (or_default-stands (λ v w. as_bool-stands) refl (codes "blank") ns) (λ blank b' e''.
      rw e (rw e' (rw e'' (answer-stands n b b' k l))))))))
