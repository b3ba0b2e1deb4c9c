-- Parts of answers, safe ones and others.
use Rattle.std.proofs.Common.{◌≡◌, ℕ, Bool, true, false, List, refl, Option}
use Rattle.tera_values.specs.Alphabet.{Marked, plain, marking}
use Rattle.tera_values.specs.Escape.{escape_html}
use Rattle.tera_built_ins.specs.Arguments.{GivenOf}
use Rattle.tera_built_ins.specs.Escaping.{Escaping, escape_of}
use Rattle.tera_built_ins.specs.Parts as of
use Rattle.tera_meaning.proofs.Marks.Claim.{Claim}
use Rattle.tera_meaning.proofs.Marks.Each.{Each}
use Rattle.tera_meaning.proofs.Marks.Standing.{Bears, seen-is, lowered, escaped-each, OptionStands, no_value, value}
use Rattle.tera_meaning.proofs.Marks.Given.{GivenStands, given_texts}

module _ {K : Claim} where
  -- a character that stands for a byte is of that byte
  pub decodes : (safe : Bool) (c : Marked) (b : ℕ) → Bears K safe c b → c.0 ≡ b
  decodes safe c b r = r.byte

  -- an escape is safe, whatever it is the escape of
  pub escape-each : (view : Escaping) → view.escape ≡ escape_html → (safe : Bool) {t : List Marked} {u : List ℕ} → Each (Bears K safe) t u → Each (Bears K true) (escape_of marking view t) (escape_of plain view u)
  escape-each view by_html safe {u = u} rs = rw (seen-is safe rs) (rw by_html (escaped-each u))

  pub part-each : (view : Escaping) → view.escape ≡ escape_html → (safe : Bool) {g : GivenOf Marked} {h : GivenOf ℕ} → GivenStands K g h → Each (Bears K safe) (of.part marking view safe g) (of.part plain view safe h)
  part-each view by_html false (given_texts s rs) = lowered s rs
  part-each view by_html true (given_texts true rs) = rs
  part-each view by_html true (given_texts false rs) = escape-each view by_html false rs

  pub given_safe-same : {g : Option (GivenOf Marked)} {h : Option (GivenOf ℕ)} → OptionStands (GivenStands K) g h → of.given_safe g ≡ of.given_safe h
  given_safe-same no_value = refl
  given_safe-same (value (given_texts safe rs)) = refl
