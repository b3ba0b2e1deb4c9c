-- Filters of marked integers, and of marked texts that are read as such.
use Rattle.std.proofs.Common.{ℕ, ◌^◌, ◌||◌, ℤ, pos, false, cond, nat_eq, nat_lt, List, codes, refl, Ok}
use Rattle.std.specs.Prelude.{unsigned_abs}
use Rattle.std.specs.Str.Parse.{without_leading_sign, signed_digits_value}
use Rattle.tera_errors.specs.Fault.{message}
use Rattle.tera_values.specs.Access as access
use Rattle.tera_values.specs.Alphabet.{Marked, plain, marking, made, bytes_of}
use Rattle.tera_values.specs.Named.{Named}
use Rattle.tera_values.specs.Number.{in_range}
use Rattle.tera_values.specs.Val.{ValOf}
use Rattle.tera_built_ins.specs.Arguments.{GivenOf, as_bytes}
use Rattle.tera_built_ins.specs.Numbers.{there, kept, abs_of, pluralize_of}
use Rattle.tera_built_ins.specs.Parse.{is_numeral, signed_numeral, numeral_in, integer_of, int_of}
use Rattle.tera_meaning.proofs.Marks.Claim.{Claim}
use Rattle.tera_meaning.proofs.Marks.Standing.{Stands, ints, texts, seen-is, unsafe-each, ResultStands, answers, refuses}
use Rattle.tera_meaning.proofs.Marks.Moving.{int-same}
use Rattle.tera_meaning.proofs.Marks.Operating.{either_result}
use Rattle.tera_meaning.proofs.Marks.Given.{NamedStand, Equals, GivenStands, given_texts, after-stands, same-stands, as_text-stands, as_natural-stands, or_default-stands}

module _ {K : Claim} where
  kept-stands : (z : ℤ) → ResultStands (Stands K) (kept z) (kept z)
  kept-stands z = either_result (Stands K) (in_range z) (answers (ints z)) (refuses message)

  -- the number of a value
  number-same : {v : ValOf Marked} {w : ValOf ℕ} → Stands K v w → ResultStands Equals (there (access.int_of v)) (there (access.int_of w))
  number-same {w = w} s = rw (int-same s) (same-stands (there (access.int_of w)))

  pub abs-stands : {v : ValOf Marked} {w : ValOf ℕ} → Stands K v w → ResultStands (Stands K) (abs_of v) (abs_of w)
  abs-stands s = after-stands (number-same s) (λ y z e. rw e (kept-stands (pos (unsigned_abs z))))

  pub as_bytes-stands : {v : ValOf Marked} {w : ValOf ℕ} → Stands K v w → ResultStands Equals (as_bytes marking v) (as_bytes plain w)
  as_bytes-stands s = after-stands (as_text-stands s) (λ g h k. read g h k)
    where
      read : (g : GivenOf Marked) (h : GivenOf ℕ) → GivenStands K g h → ResultStands Equals (Ok (bytes_of g.text)) (Ok h.text)
      read g h (given_texts safe rs) = answers (seen-is safe rs)

  pub pluralize-stands : {v : ValOf Marked} {w : ValOf ℕ} → Stands K v w → {given : Named (ValOf Marked)} {others : Named (ValOf ℕ)} → NamedStand K given others → ResultStands (Stands K) (pluralize_of marking v given) (pluralize_of plain w others)
  pluralize-stands s ns =
      after-stands (or_default-stands (λ v w. as_bytes-stands) refl (codes "singular") ns) (λ one same e.
      after-stands (or_default-stands (λ v w. as_bytes-stands) refl (codes "plural") ns) (λ more others f.
      after-stands (number-same s) (λ y z g. rw (e, f, g) (answers (texts false (unsafe-each made (cond (nat_eq (unsigned_abs z) 1) same others)))))))

  signed_numeral-stands : (base : ℕ) (t : List ℕ) → ResultStands (Stands K) (signed_numeral base t) (signed_numeral base t)
  signed_numeral-stands base t = either_result (Stands K) (is_numeral base (without_leading_sign t)) (kept-stands (signed_digits_value base t)) (refuses message)

  integer-stands : (base : ℕ) {v : ValOf Marked} {w : ValOf ℕ} → Stands K v w → ResultStands (Stands K) (integer_of marking base v) (integer_of plain base w)
  integer-stands base (ints z) = answers (ints z)
  integer-stands base (texts safe {u = u} rs) = rw (seen-is safe rs) (signed_numeral-stands base (numeral_in base u))
  integer-stands base _ = refuses message

  pub int-stands : {v : ValOf Marked} {w : ValOf ℕ} → Stands K v w → {given : Named (ValOf Marked)} {others : Named (ValOf ℕ)} → NamedStand K given others → ResultStands (Stands K) (int_of marking v given) (int_of plain w others)
  int-stands s ns =
      after-stands (or_default-stands (λ v w. as_natural-stands (2 ^ 32)) refl (codes "base") ns) (λ a base e.
      rw e (either_result (Stands K) (nat_lt base 2 || nat_lt 36 base) (refuses message) (integer-stands base s)))
