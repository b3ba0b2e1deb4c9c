-- How much marked values hold, and what they hold the other way round.
use Rattle.std.proofs.Common.{ℕ, pos, reverse, Option, Some, None}
use Rattle.std.specs.Str.{chars, encode_utf8_all}
use Rattle.tera_errors.specs.Fault.{message}
use Rattle.tera_values.specs.Access.{count}
use Rattle.tera_values.specs.Alphabet.{Marked, plain, marking}
use Rattle.tera_values.specs.Val.{ValOf}
use Rattle.tera_built_ins.specs.Sizes.{number_or_refused, length_of, reverse_of}
use Rattle.tera_meaning.proofs.Marks.Claim.{Claim}
use Rattle.tera_meaning.proofs.Marks.Each.{each-reverse}
use Rattle.tera_meaning.proofs.Marks.Standing.{Stands, ints, texts, arrays, seen-is, bare-is, ResultStands, answers, refuses}
use Rattle.tera_meaning.proofs.Marks.Moving.{each-stands, all-stand}
use Rattle.tera_meaning.proofs.Marks.Made.{made-stands}

module _ {K : Claim} where
  number-stands : (n : Option ℕ) → ResultStands (Stands K) (number_or_refused n) (number_or_refused n)
  number-stands (Some n) = answers (ints (pos n))
  number-stands None = refuses message

  pub length-stands : {v : ValOf Marked} {w : ValOf ℕ} → Stands K v w → ResultStands (Stands K) (length_of marking v) (length_of plain w)
  length-stands {w = w} s = rw (bare-is s) (number-stands (count w))

  pub reverse-stands : {v : ValOf Marked} {w : ValOf ℕ} → Stands K v w → ResultStands (Stands K) (reverse_of marking v) (reverse_of plain w)
  reverse-stands (texts safe {u = u} rs) = rw (seen-is safe rs) (answers (made-stands (encode_utf8_all (reverse (chars u)))))
  reverse-stands (arrays ss) = answers (arrays (all-stand (each-reverse (each-stands ss))))
  reverse-stands _ = refuses message
