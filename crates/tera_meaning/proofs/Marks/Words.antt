-- The words of marked texts.
use Rattle.std.proofs.Common.{ℕ, pos}
use Rattle.tera_values.specs.Alphabet.{Marked, plain, marking}
use Rattle.tera_values.specs.Val.{ValOf, int}
use Rattle.tera_built_ins.specs.Arguments.{GivenOf}
use Rattle.tera_built_ins.specs.Words.{word_count, wordcount_of}
use Rattle.tera_meaning.proofs.Marks.Claim.{Claim}
use Rattle.tera_meaning.proofs.Marks.Standing.{Stands, ints, seen-is, ResultStands, answers}
use Rattle.tera_meaning.proofs.Marks.Given.{GivenStands, given_texts, after-stands, as_text-stands}

module _ {K : Claim} where
  count-stands : {g : GivenOf Marked} {h : GivenOf ℕ} → GivenStands K g h → Stands K (int (pos (word_count (marking.seen g.text)))) (int (pos (word_count (plain.seen h.text))))
  count-stands (given_texts safe {u = u} rs) = rw (seen-is safe rs) (ints (pos (word_count u)))

  pub wordcount-stands : {v : ValOf Marked} {w : ValOf ℕ} → Stands K v w → ResultStands (Stands K) (wordcount_of marking v) (wordcount_of plain w)
  wordcount-stands s = after-stands (as_text-stands s) (λ g h k. answers (count-stands k))
