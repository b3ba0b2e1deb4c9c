-- Texts that are made of others, and are not safe.
use Rattle.std.proofs.Common.{ℕ, false}
use Rattle.tera_errors.specs.Site.{Text}
use Rattle.tera_values.specs.Alphabet.{Marked, plain, marking, made}
use Rattle.tera_values.specs.Val.{text}
use Rattle.tera_built_ins.specs.Arguments.{GivenOf}
use Rattle.tera_meaning.proofs.Marks.Claim.{Claim}
use Rattle.tera_meaning.proofs.Marks.Standing.{Stands, texts, seen-is, unsafe-each}
use Rattle.tera_meaning.proofs.Marks.Given.{GivenStands, given_texts}

module _ {K : Claim} where
  pub made-stands : (t : Text) → Stands K (text (marking.spelled made t) false) (text (plain.spelled made t) false)
  made-stands t = texts false (unsafe-each made t)

  -- what is made of a text that is given
  pub made_from-stands : (f : Text → Text) {g : GivenOf Marked} {h : GivenOf ℕ} → GivenStands K g h → Stands K (text (marking.spelled made (f (marking.seen g.text))) false) (text (plain.spelled made (f (plain.seen h.text))) false)
  made_from-stands f (given_texts safe {u = u} rs) = rw (seen-is safe rs) (made-stands (f u))
