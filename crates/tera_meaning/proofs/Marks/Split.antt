-- Marked texts cut into their pieces.
use Rattle.std.proofs.Common.{ℕ, List, [], ◌∷◌, codes}
use Rattle.tera_errors.specs.Site.{Text}
use Rattle.tera_values.specs.Alphabet.{Alphabet, Marked, plain, marking}
use Rattle.tera_values.specs.Named.{Named}
use Rattle.tera_values.specs.Val.{ValOf, array, vals}
use Rattle.tera_built_ins.specs.Arguments.{GivenOf}
use Rattle.tera_built_ins.specs.Pieces.{pieces}
use Rattle.tera_built_ins.specs.Split.{made_texts, split_of}
use Rattle.tera_meaning.proofs.Marks.Claim.{Claim}
use Rattle.tera_meaning.proofs.Marks.Each.{Each, none, more}
use Rattle.tera_meaning.proofs.Marks.Standing.{Stands, arrays, seen-is, ResultStands, answers}
use Rattle.tera_meaning.proofs.Marks.Moving.{all-stand}
use Rattle.tera_meaning.proofs.Marks.Given.{NamedStand, GivenStands, given_texts, after-stands, as_text-stands, needed-stands}
use Rattle.tera_meaning.proofs.Marks.Made.{made-stands}

module _ {K : Claim} where
  made_texts-stand : (ts : List Text) → Each (Stands K) (made_texts marking ts) (made_texts plain ts)
  made_texts-stand [] = none
  made_texts-stand (t ∷ ts) = more (made-stands t) (made_texts-stand ts)

-- the answer, once all is read
abbrev answer : {C : Type 0} → Alphabet C → GivenOf C → GivenOf C → ValOf C
answer alphabet g pattern = array (vals (made_texts alphabet (pieces plain.code (alphabet.seen pattern.text) (alphabet.seen g.text))))

module _ {K : Claim} where
  answer-stands : {g p : GivenOf Marked} {h q : GivenOf ℕ} → GivenStands K g h → GivenStands K p q → Stands K (answer marking g p) (answer plain h q)
  answer-stands (given_texts s {u = u} rs) (given_texts r {u = pattern} ps) =
      rw (seen-is s rs, seen-is r ps) (arrays (all-stand (made_texts-stand (pieces plain.code pattern u))))

  pub split-stands : {v : ValOf Marked} {w : ValOf ℕ} → Stands K v w → {given : Named (ValOf Marked)} {others : Named (ValOf ℕ)} → NamedStand K given others → ResultStands (Stands K) (split_of marking v given) (split_of plain w others)
  split-stands s ns =
      after-stands (as_text-stands s) (λ g h k.
      after-stands (needed-stands (λ v w. as_text-stands) (codes "pat") ns) (λ p q l. answers (answer-stands k l)))
