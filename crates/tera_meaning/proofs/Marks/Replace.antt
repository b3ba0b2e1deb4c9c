-- One text in the place of another, at marked characters.
use Rattle.std.proofs.Common.{◌≡◌, ℕ, ◌||◌, ◌&&◌, codes}
use Rattle.tera_values.specs.Alphabet.{Alphabet, Marked, plain, marking}
use Rattle.tera_values.specs.Escape.{escape_html}
use Rattle.tera_values.specs.Named.{Named}
use Rattle.tera_values.specs.Val.{ValOf, text}
use Rattle.tera_built_ins.specs.Arguments.{GivenOf}
use Rattle.tera_built_ins.specs.Escaping.{Escaping}
use Rattle.tera_built_ins.specs.Parts.{part}
use Rattle.tera_built_ins.specs.Replace.{replaced, replace_of}
use Rattle.tera_meaning.proofs.Marks.Claim.{Claim}
use Rattle.tera_meaning.proofs.Marks.Standing.{Stands, texts, seen-is, ResultStands, answers}
use Rattle.tera_meaning.proofs.Marks.Given.{NamedStand, GivenStands, given_texts, after-stands, as_text-stands, needed-stands}
use Rattle.tera_meaning.proofs.Marks.Pieces.{each-joined, each-pieces}
use Rattle.tera_meaning.proofs.Marks.Parts.{decodes, part-each}

module _ (view : Escaping) where
  -- the answer, once all is read
  abbrev answer : {C : Type 0} → Alphabet C → GivenOf C → GivenOf C → GivenOf C → ValOf C
  answer alphabet g from to =
      let safe = view.autoescape && (g.safe || to.safe) in
      let put = part alphabet view safe in
      text (replaced alphabet.code (alphabet.seen from.text) (put to) (put g)) safe

module _ {K : Claim} (view : Escaping) (by_html : view.escape ≡ escape_html) where
  answer-stands : {g from to : GivenOf Marked} {h other by : GivenOf ℕ} → GivenStands K g h → GivenStands K from other → GivenStands K to by → Stands K (answer view marking g from to) (answer view plain h other by)
  answer-stands (given_texts s rs) (given_texts q {u = pattern} ps) (given_texts r ts) =
      let safe = view.autoescape && (s || r) in
      rw (seen-is q ps)
      (texts safe (each-joined (decodes safe) (part-each view by_html safe (given_texts r ts)) (each-pieces (decodes safe) pattern (part-each view by_html safe (given_texts s rs)))))

  pub replace-stands : {v : ValOf Marked} {w : ValOf ℕ} → Stands K v w → {given : Named (ValOf Marked)} {others : Named (ValOf ℕ)} → NamedStand K given others → ResultStands (Stands K) (replace_of marking view v given) (replace_of plain view w others)
  replace-stands s ns =
      after-stands (as_text-stands s) (λ g h k.
      after-stands (needed-stands (λ v w. as_text-stands) (codes "from") ns) (λ from other l.
      after-stands (needed-stands (λ v w. as_text-stands) (codes "to") ns) (λ to by m. answers (answer-stands k l m))))
