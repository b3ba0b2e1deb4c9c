-- What is taken off the ends of marked texts.
use Rattle.std.proofs.Common.{ℕ, ◌-◌, Bool, List, length, codes, Option, Ok}
use Rattle.std.specs.Str.{trim_start, trim_end}
use Rattle.tera_values.specs.Alphabet.{Marked, plain, marking}
use Rattle.tera_values.specs.Named.{Named}
use Rattle.tera_values.specs.Val.{ValOf, text}
use Rattle.tera_built_ins.specs.Arguments.{GivenOf}
use Rattle.tera_built_ins.specs.Trims as of
use Rattle.tera_meaning.proofs.Marks.Claim.{Claim}
use Rattle.tera_meaning.proofs.Marks.Each.{Each, each-take, each-drop}
use Rattle.tera_meaning.proofs.Marks.Standing.{Bears, Stands, texts, seen-is, OptionStands, no_value, value, ResultStands, answers}
use Rattle.tera_meaning.proofs.Marks.Given.{NamedStand, GivenStands, given_texts, after-stands, as_text-stands, optional-stands}
use Rattle.tera_meaning.proofs.Marks.Pieces.{each-trimmed_start, each-trimmed_end}
use Rattle.tera_meaning.proofs.Marks.Parts.{decodes}

-- a way to take something off, of which one stands for the other
abbrev TakesOff : Claim → (Option (GivenOf Marked) → List Marked → List Marked) → (Option (GivenOf ℕ) → List ℕ → List ℕ) → Type 0
TakesOff K f g =
    (p : Option (GivenOf Marked)) (q : Option (GivenOf ℕ)) → OptionStands (GivenStands K) p q → (safe : Bool) (t : List Marked) (u : List ℕ) → Each (Bears K safe) t u → Each (Bears K safe) (f p t) (g q u)

module _ {K : Claim} where
  each-off_start : TakesOff K (of.off_start marking) (of.off_start plain)
  each-off_start p q no_value safe t u rs =
      rw (seen-is safe rs) (each-drop (length u - length (trim_start u)) rs)
  each-off_start p q (value (given_texts s {u = pattern} ps)) safe t u rs = rw (seen-is s ps) (each-trimmed_start (decodes safe) pattern rs)

  each-off_end : TakesOff K (of.off_end marking) (of.off_end plain)
  each-off_end p q no_value safe t u rs = rw (seen-is safe rs) (each-take (length (trim_end u)) rs)
  each-off_end p q (value (given_texts s {u = pattern} ps)) safe t u rs = rw (seen-is s ps) (each-trimmed_end (decodes safe) pattern rs)

  each-off_both : TakesOff K (of.off_both marking) (of.off_both plain)
  each-off_both p q k safe t u rs = each-off_end p q k safe _ _ (each-off_start p q k safe t u rs)

  what_is_left-stands : {f : Option (GivenOf Marked) → List Marked → List Marked} {g : Option (GivenOf ℕ) → List ℕ → List ℕ} → TakesOff K f g → {v : ValOf Marked} {w : ValOf ℕ} → Stands K v w → {given : Named (ValOf Marked)} {others : Named (ValOf ℕ)} → NamedStand K given others → ResultStands (Stands K) (of.what_is_left f v given) (of.what_is_left g w others)
  what_is_left-stands {f} {g} takes s ns =
      after-stands (as_text-stands s) (λ a b k. after-stands (optional-stands (λ v w. as_text-stands) (codes "pat") ns) (λ p q l. left a b k p q l))
    where
      left : (a : GivenOf Marked) (b : GivenOf ℕ) → GivenStands K a b → (p : Option (GivenOf Marked)) (q : Option (GivenOf ℕ)) → OptionStands (GivenStands K) p q → ResultStands (Stands K) (Ok (text (f p a.text) a.safe)) (Ok (text (g q b.text) b.safe))
      left a b (given_texts safe rs) p q l = answers (texts safe (takes p q l safe _ _ rs))

  pub trim-stands : {v : ValOf Marked} {w : ValOf ℕ} → Stands K v w → {given : Named (ValOf Marked)} {others : Named (ValOf ℕ)} → NamedStand K given others → ResultStands (Stands K) (of.trim_of marking v given) (of.trim_of plain w others)
  trim-stands s ns = what_is_left-stands each-off_both s ns

  pub trim_start-stands : {v : ValOf Marked} {w : ValOf ℕ} → Stands K v w → {given : Named (ValOf Marked)} {others : Named (ValOf ℕ)} → NamedStand K given others → ResultStands (Stands K) (of.trim_start_of marking v given) (of.trim_start_of plain w others)
  trim_start-stands s ns = what_is_left-stands each-off_start s ns

  pub trim_end-stands : {v : ValOf Marked} {w : ValOf ℕ} → Stands K v w → {given : Named (ValOf Marked)} {others : Named (ValOf ℕ)} → NamedStand K given others → ResultStands (Stands K) (of.trim_end_of marking v given) (of.trim_end_of plain w others)
  trim_end-stands s ns = what_is_left-stands each-off_end s ns
