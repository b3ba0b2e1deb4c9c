-- One item of an array, at marked characters.
use Rattle.std.proofs.Common.{ℕ, ◌-◌, ◌^◌, length, codes, Option}
use Rattle.tera_values.specs.Alphabet.{Marked}
use Rattle.tera_values.specs.Val.{ValOf}
use Rattle.tera_values.specs.Named.{Named}
use Rattle.tera_built_ins.specs.Items as of
use Rattle.tera_meaning.proofs.Marks.Claim.{Claim}
use Rattle.tera_meaning.proofs.Marks.Each.{each-length}
use Rattle.tera_meaning.proofs.Marks.Standing.{Stands, nones, OptionStands, no_value, value, ResultStands, answers}
use Rattle.tera_meaning.proofs.Marks.Moving.{get-stands}
use Rattle.tera_meaning.proofs.Marks.Given.{NamedStand, after-stands, as_array-stands, as_natural-stands, needed-stands}

module _ {K : Claim} where
  or_none-stands : {x : Option (ValOf Marked)} {y : Option (ValOf ℕ)} → OptionStands (Stands K) x y → Stands K (of.or_none x) (of.or_none y)
  or_none-stands no_value = nones
  or_none-stands (value s) = s

  pub first-stands : {v : ValOf Marked} {w : ValOf ℕ} → Stands K v w → ResultStands (Stands K) (of.first_of v) (of.first_of w)
  first-stands s = after-stands (as_array-stands s) (λ vs ws ss. answers (or_none-stands (get-stands 0 ss)))

  pub last-stands : {v : ValOf Marked} {w : ValOf ℕ} → Stands K v w → ResultStands (Stands K) (of.last_of v) (of.last_of w)
  last-stands s = after-stands (as_array-stands s) (λ vs ws ss. rw (each-length ss) (answers (or_none-stands (get-stands (length ws - 1) ss))))

  pub nth-stands : {v : ValOf Marked} {w : ValOf ℕ} → Stands K v w → {given : Named (ValOf Marked)} {others : Named (ValOf ℕ)} → NamedStand K given others → ResultStands (Stands K) (of.nth_of v given) (of.nth_of w others)
  nth-stands s ns =
      after-stands (as_array-stands s) (λ vs ws ss.
      after-stands (needed-stands (λ v w. as_natural-stands (2 ^ 64)) (codes "n") ns) (λ n m e. rw e (answers (or_none-stands (get-stands m ss)))))
