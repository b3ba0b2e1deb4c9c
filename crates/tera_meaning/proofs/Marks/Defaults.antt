-- What stands in for marked values.
use Rattle.std.proofs.Common.{ℕ, Bool, true, false, cond, not, codes, refl}
use Rattle.tera_values.specs.Access.{is_undefined, truthy}
use Rattle.tera_values.specs.Alphabet.{Marked}
use Rattle.tera_values.specs.Named.{Named}
use Rattle.tera_values.specs.Val.{ValOf}
use Rattle.tera_built_ins.specs.Defaults.{default_of}
use Rattle.tera_meaning.proofs.Marks.Claim.{Claim}
use Rattle.tera_meaning.proofs.Marks.Standing.{Stands, ResultStands, answers}
use Rattle.tera_meaning.proofs.Marks.Moving.{undefined-same, truthy-same}
use Rattle.tera_meaning.proofs.Marks.Given.{NamedStand, after-stands, as_any-stands, as_bool-stands, needed-stands, or_default-stands}

module _ {K : Claim} where
  -- one of two
  chosen-stands : (b : Bool) {a v : ValOf Marked} {c w : ValOf ℕ} → Stands K a c → Stands K v w → Stands K (cond b a v) (cond b c w)
  chosen-stands true s t = s
  chosen-stands false s t = t

  pub default-stands : {v : ValOf Marked} {w : ValOf ℕ} → Stands K v w → {given : Named (ValOf Marked)} {others : Named (ValOf ℕ)} → NamedStand K given others → ResultStands (Stands K) (default_of v given) (default_of w others)
  default-stands {w = w} s ns =
      after-stands (needed-stands (λ v w. as_any-stands) (codes "value") ns) (λ a c k.
      after-stands (or_default-stands (λ v w. as_bool-stands) refl (codes "boolean") ns) (λ b d e.
      rw (e, truthy-same s, undefined-same s) (answers (chosen-stands (cond d (not (truthy w)) (is_undefined w)) k s))))
