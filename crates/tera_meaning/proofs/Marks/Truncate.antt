-- Marked texts cut short.
use Rattle.std.proofs.Common.{ℕ, ◌^◌, codes, refl}
use Rattle.tera_values.specs.Alphabet.{Marked, plain, marking}
use Rattle.tera_values.specs.Named.{Named}
use Rattle.tera_values.specs.Val.{ValOf}
use Rattle.tera_built_ins.specs.Truncate.{truncated, truncate_of}
use Rattle.tera_meaning.proofs.Marks.Claim.{Claim}
use Rattle.tera_meaning.proofs.Marks.Standing.{Stands, ResultStands, answers}
use Rattle.tera_meaning.proofs.Marks.Given.{NamedStand, after-stands, as_text-stands, as_natural-stands, needed-stands, or_default-stands}
use Rattle.tera_meaning.proofs.Marks.Numbers.{as_bytes-stands}
use Rattle.tera_meaning.proofs.Marks.Made.{made_from-stands}

module _ {K : Claim} where
  pub truncate-stands : {v : ValOf Marked} {w : ValOf ℕ} → Stands K v w → {given : Named (ValOf Marked)} {others : Named (ValOf ℕ)} → NamedStand K given others → ResultStands (Stands K) (truncate_of marking v given) (truncate_of plain w others)
  truncate-stands s ns =
      after-stands (as_text-stands s) (λ g h k.
      after-stands (needed-stands (λ v w. as_natural-stands (2 ^ 64)) (codes "length") ns) (λ n m same.
      after-stands (or_default-stands (λ v w. as_bytes-stands) refl (codes "end") ns) (λ one other e. rw (same, e) (answers (made_from-stands (truncated m other) k)))))
