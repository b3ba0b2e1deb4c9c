-- What `is` says of marked values.
use Rattle.std.proofs.Common.{◌≡◌, ℕ, ℤ, pos, Bool, not, codes, refl, ap, Ok}
use Rattle.tera_values.specs.Alphabet.{Marked, plain, marking, bytes_of}
use Rattle.tera_values.specs.Named.{Named}
use Rattle.tera_values.specs.Slices.{contains}
use Rattle.tera_values.specs.Val.{Val, ValOf}
use Rattle.tera_built_ins.specs.Arguments.{GivenOf}
use Rattle.tera_built_ins.specs.Tests as of
use Rattle.tera_meaning.proofs.Marks.Claim.{Claim}
use Rattle.tera_meaning.proofs.Marks.Standing.{Stands, seen-is, bare-is, ResultStands, answers}
use Rattle.tera_meaning.proofs.Marks.Moving.{undefined-same}
use Rattle.tera_meaning.proofs.Marks.Given.{NamedStand, Equals, GivenStands, given_texts, after-stands, same-stands, as_text-stands, as_any-stands, as_integer-stands, needed-stands}

module _ {K : Claim} where
  given-same : {g : GivenOf Marked} {h : GivenOf ℕ} → GivenStands K g h → bytes_of g.text ≡ h.text
  given-same (given_texts safe rs) = seen-is safe rs

  -- what is asked of a value without its marks
  pub bare-stands : (holds : Val → Bool) {v : ValOf Marked} {w : ValOf ℕ} → Stands K v w → ResultStands Equals (Ok (holds (marking.bare v))) (Ok (holds w))
  bare-stands holds s = answers (ap holds (bare-is s))

  module _ {v : ValOf Marked} {w : ValOf ℕ} (s : Stands K v w) {given : Named (ValOf Marked)} {others : Named (ValOf ℕ)} (ns : NamedStand K given others) where
    pub defined-stands : ResultStands Equals (of.defined_test marking v given) (of.defined_test plain w others)
    defined-stands = answers (ap not (undefined-same s))

    pub undefined-stands : ResultStands Equals (of.undefined_test marking v given) (of.undefined_test plain w others)
    undefined-stands = answers (undefined-same s)

    pub odd-stands : ResultStands Equals (of.odd_test marking v given) (of.odd_test plain w others)
    odd-stands = after-stands (as_integer-stands s) (λ y z e. answers (ap (λ (n : ℤ). not (of.divides (pos 2) n)) e))

    pub even-stands : ResultStands Equals (of.even_test marking v given) (of.even_test plain w others)
    even-stands = after-stands (as_integer-stands s) (λ y z e. answers (ap (λ (n : ℤ). of.divides (pos 2) n) e))

    pub divisible_by-stands : ResultStands Equals (of.divisible_by_test marking v given) (of.divisible_by_test plain w others)
    divisible_by-stands =
        after-stands (as_integer-stands s) (λ y z e.
        after-stands (needed-stands (λ v w. as_integer-stands) (codes "divisor") ns) (λ c d f. rw (e, f) (answers refl)))

    pub starting_with-stands : ResultStands Equals (of.starting_with_test marking v given) (of.starting_with_test plain w others)
    starting_with-stands =
        after-stands (as_text-stands s) (λ g h k.
        after-stands (needed-stands (λ v w. as_text-stands) (codes "pat") ns) (λ p q l. rw (given-same k, given-same l) (answers refl)))

    pub ending_with-stands : ResultStands Equals (of.ending_with_test marking v given) (of.ending_with_test plain w others)
    ending_with-stands =
        after-stands (as_text-stands s) (λ g h k.
        after-stands (needed-stands (λ v w. as_text-stands) (codes "pat") ns) (λ p q l. rw (given-same k, given-same l) (answers refl)))

    pub containing-stands : ResultStands Equals (of.containing_test marking v given) (of.containing_test plain w others)
    containing-stands =
        after-stands (needed-stands (λ v w. as_any-stands) (codes "pat") ns) (λ p q l. rw (bare-is s, bare-is l) (same-stands (contains w q)))
