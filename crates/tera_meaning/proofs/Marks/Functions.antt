-- What templates call by name, with marked arguments.
use Rattle.std.proofs.Common.{ℕ, ◌+ℤ◌, ◌*ℤ◌, ℤ, pos, List, [], ◌∷◌, map, codes, refl, Ok}
use Rattle.std.specs.List.{range_with_len}
use Rattle.tera_errors.specs.Fault.{message}
use Rattle.tera_values.specs.Alphabet.{Marked}
use Rattle.tera_values.specs.Named.{Named}
use Rattle.tera_values.specs.Val.{ValOf, int, array, vals}
use Rattle.tera_built_ins.specs.Arguments.{◌▸◌}
use Rattle.tera_built_ins.specs.Functions.{counted, few, stepping, range_of, throw_of}
use Rattle.tera_meaning.proofs.Marks.Claim.{Claim}
use Rattle.tera_meaning.proofs.Marks.Each.{Each, none, more}
use Rattle.tera_meaning.proofs.Marks.Standing.{Stands, ints, arrays, ResultStands, answers, refuses}
use Rattle.tera_meaning.proofs.Marks.Moving.{all-stand}
use Rattle.tera_meaning.proofs.Marks.Given.{NamedStand, after-stands, same-stands, as_text-stands, as_integer-stands, needed-stands, or_default-stands}

module _ {K : Claim} where
  ints-stand : (number : ℕ → ℤ) (positions : List ℕ) → Each (Stands K) (map (λ position. int (number position)) positions) (map (λ position. int (number position)) positions)
  ints-stand number [] = none
  ints-stand number (position ∷ positions) = more (ints (number position)) (ints-stand number positions)

  -- so many numbers, unless they are too many
  listed-stands : (start step : ℤ) (count : ℕ) → ResultStands (Stands K) (few count ▸ λ n. Ok (array (vals (stepping start step n)))) (few count ▸ λ n. Ok (array (vals (stepping start step n))))
  listed-stands start step count = after-stands (same-stands (few count)) (λ m n e.
      rw e (answers (arrays (all-stand (ints-stand (λ (position : ℕ). start +ℤ (step *ℤ pos position)) (range_with_len 0 n))))))

  pub range-stands : {given : Named (ValOf Marked)} {others : Named (ValOf ℕ)} → NamedStand K given others → ResultStands (Stands K) (range_of given) (range_of others)
  range-stands ns =
      after-stands (or_default-stands (λ v w. as_integer-stands) refl (codes "start") ns) (λ a start e.
      after-stands (needed-stands (λ v w. as_integer-stands) (codes "end") ns) (λ b end f.
      after-stands (or_default-stands (λ v w. as_integer-stands) refl (codes "step_by") ns) (λ c step g.
      rw (e, f, g) (after-stands (same-stands (counted start end step)) (λ m n h. rw h (listed-stands start step n))))))

  pub throw-stands : {given : Named (ValOf Marked)} {others : Named (ValOf ℕ)} → NamedStand K given others → ResultStands (Stands K) (throw_of given) (throw_of others)
  throw-stands ns = after-stands (needed-stands (λ v w. as_text-stands) (codes "message") ns) (λ g h k. refuses message)
