-- Filters of maps, at marked characters.
use Rattle.std.proofs.Common.{ℕ, false, codes, List, Option}
use Rattle.tera_values.specs.Alphabet.{Marked, plain, marking, made}
use Rattle.tera_values.specs.Val.{ValOf, KeyVal, kbool, kint, ktext}
use Rattle.tera_values.specs.Named.{Named}
use Rattle.tera_values.specs.Access.{find}
use Rattle.tera_built_ins.specs.Arguments.{GivenOf}
use Rattle.tera_built_ins.specs.Maps as of
use Rattle.tera_errors.specs.Fault.{message}
use Rattle.tera_meaning.proofs.Marks.Claim.{Claim}
use Rattle.tera_meaning.proofs.Marks.Each.{Each, each-map}
use Rattle.tera_meaning.proofs.Marks.Standing.{Stands, bools, ints, texts, arrays, no_more, one_more, seen-is, unsafe-each, OptionStands, no_value, value, ResultStands, answers, refuses}
use Rattle.tera_meaning.proofs.Marks.Moving.{Pair, all-stand, find-stands}
use Rattle.tera_meaning.proofs.Marks.Given.{NamedStand, GivenStands, given_texts, after-stands, as_map-stands, as_text-stands, as_any-stands, needed-stands, optional-stands}

module _ {K : Claim} where
  pub values-stands : {v : ValOf Marked} {w : ValOf ℕ} → Stands K v w → ResultStands (Stands K) (of.values_of v) (of.values_of w)
  values-stands s = after-stands (as_map-stands s) (λ es fs ss. answers (arrays (all-stand (each-map _ _ (λ e f p. p.1) ss))))

  key_value-stands : (k : KeyVal) → Stands K (of.key_value marking k) (of.key_value plain k)
  key_value-stands (kbool b) = bools b
  key_value-stands (kint z) = ints z
  key_value-stands (ktext t) = texts false (unsafe-each made t)

  key-stands : {e : KeyVal × ValOf Marked} {f : KeyVal × ValOf ℕ} → Pair K e f → Stands K (of.key_value marking e.0) (of.key_value plain f.0)
  key-stands {f = f} p = rw p.0 (key_value-stands f.0)

  pub keys-stands : {v : ValOf Marked} {w : ValOf ℕ} → Stands K v w → ResultStands (Stands K) (of.keys_of marking v) (of.keys_of plain w)
  keys-stands s = after-stands (as_map-stands s) (λ es fs ss. answers (arrays (all-stand (each-map _ _ (λ e f p. key-stands {e = e} {f = f} p) ss))))

  pair-stands : {e : KeyVal × ValOf Marked} {f : KeyVal × ValOf ℕ} → Pair K e f → Stands K (of.pair_of marking e) (of.pair_of plain f)
  pair-stands {e = e} {f = f} p = arrays (one_more (key-stands {e = e} {f = f} p) (one_more p.1 no_more))

  pub pairs-stands : {v : ValOf Marked} {w : ValOf ℕ} → Stands K v w → ResultStands (Stands K) (of.pairs_of marking v) (of.pairs_of plain w)
  pairs-stands s = after-stands (as_map-stands s) (λ es fs ss. answers (arrays (all-stand (each-map _ _ (λ e f p. pair-stands {e = e} {f = f} p) ss))))

  or_else-stands : {x d : Option (ValOf Marked)} {y e : Option (ValOf ℕ)} → OptionStands (Stands K) x y → OptionStands (Stands K) d e → ResultStands (Stands K) (of.or_else x d) (of.or_else y e)
  or_else-stands (value s) t = answers s
  or_else-stands no_value (value t) = answers t
  or_else-stands no_value no_value = refuses message

  found-stands : {key : GivenOf Marked} {other : GivenOf ℕ} → GivenStands K key other → {es : List (KeyVal × ValOf Marked)} {fs : List (KeyVal × ValOf ℕ)} → Each (Pair K) es fs → {d : Option (ValOf Marked)} {e : Option (ValOf ℕ)} → OptionStands (Stands K) d e
      → ResultStands (Stands K) (of.or_else (find (ktext (marking.seen key.text)) es) d) (of.or_else (find (ktext other.text) fs) e)
  found-stands (given_texts safe {u = u} rs) ss t = rw (seen-is safe rs) (or_else-stands (find-stands (ktext u) ss) t)

  pub get-stands : {v : ValOf Marked} {w : ValOf ℕ} → Stands K v w → {given : Named (ValOf Marked)} {others : Named (ValOf ℕ)} → NamedStand K given others → ResultStands (Stands K) (of.get_of marking v given) (of.get_of plain w others)
  get-stands s ns =
      after-stands (as_map-stands s) (λ es fs ss.
      after-stands (needed-stands (λ v w. as_text-stands) (codes "key") ns) (λ key other k.
      after-stands (optional-stands (λ v w. as_any-stands) (codes "default") ns) (λ d e t. found-stands k ss t)))
