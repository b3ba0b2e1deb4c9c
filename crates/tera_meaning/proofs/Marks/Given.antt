-- What a built-in reads of marked values stands for what it reads of the plain ones.
use Rattle.std.proofs.Common.{◌≡◌, ℕ, Bool, List, refl, Option, Result, Ok, Err}
use Rattle.tera_errors.specs.Site.{Name}
use Rattle.tera_errors.specs.Fault.{Fault, invalid_argument, missing_argument}
use Rattle.tera_values.specs.Alphabet.{Marked}
use Rattle.tera_values.specs.Val.{ValOf}
use Rattle.tera_values.specs.Named.{Named}
use Rattle.tera_built_ins.specs.Arguments as spec
use Rattle.tera_built_ins.specs.Arguments.{◌▸◌, GivenOf, below, some_of, optional_of, needed_of, default_of}
use Rattle.tera_meaning.proofs.Marks.Claim.{Claim}
use Rattle.tera_meaning.proofs.Marks.Each.{Each}
use Rattle.tera_meaning.proofs.Marks.Standing.{Stands, bools, ints, texts, arrays, maps, Bears, OptionStands, no_value, value, ResultStands, answers, refuses}
use Rattle.tera_meaning.proofs.Marks.Moving.{Pair, each-stands, pairs-stand}
use Rattle.tera_meaning.proofs.Marks.Around.{Binds, at_name-stands}

-- a text that is given, and is safe or not in both
pub data GivenStands (K : Claim) : GivenOf Marked → GivenOf ℕ → Type 0 where
  given_texts : (safe : Bool) {t : List Marked} {u : List ℕ} → Each (Bears K safe) t u → GivenStands K (record { text = t; safe = safe }) (record { text = u; safe = safe })

-- arguments of the same names, with values that stand
abbrev pub NamedStand : Claim → Named (ValOf Marked) → Named (ValOf ℕ) → Type 0
NamedStand K = Each (Binds K)

-- the very same, of what has no characters
abbrev pub Equals : {A : Type 0} → A → A → Type 0
Equals a b = a ≡ b

module _ {A B A' B' : Type 0} {S : A → A' → Type 0} {T : B → B' → Type 0} where
  -- one after the other
  pub after-stands : {x : Result A Fault} {y : Result A' Fault} {f : A → Result B Fault} {g : A' → Result B' Fault} → ResultStands S x y
      → ((a : A) (b : A') → S a b → ResultStands T (f a) (g b)) → ResultStands T (x ▸ f) (y ▸ g)
  after-stands (answers {a = a} {b = b} s) go = go a b s
  after-stands (refuses fault) go = refuses fault

module _ {K : Claim} where
  pub as_text-stands : {v : ValOf Marked} {w : ValOf ℕ} → Stands K v w → ResultStands (GivenStands K) (spec.as_text v) (spec.as_text w)
  as_text-stands (texts safe rs) = answers (given_texts safe rs)
  as_text-stands _ = refuses invalid_argument

  pub as_array-stands : {v : ValOf Marked} {w : ValOf ℕ} → Stands K v w → ResultStands (Each (Stands K)) (spec.as_array v) (spec.as_array w)
  as_array-stands (arrays ss) = answers (each-stands ss)
  as_array-stands _ = refuses invalid_argument

  pub as_map-stands : {v : ValOf Marked} {w : ValOf ℕ} → Stands K v w → ResultStands (Each (Pair K)) (spec.as_map v) (spec.as_map w)
  as_map-stands (maps ss) = answers (pairs-stand ss)
  as_map-stands _ = refuses invalid_argument

  pub as_integer-stands : {v : ValOf Marked} {w : ValOf ℕ} → Stands K v w → ResultStands Equals (spec.as_integer v) (spec.as_integer w)
  as_integer-stands (ints z) = answers refl
  as_integer-stands _ = refuses invalid_argument

  pub as_bool-stands : {v : ValOf Marked} {w : ValOf ℕ} → Stands K v w → ResultStands Equals (spec.as_bool v) (spec.as_bool w)
  as_bool-stands (bools b) = answers refl
  as_bool-stands _ = refuses invalid_argument

-- an answer that has no characters
pub same-stands : {A : Type 0} (r : Result A Fault) → ResultStands Equals r r
same-stands (Ok a) = answers refl
same-stands (Err fault) = refuses fault

module _ {K : Claim} where
  pub as_natural-stands : (limit : ℕ) {v : ValOf Marked} {w : ValOf ℕ} → Stands K v w → ResultStands Equals (spec.as_natural limit v) (spec.as_natural limit w)
  as_natural-stands limit s = after-stands (as_integer-stands s) (λ a b e. rw e (same-stands (below limit b)))

  pub as_any-stands : {v : ValOf Marked} {w : ValOf ℕ} → Stands K v w → ResultStands (Stands K) (spec.as_any v) (spec.as_any w)
  as_any-stands s = answers s

  -- arguments, by a reading that stands: `needed-stands (λ v w. as_text-stands)`
  module _ {A B : Type 0} {S : A → B → Type 0} {reading : ValOf Marked → Result A Fault} {other : ValOf ℕ → Result B Fault}
      (reads : (v : ValOf Marked) (w : ValOf ℕ) → Stands K v w → ResultStands S (reading v) (other w)) where
    some-stands : {x : Result A Fault} {y : Result B Fault} → ResultStands S x y → ResultStands (OptionStands S) (some_of x) (some_of y)
    some-stands (answers s) = answers (value s)
    some-stands (refuses fault) = refuses fault

    optional_of-stands : {x : Option (ValOf Marked)} {y : Option (ValOf ℕ)} → OptionStands (Stands K) x y → ResultStands (OptionStands S) (optional_of reading x) (optional_of other y)
    optional_of-stands no_value = answers no_value
    optional_of-stands (value {a = v} {b = w} s) = some-stands (reads v w s)

    needed_of-stands : {x : Option (ValOf Marked)} {y : Option (ValOf ℕ)} → OptionStands (Stands K) x y → ResultStands S (needed_of reading x) (needed_of other y)
    needed_of-stands no_value = refuses missing_argument
    needed_of-stands (value {a = v} {b = w} s) = reads v w s

    default_of-stands : {a : A} {b : B} → S a b → {x : Option (ValOf Marked)} {y : Option (ValOf ℕ)} → OptionStands (Stands K) x y → ResultStands S (default_of a reading x) (default_of b other y)
    default_of-stands d no_value = answers d
    default_of-stands d (value {a = v} {b = w} s) = reads v w s

    pub optional-stands : (name : Name) {given : Named (ValOf Marked)} {others : Named (ValOf ℕ)} → NamedStand K given others → ResultStands (OptionStands S) (spec.optional reading name given) (spec.optional other name others)
    optional-stands name ss = optional_of-stands (at_name-stands name ss)

    pub needed-stands : (name : Name) {given : Named (ValOf Marked)} {others : Named (ValOf ℕ)} → NamedStand K given others → ResultStands S (spec.needed reading name given) (spec.needed other name others)
    needed-stands name ss = needed_of-stands (at_name-stands name ss)

    pub or_default-stands : {a : A} {b : B} → S a b → (name : Name) {given : Named (ValOf Marked)} {others : Named (ValOf ℕ)} → NamedStand K given others → ResultStands S (spec.or_default a reading name given) (spec.or_default b other name others)
    or_default-stands d name ss = default_of-stands d (at_name-stands name ss)
