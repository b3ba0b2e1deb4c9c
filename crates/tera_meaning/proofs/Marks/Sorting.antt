-- Arrays in order, and without repetitions, at marked characters.
use Rattle.std.proofs.Common.{◌≡◌, ℕ, Bool, not, codes, List, map, Option, Result, Ok, Err, refl}
use Rattle.std.specs.List.{filter}
use Rattle.tera_errors.specs.Fault.{Fault, message}
use Rattle.tera_values.specs.Alphabet.{Marked, plain, marking}
use Rattle.tera_values.specs.Named.{Named}
use Rattle.tera_values.specs.Order.{same}
use Rattle.tera_values.specs.Val.{Val, ValOf}
use Rattle.tera_built_ins.specs.Arguments.{◌▸◌, GivenOf}
use Rattle.tera_built_ins.specs.Attributes.{all_of, attribute_or_itself}
use Rattle.tera_built_ins.specs.Sorting as of
use Rattle.tera_meaning.proofs.Marks.Claim.{Claim}
use Rattle.tera_meaning.proofs.Marks.Each.{Each, none, more, one_of, each-map}
use Rattle.tera_meaning.proofs.Marks.Standing.{Stands, arrays, no_more, seen-is, bare-is, OptionStands, no_value, value, ResultStands, answers, refuses}
use Rattle.tera_meaning.proofs.Marks.Moving.{all-stand}
use Rattle.tera_meaning.proofs.Marks.Given.{NamedStand, GivenStands, given_texts, after-stands, as_array-stands, as_text-stands, optional-stands}

-- what each gives
pub all_of-stands : {A B A' B' : Type 0} {R : A → A' → Type 0} {S : B → B' → Type 0} {f : A → Result B Fault} {g : A' → Result B' Fault}
    → ((x : A) (y : A') → R x y → ResultStands S (f x) (g y)) → {xs : List A} {ys : List A'} → Each R xs ys → ResultStands (Each S) (all_of f xs) (all_of g ys)
all_of-stands h none = answers none
all_of-stands h (more {x = x} {y = y} r rs) = after-stands (h x y r) (λ a b s. after-stands (all_of-stands h rs) (λ ys zs ss. answers (more s ss)))

module _ {A B : Type 0} (R : A → B → Type 0) (below : A → A → Bool) (under : B → B → Bool)
    (agree : (x x' : A) (y y' : B) → R x y → R x' y' → below x x' ≡ under y y') where
  insert-each : {x : A} {y : B} → R x y → {xs : List A} {ys : List B} → Each R xs ys → Each R (of.insert_by below x xs) (of.insert_by under y ys)
  insert-each r none = more r none
  insert-each {x} {y} r (more {x = x'} {y = y'} r' rs) =
      rw (agree x' x y' y r' r) (one_of (Each R) (under y' y) (more r' (insert-each r rs)) (more r (more r' rs)))

  sorted-each : {xs : List A} {ys : List B} → Each R xs ys → Each R (of.sorted_by below xs) (of.sorted_by under ys)
  sorted-each none = none
  sorted-each (more r rs) = insert-each r (sorted-each rs)

  others-each : {x : A} {y : B} → R x y → {xs : List A} {ys : List B} → Each R xs ys → Each R (filter (λ z. not (below x z)) xs) (filter (λ z. not (under y z)) ys)
  others-each r none = none
  others-each {x} {y} r (more {x = x'} {y = y'} r' rs) =
      rw (agree x x' y y' r r') (one_of (Each R) (not (under y y')) (more r' (others-each r rs)) (others-each r rs))

  firsts-each : {xs : List A} {ys : List B} → Each R xs ys → Each R (of.firsts below xs) (of.firsts under ys)
  firsts-each none = none
  firsts-each (more r rs) = more r (others-each r (firsts-each rs))

-- of one rank
abbrev RanksStand : Claim → Val × ValOf Marked → Val × ValOf ℕ → Type 0
RanksStand K a b = (a.0 ≡ b.0) × Stands K a.1 b.1

module _ {K : Claim} where
  attribute-same : (v : Val) {a : Option (GivenOf Marked)} {b : Option (GivenOf ℕ)} → OptionStands (GivenStands K) a b → attribute_or_itself marking a v ≡ attribute_or_itself plain b v
  attribute-same v no_value = refl
  attribute-same v (value (given_texts safe rs)) = rw (seen-is safe rs) refl

  ranked-stands : {a : Option (GivenOf Marked)} {b : Option (GivenOf ℕ)} → OptionStands (GivenStands K) a b → {v : ValOf Marked} {w : ValOf ℕ} → Stands K v w → ResultStands (RanksStand K) (of.ranked_by marking a v) (of.ranked_by plain b w)
  ranked-stands {b = b} k {v} {w} s = rw (bare-is s) (rw (attribute-same w k) (go (attribute_or_itself plain b w)))
    where
      go : (r : Result Val Fault) → ResultStands (RanksStand K) (r ▸ λ rank. Ok (rank, v)) (r ▸ λ rank. Ok (rank, w))
      go (Ok rank) = answers (refl, s)
      go (Err fault) = refuses fault

  ranks-same : {qs : List (Val × ValOf Marked)} {rs : List (Val × ValOf ℕ)} → Each (RanksStand K) qs rs → map (λ r. r.0) qs ≡ map (λ r. r.0) rs
  ranks-same none = refl
  ranks-same (more r rs) = rw r.0 (rw (ranks-same rs) refl)

  unless_mixed-stands : {qs : List (Val × ValOf Marked)} {rs : List (Val × ValOf ℕ)} → Each (RanksStand K) qs rs → ResultStands (Stands K) (of.unless_mixed qs) (of.unless_mixed rs)
  unless_mixed-stands {rs = rs} ss =
      rw (ranks-same ss) (one_of (ResultStands (Stands K)) (of.all_may_stand (map (λ r. r.0) rs)) (answers (arrays (all-stand (each-map _ _ (λ a b r. r.1) ss)))) (refuses message))

  before-same : (a a' : Val × ValOf Marked) (b b' : Val × ValOf ℕ) → RanksStand K a b → RanksStand K a' b' → of.comes_before a a' ≡ of.comes_before b b'
  before-same a a' b b' r r' = rw r.0 (rw r'.0 refl)

  sorted_items-stands : {vs : List (ValOf Marked)} {ws : List (ValOf ℕ)} → Each (Stands K) vs ws → {given : Named (ValOf Marked)} {others : Named (ValOf ℕ)} → NamedStand K given others → ResultStands (Stands K) (of.sorted_items marking given vs) (of.sorted_items plain others ws)
  sorted_items-stands none ns = answers (arrays no_more)
  sorted_items-stands (more s ss) ns =
      after-stands (optional-stands (λ v w. as_text-stands) (codes "attribute") ns) (λ a b k.
      after-stands (all_of-stands (λ v w. ranked-stands k) (more s ss)) (λ qs rs ts.
      unless_mixed-stands (sorted-each (RanksStand K) of.comes_before of.comes_before before-same ts)))

  pub sort-stands : {v : ValOf Marked} {w : ValOf ℕ} → Stands K v w → {given : Named (ValOf Marked)} {others : Named (ValOf ℕ)} → NamedStand K given others → ResultStands (Stands K) (of.sort_of marking v given) (of.sort_of plain w others)
  sort-stands s ns = after-stands (as_array-stands s) (λ vs ws ss. sorted_items-stands ss ns)

  same-same : (v v' : ValOf Marked) (w w' : ValOf ℕ) → Stands K v w → Stands K v' w' → same (marking.bare v) (marking.bare v') ≡ same w w'
  same-same v v' w w' s s' = rw (bare-is s) (rw (bare-is s') refl)

  pub unique-stands : {v : ValOf Marked} {w : ValOf ℕ} → Stands K v w → ResultStands (Stands K) (of.unique_of marking v) (of.unique_of plain w)
  unique-stands s =
      after-stands (as_array-stands s) (λ vs ws ss.
      answers (arrays (all-stand (firsts-each (Stands K) (λ v v'. same (marking.bare v) (marking.bare v')) same same-same ss))))
