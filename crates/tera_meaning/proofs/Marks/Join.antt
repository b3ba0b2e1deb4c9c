-- Items in a row, at marked characters.
use Rattle.std.proofs.Common.{◌≡◌, ℕ, Bool, true, false, ◌||◌, ◌&&◌, codes, List, Option, refl}
use Rattle.std.specs.List.{list_any}
use Rattle.tera_values.specs.Access.{is_safe}
use Rattle.tera_values.specs.Alphabet.{Marked, plain, marking}
use Rattle.tera_values.specs.Escape.{escape_html}
use Rattle.tera_values.specs.Named.{Named}
use Rattle.tera_values.specs.Val.{ValOf}
use Rattle.tera_built_ins.specs.Arguments.{GivenOf}
use Rattle.tera_built_ins.specs.Escaping.{Escaping}
use Rattle.tera_built_ins.specs.Parts.{given_safe}
use Rattle.tera_built_ins.specs.Join as of
use Rattle.tera_meaning.proofs.Marks.Claim.{Claim}
use Rattle.tera_meaning.proofs.Marks.Each.{Each, none, more, each-join_by}
use Rattle.tera_meaning.proofs.Marks.Standing.{Bears, Stands, undefineds, nones, bools, ints, texts, raws, arrays, maps, lowered, printed-each, OptionStands, no_value, value, ResultStands, answers}
use Rattle.tera_meaning.proofs.Marks.Given.{NamedStand, GivenStands, after-stands, as_array-stands, as_text-stands, optional-stands}
use Rattle.tera_meaning.proofs.Marks.Parts.{escape-each, part-each, given_safe-same}

module _ {K : Claim} where
  safe_text-same : {v : ValOf Marked} {w : ValOf ℕ} → Stands K v w → of.is_safe_text v ≡ of.is_safe_text w
  safe_text-same (texts s rs) = refl
  safe_text-same _ = refl

  any_safe-same : {vs : List (ValOf Marked)} {ws : List (ValOf ℕ)} → Each (Stands K) vs ws → list_any of.is_safe_text vs ≡ list_any of.is_safe_text ws
  any_safe-same none = refl
  any_safe-same (more s ss) = rw (safe_text-same s) (rw (any_safe-same ss) refl)

  module _ (view : Escaping) (by_html : view.escape ≡ escape_html) where
    item_part-each : (safe : Bool) {v : ValOf Marked} {w : ValOf ℕ} → Stands K v w → Each (Bears K safe) (of.item_part marking view safe v) (of.item_part plain view safe w)
    item_part-each false {w = w} s = lowered (is_safe w) (printed-each s)
    item_part-each true undefineds = none
    item_part-each true nones = none
    item_part-each true (bools b) = printed-each (bools b)
    item_part-each true (ints z) = printed-each (ints z)
    item_part-each true (texts true rs) = rs
    item_part-each true (texts false rs) = escape-each view by_html false rs
    item_part-each true (raws t) = escape-each view by_html false (printed-each (raws t))
    item_part-each true (arrays ss) = escape-each view by_html false (printed-each (arrays ss))
    item_part-each true (maps ss) = escape-each view by_html false (printed-each (maps ss))

    separator_part-each : (safe : Bool) {g : Option (GivenOf Marked)} {h : Option (GivenOf ℕ)} → OptionStands (GivenStands K) g h → Each (Bears K safe) (of.separator_part marking view safe g) (of.separator_part plain view safe h)
    separator_part-each safe no_value = none
    separator_part-each safe (value s) = part-each view by_html safe s

    pub join-stands : {v : ValOf Marked} {w : ValOf ℕ} → Stands K v w → {given : Named (ValOf Marked)} {others : Named (ValOf ℕ)} → NamedStand K given others → ResultStands (Stands K) (of.join_of marking view v given) (of.join_of plain view w others)
    join-stands s ns =
        after-stands (as_array-stands s) (λ vs ws ss.
        after-stands (optional-stands (λ v w. as_text-stands) (codes "sep") ns) (λ g h k.
        let safe = view.autoescape && (list_any of.is_safe_text ws || given_safe h) in
        rw (any_safe-same ss) (rw (given_safe-same k)
        (answers (texts safe (each-join_by _ _ (λ v w s. item_part-each safe s) (separator_part-each safe k) ss))))))
