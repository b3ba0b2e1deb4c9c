use Rattle.std.proofs.Common.{List, ◌<◌, length, get_or, false, Some, ◌≡◌, ◌+◌, ap, ◌∙◌, sym, drop, arith, None}
use Rattle.std.specs.List.{slice_get}
use Rattle.std.proofs.lemmas.Option.{slice_get-get_or}
use Rattle.tera_values.specs.View.{key_view}
use Rattle.tera_values.specs.Val.{KeyVal, Val, kbool, undefined}
use Rattle.tera_operators.specs.Literals.{kept}
use Rattle.tera_operators.proofs.Keeping.{kept_next}
use Rattle.tera_operators.proofs.map_literals.keep_all.Goals.{in-Some+in_ok-keep_copy, in_default}
use Rattle.tera_operators.proofs.map_literals.keep_all.Goals as goal

pub loop-position-preserved : goal.loop-position-preserved
loop-position-preserved c =
    elim c.match-entry_at.branch [
      | in-Some+in_ok-keep_copy w ↦
          let rest = drop (c.loop-position.position + 1) c.args.more.now in
          c.loop-position.invariant
          ∙ kept_next c.loop-position.all c.args.more.now c.loop-position.position (key_view w.in-Some.key.now, w.in-Some.value.now) w.in-Some.ensures
          ∙ ap (λ (es : List (KeyVal × Val)). kept es rest) (sym w.in_ok-keep_copy.ensures.ok)
          ∙ ap (λ (es : List (KeyVal × Val)). kept es rest) (sym w.all-is)
      | in_default w ↦
          let none : slice_get c.args.more.now c.loop-position.position ≡ None = sym w.in_default.ensures in
          let here : c.loop-position.position < length c.args.more.now = omega (arith, c.loop-position-test.true, c.len-position-end.ensures.count) in
          let some : slice_get c.args.more.now c.loop-position.position ≡ Some (get_or c.args.more.now c.loop-position.position (kbool false, undefined)) = slice_get-get_or c.args.more.now c.loop-position.position (kbool false, undefined) here in
          absurd (cc)
    ]
