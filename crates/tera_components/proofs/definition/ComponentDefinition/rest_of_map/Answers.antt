use Rattle.std.proofs.Common.{◌≡◌, ◌<◌, List, Some, None, Ok, false, sym, ap, ◌∙◌, length, get_or, arith}
use Rattle.std.specs.List.{slice_get}
use Rattle.std.proofs.lemmas.List.{take_all}
use Rattle.std.proofs.lemmas.Option.{slice_get-get_or}
use Rattle.tera_values.specs.Val.{Val, KeyVal, kbool, undefined}
use Rattle.tera_values.specs.View.{key_view}
use Rattle.tera_components.specs.Definition.{kept_over}
use Rattle.tera_components.proofs.LeftOver.{only_left, only_left-is, only_left-next}
use Rattle.tera_components.proofs.definition.ComponentDefinition.rest_of_map.Goals.{in-Some+in_ok-keep, in_default}
use Rattle.tera_components.proofs.definition.ComponentDefinition.rest_of_map.Goals as goal

pub loop-position-preserved : goal.loop-position-preserved
loop-position-preserved c =
    elim c.match-entry_at.branch [
      | in-Some+in_ok-keep w ↦
          let e : KeyVal × Val = (key_view w.in-Some.key.now, w.in-Some.value.now) in
          w.all-is
          ∙ w.in_ok-keep.ensures.ok
          ∙ ap (λ (all : List (KeyVal × Val)). kept_over c.args.self.now all e) c.loop-position.invariant
          ∙ sym (only_left-next c.args.self.now c.args.given.now c.loop-position.position e c.len-position-end.ensures.distinct w.in-Some.ensures)
      | in_default w ↦
          let none : slice_get c.args.given.now c.loop-position.position ≡ None = sym w.in_default.ensures in
          let here : c.loop-position.position < length c.args.given.now = omega (arith, c.loop-position-test.true, c.len-position-end.ensures.count) in
          let some : slice_get c.args.given.now c.loop-position.position ≡ Some (get_or c.args.given.now c.loop-position.position (kbool false, undefined)) = slice_get-get_or c.args.given.now c.loop-position.position (kbool false, undefined) here in
          absurd (cc)
    ]

pub returns : goal.returns
returns c =
    ap Ok (sym (
    c.loop-position.invariant
    ∙ ap (only_left c.args.self.now) (take_all c.loop-position.position c.args.given.now (omega (arith, c.loop-position-test.false, c.len-position-end.ensures.count)))
    ∙ only_left-is c.args.self.now c.args.given.now))
