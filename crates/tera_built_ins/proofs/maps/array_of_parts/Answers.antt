use Rattle.std.proofs.Common.{rules, arith, ◌≡◌, ◌≤◌, inl, inr, length, Ok, map, ap, sym, ◌∙◌}
use Rattle.std.proofs.lemmas.List.{take_all}
use Rattle.std.proofs.lemmas.Option.{slice_get_cases}
use Rattle.tera_values.specs.Alphabet.{plain}
use Rattle.tera_values.specs.Val.{array, vals}
use Rattle.tera_values.specs.View.{key_view}
use Rattle.tera_built_ins.specs.Arguments.{◌▸◌}
use Rattle.tera_built_ins.specs.Maps.{part_value}
use Rattle.tera_built_ins.proofs.Steps.{map_take-more}
use Rattle.tera_built_ins.proofs.maps.array_of_parts.Goals.{in-Some+in_ok-part_value+in_ok-push, in_default}
use Rattle.tera_built_ins.proofs.maps.array_of_parts.Goals as goal

pub returns : goal.returns
returns c =
    let made = part_value plain c.args.part in
    let ended : length c.in_ok-all.all.now ≤ c.loop-position.position = omega (arith, c.len-position-end.ensures.count, c.loop-position-test.false) in
    let all : c.loop-position.items.items ≡ map made c.in_ok-all.all.now = c.loop-position.invariant ∙ ap (map made) (take_all c.loop-position.position c.in_ok-all.all.now ended) in
    ap (λ r. r ▸ λ es. Ok (array (vals (map made es)))) c.in_ok-all.ensures ∙ ap (λ l. Ok (array (vals l))) (sym all) ∙ ap Ok (sym c.array.ensures)

pub returns-in_err-all : goal.returns-in_err-all
returns-in_err-all c = search rules

pub loop-position-preserved : goal.loop-position-preserved
loop-position-preserved c =
    let made = part_value plain c.args.part in
    elim c.match-entry_at.branch [
      | in-Some+in_ok-part_value+in_ok-push w ↦
          let is = w.in_ok-part_value.ensures in
          let one : w.in_ok-part_value.field-0 ≡ made (key_view w.in-Some.key.now, w.in-Some.item.now) = cc in
          ap (λ v. v.items) w.items-is
          ∙ map_take-more made c.in_ok-all.all.now c.loop-position.position (key_view w.in-Some.key.now, w.in-Some.item.now) w.in_ok-part_value.field-0 c.loop-position.items.items w.push.new.self.items (sym w.in-Some.ensures) one c.loop-position.invariant w.in_ok-push.ensures.items
      -- each position has an entry
      | in_default w ↦ elim ((slice_get_cases c.in_ok-all.all.now c.loop-position.position).1) [
        | inl t ↦ let there = t.2 in let none = w.in_default.ensures in cc
        | inr t ↦ absurd (omega (arith, t.0, c.len-position-end.ensures.count, c.loop-position-test.true))
      ]
    ]
