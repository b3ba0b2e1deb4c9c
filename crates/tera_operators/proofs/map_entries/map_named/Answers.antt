use Rattle.std.proofs.Common.{rules, ◌<◌, length, get_or, true, false, Bool, Some, ◌≡◌, ◌&&◌, ap, ◌∙◌, sym, arith, None}
use Rattle.std.specs.List.{slice_get}
use Rattle.std.proofs.lemmas.List.Folds.{list_all_more, list_all_at}
use Rattle.std.proofs.lemmas.Option.{slice_get-get_or, slice_get_within, get_or_from_slice_get}
use Rattle.tera_values.specs.View.{key_view}
use Rattle.tera_values.specs.Val.{KeyVal, Val, kbool, undefined}
use Rattle.tera_operators.specs.Entries.{is_named}
use Rattle.tera_operators.proofs.map_entries.map_named.Goals.{in-Some+else-not-is_named, in_default}
use Rattle.tera_operators.proofs.map_entries.map_named.Goals as goal

pub returns-then-not-is_named : goal.returns-then-not-is_named
returns-then-not-is_named c =
    let names = c.args.names.now in
    let all = c.args.map.now in
    let i = c.loop-position.position in
    let e : KeyVal × Val = (key_view c.in-Some.key.now, c.in-Some.field-0-1.now) in
    let here : Some e ≡ slice_get all i = c.in-Some.ensures in
    let not : is_named names e.0 ≡ false = search rules in
    sym (list_all_at (λ (e : KeyVal × Val). is_named names e.0) all i e (slice_get_within all i e (sym here)) (ap (λ (x : KeyVal × Val). is_named names x.0) (get_or_from_slice_get all i e e (sym here)) ∙ not))

pub loop-position-preserved : goal.loop-position-preserved
loop-position-preserved c =
    let names = c.args.names.now in
    let all = c.args.map.now in
    let i = c.loop-position.position in
    elim c.match-entry_at.branch [
      | in-Some+else-not-is_named w ↦
          let e : KeyVal × Val = (key_view w.in-Some.key.now, w.in-Some.field-0-1.now) in
          let here : Some e ≡ slice_get all i = w.in-Some.ensures in
          let it : is_named names e.0 ≡ true = search rules in
          list_all_more (λ (e : KeyVal × Val). is_named names e.0) all i e (slice_get_within all i e (sym here))
          ∙ ap (λ (b : Bool). b && is_named names (get_or all i e).0) c.loop-position.invariant
          ∙ ap (λ (x : KeyVal × Val). is_named names x.0) (get_or_from_slice_get all i e e (sym here))
          ∙ it
      | in_default w ↦
          let none : slice_get all i ≡ None = sym w.in_default.ensures in
          let here : i < length all = omega (arith, c.loop-position-test.true, c.len-position-end.ensures.count) in
          let some : slice_get all i ≡ Some (get_or all i (kbool false, undefined)) = slice_get-get_or all i (kbool false, undefined) here in
          absurd (cc)
    ]
