use Rattle.std.proofs.Common.{◌≡◌, ◌++◌, ◌∷◌, [], List, length, map, sym, ap, ◌∙◌, append_assoc, arith, rules}
use Rattle.std.proofs.lemmas.List.{map-append}
use Rattle.tera_values.specs.Val.{Val, KeyVal}
use Rattle.tera_values.specs.View.{key_view}
use Rattle.tera_built_ins.specs.Gathering.{keyed_view, put_in}
use Rattle.tera_built_ins.specs.Groups.{groups}
use Rattle.tera_built_ins.specs.declared.groups.Keyed as declared
use Rattle.tera_built_ins.proofs.Gathered.{put_in-groups}
use Rattle.tera_built_ins.proofs.groups.gather_groups.Goals as goal

pub loop-one-preserved : goal.loop-one-preserved
loop-one-preserved c =
    let done = c.loop-one.yielded in
    let one = c.in-Some.one in
    let es : List (KeyVal × Val) = map keyed_view done in
    let copy : c.in_ok-try_clone.field-0 ≡ one.item.now = search rules in
    record {
      whole = append_assoc done (one ∷ []) _ ∙ ap (λ (l : List declared.Keyed). done ++ l) (sym c.in-Some.ensures.steps.0) ∙ c.loop-one.invariant.whole;
      size = omega (arith, c.in-Some.ensures.steps.1, ap length c.in-Some.ensures.steps.0, c.loop-one.invariant.size);
      placed = c.in_ok-put_in.ensures.positions;
      grouped =
          c.in_ok-put_in.ensures.groups ∙ ap (put_in (key_view one.key) c.in_ok-try_clone.field-0) c.loop-one.invariant.grouped ∙ ap (λ v. put_in (key_view one.key) v (groups es)) copy
          ∙ put_in-groups es (key_view one.key) one.item.now ∙ ap groups (sym (map-append keyed_view done (one ∷ [])));
    }
