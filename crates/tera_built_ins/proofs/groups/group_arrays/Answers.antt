use Rattle.std.proofs.Common.{◌≡◌, List, Ok, [], map, sym, ap, subst, ◌∙◌}
use Rattle.std.specs.Vec.Iter.{into_iter_items, into_iter_len}
use Rattle.tera_values.specs.Val.{Val, KeyVal, array, vals, entries, map as map_of}
use Rattle.tera_built_ins.specs.Gathering.{AllOther, group_view}
use Rattle.tera_built_ins.proofs.Arranged.{put_all, put_all-other, keys, none-left}
use Rattle.tera_built_ins.proofs.Steps.{map-map}
use Rattle.tera_built_ins.proofs.groups.group_arrays.Invariants.{arrays}
use Rattle.tera_built_ins.proofs.groups.group_arrays.Goals as goal

pub returns : goal.returns
returns c =
    let gs = c.args.gathered.items in
    let left = none-left (into_iter_items c.loop-group.group-iterator) (into_iter_len c.loop-group.group-iterator) c.loop-group.invariant.size c.in-None.ensures.steps.0 in
    let done : c.loop-group.all ≡ put_all [] (arrays gs) = ap (λ l. put_all c.loop-group.all (arrays l)) (sym left) ∙ c.loop-group.invariant.put in
    let other : AllOther (keys (arrays gs)) = subst AllOther (sym (map-map (λ g. (g.0, array (vals g.1))) (λ e. e.0) (map group_view gs))) c.requires in
    ap (λ (l : List (KeyVal × Val)). Ok (map_of (entries l))) (sym (done ∙ put_all-other (arrays gs) other))
