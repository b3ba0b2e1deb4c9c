use Rattle.std.proofs.Common.{◌≡◌, List, map, subst, rules}
use Rattle.tera_values.specs.Val.{Val, KeyVal}
use Rattle.tera_built_ins.specs.Gathering.{AllOther, group_view, keyed_view}
use Rattle.tera_built_ins.specs.Groups.{groups}
use Rattle.tera_built_ins.proofs.Gathered.{groups-other}
use Rattle.tera_built_ins.proofs.groups.grouped_items.Goals as goal

pub group_arrays-requires : goal.group_arrays-requires
group_arrays-requires c =
    let is : groups (map keyed_view c.in_ok-keyed.keyed.items) ≡ map group_view c.in_ok-gathered.gathered.items = search rules in
    subst (λ (gs : List (KeyVal × List Val)). AllOther (map (λ g. g.0) gs)) is (groups-other (map keyed_view c.in_ok-keyed.keyed.items))
