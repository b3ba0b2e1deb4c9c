use Rattle.std.proofs.Common.{◌≡◌, List, [], length, map}
use Rattle.std.specs.Vec.Iter.{into_iter_items, into_iter_len}
use Rattle.tera_values.specs.Val.{Val, KeyVal, array, vals}
use Rattle.tera_built_ins.specs.Gathering.{group_view}
use Rattle.tera_built_ins.specs.declared.groups.Group as declared
use Rattle.tera_built_ins.proofs.Arranged.{put_all}
use Rattle.tera_built_ins.proofs.groups.group_arrays.Given as goal

abbrev pub arrays : List declared.Group → List (KeyVal × Val)
arrays gs = map (λ g. (g.0, array (vals g.1))) (map group_view gs)

abbrev pub invariant-loop-group : goal.invariant-loop-group
invariant-loop-group l = record {
  put : put_all l.all (arrays (into_iter_items l.group-iterator)) ≡ put_all [] (arrays l.fn.gathered.items);
  size : into_iter_len l.group-iterator ≡ length (into_iter_items l.group-iterator);
}
