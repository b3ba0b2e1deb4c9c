use Rattle.std.proofs.Common.{◌≡◌, ◌++◌, length, map}
use Rattle.std.specs.Vec.Iter.{into_iter_items, into_iter_len}
use Rattle.tera_built_ins.specs.Gathering.{keyed_view, group_view, numbered}
use Rattle.tera_built_ins.specs.Groups.{groups}
use Rattle.tera_built_ins.proofs.groups.gather_groups.Given as goal

abbrev pub invariant-loop-one : goal.invariant-loop-one
invariant-loop-one l = record {
  whole : l.yielded ++ into_iter_items l.one-iterator ≡ l.fn.keyed.items;
  size : into_iter_len l.one-iterator ≡ length (into_iter_items l.one-iterator);
  placed : l.positions ≡ numbered 0 (map group_view l.gathered.items);
  grouped : map group_view l.gathered.items ≡ groups (map keyed_view l.yielded);
}
