use Rattle.std.proofs.Common.{◌≡◌, ◌++◌, map, drop, None}
use Rattle.tera_registry.specs.Linking.{AreLinked}
use Rattle.tera_registry.specs.Numbers.{above_of}
use Rattle.tera_registry.specs.References.{chunk_of}
use Rattle.tera_registry.proofs.body_table.Targets.add_all.Given as goal

abbrev pub invariant-loop-one : goal.invariant-loop-one
invariant-loop-one g l = record {
  codes : map chunk_of l.entries.items ++ map g.B.HasBody.listing (drop l.one-index l.all) ≡ map chunk_of l.initial.entries.items ++ map g.B.HasBody.listing l.all;
  aboves : map above_of l.entries.items ++ map (λ (_ : _). None) (drop l.one-index l.all) ≡ map above_of l.initial.entries.items ++ map (λ (_ : _). None) l.all;
  right : AreLinked l.self l.entries.items;
}
