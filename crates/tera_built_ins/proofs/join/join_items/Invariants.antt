use Rattle.std.proofs.Common.{◌≡◌, ◌++◌, take, string_bytes}
use Rattle.std.specs.Prelude.{flat_map}
use Rattle.tera_values.specs.Alphabet.{plain}
use Rattle.tera_built_ins.specs.Escaping.{escaping_of}
use Rattle.tera_built_ins.specs.Join.{item_part}
use Rattle.tera_built_ins.proofs.join.join_items.Given as goal

abbrev pub invariant-loop-item : goal.invariant-loop-item
invariant-loop-item g l =
    string_bytes l.out ≡ string_bytes l.initial.out ++ flat_map (λ v. l.between ++ item_part plain (escaping_of g.E.EscapeFn.escaped l.filtering.escaping) l.is_safe v) (take l.item-index l.rest)
