use Rattle.std.proofs.Common.{◌≡◌, ◌++◌, List, map, drop, Result, Ok}
use Rattle.std.specs.List.{filter_map}
use Rattle.tera_errors.specs.Fault.{Fault}
use Rattle.tera_values.specs.Alphabet.{plain}
use Rattle.tera_values.specs.Val.{Val, KeyVal}
use Rattle.tera_built_ins.specs.Arguments.{◌▸◌}
use Rattle.tera_built_ins.specs.Attributes.{all_of}
use Rattle.tera_built_ins.specs.Gathering.{keyed_view}
use Rattle.tera_built_ins.specs.Groups.{keyed_by}
use Rattle.tera_built_ins.proofs.groups.with_keys.Given as goal

abbrev pub invariant-loop-item : goal.invariant-loop-item
invariant-loop-item l =
    ◌≡◌ {A = Result (List (KeyVal × Val)) Fault} (all_of (keyed_by plain l.path) l.items ▸ λ all. Ok (filter_map (λ e. e) all))
    (all_of (keyed_by plain l.path) (drop l.item-index l.items) ▸ λ more. Ok (map keyed_view l.keyed.items ++ filter_map (λ e. e) more))
