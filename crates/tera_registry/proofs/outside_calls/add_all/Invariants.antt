use Rattle.std.proofs.Common.{◌≡◌, ◌++◌, drop}
use Rattle.std.specs.List.{flat_map}
use Rattle.tera_registry.specs.OutsideCalls.{code_needs}
use Rattle.tera_registry.proofs.outside_calls.add_all.Given as goal

abbrev pub invariant-loop-one : goal.invariant-loop-one
invariant-loop-one g l =
    l.needs.items ++ flat_map (λ b. code_needs (g.B.HasBody.listing b).code) (drop l.one-index l.all) ≡ l.initial.needs.items ++ flat_map (λ b. code_needs (g.B.HasBody.listing b).code) l.all
