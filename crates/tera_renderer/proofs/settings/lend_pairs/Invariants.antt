use Rattle.std.proofs.Common.{◌≡◌, map, string_bytes, take}
use Rattle.tera.specs.Prelude.{pairs_of}
use Rattle.tera_renderer.proofs.settings.lend_pairs.Given as goal

abbrev pub invariant-loop-name : goal.invariant-loop-name
invariant-loop-name l = pairs_of l.lent.items ≡ map (λ p. (string_bytes p.0, string_bytes p.1)) (take l.name-index l.pairs)
