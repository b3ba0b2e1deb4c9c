use Rattle.std.proofs.Common.{◌≡◌, flat_map, string_bytes}
use Rattle.tera_filters.specs.Case.{capitalized}
use Rattle.tera_filters.proofs.case.title_text.Given as goal

abbrev pub invariant-loop-piece : goal.invariant-loop-piece
invariant-loop-piece l = string_bytes l.titled ≡ flat_map (λ p. capitalized p.now) l.yielded
