use Rattle.std.proofs.Common.{◌≡◌, length, eqb, Some}
use Rattle.std.specs.List.{slice_split}
use denote.Shadow.{shadow}
use denote.Text.{Utf8}
use Rattle.tera_value_types.specs.Paths.{walk}
use Rattle.tera_value_types.proofs.value.Value.get_from_path.Given as goal

abbrev pub invariant-loop-piece : goal.invariant-loop-piece
invariant-loop-piece l = record {
  walks : walk (slice_split (λ b. eqb b 46) l.path) (Some l.self) ≡ walk (slice_split (λ b. eqb b 46) l.rest) (Some l.here);
  text : shadow (Utf8 l.rest);
}

abbrev pub decreases-loop-piece : goal.decreases-loop-piece
decreases-loop-piece l = length l.rest
