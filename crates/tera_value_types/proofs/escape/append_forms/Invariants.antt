use Rattle.std.proofs.Common.{◌≡◌, ◌-◌, ◌++◌, length, drop, string_bytes}
use Rattle.std.specs.Str.{IsCharBoundary}
use Rattle.tera_value_types.specs.Growth.{Keeps, by_byte}
use Rattle.tera_value_types.proofs.escape.append_forms.Given as goal

abbrev pub invariant-loop-start : goal.invariant-loop-start
invariant-loop-start g l = record {
  cut : IsCharBoundary l.text l.start;
  written : string_bytes l.out ++ by_byte g.F.Forms.spelled (drop l.start l.text) ≡ string_bytes l.initial.out ++ by_byte g.F.Forms.spelled l.text;
  keeps : Keeps (string_bytes l.initial.out) (string_bytes l.out);
}

abbrev pub decreases-loop-start : goal.decreases-loop-start
decreases-loop-start g l = length l.text - l.start
