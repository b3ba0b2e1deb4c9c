use Rattle.std.proofs.Common.{◌≡◌, ◌-◌, ◌≤◌, ◌++◌, length, drop, string_bytes}
use Rattle.std.specs.Str.{IsCharBoundary}
use Rattle.tera_value_types.specs.Growth.{Keeps, by_byte}
use Rattle.tera_value_types.proofs.escape.append_near.Given as goal

abbrev pub invariant-loop-position : goal.invariant-loop-position
invariant-loop-position g l = record {
  low : l.initial.position ≤ l.position;
  fresh : l.position ≡ l.initial.position → l.left ≡ l.initial.left;
  cut : IsCharBoundary l.text l.position;
  written : string_bytes l.out ++ by_byte g.F.Forms.spelled (drop l.position l.text) ≡ string_bytes l.initial.out ++ by_byte g.F.Forms.spelled (drop l.initial.position l.text);
  keeps : Keeps (string_bytes l.initial.out) (string_bytes l.out);
}

abbrev pub decreases-loop-position : goal.decreases-loop-position
decreases-loop-position g l = length l.text - l.position
