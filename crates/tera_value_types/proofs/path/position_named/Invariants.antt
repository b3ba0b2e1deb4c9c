use Rattle.std.proofs.Common.{◌≡◌, ◌≤◌, ◌<◌, drop}
use Rattle.tera_value_types.specs.Paths.{all_digits, number}
use Rattle.tera_value_types.proofs.path.position_named.Given as goal

abbrev pub invariant-loop-digit : goal.invariant-loop-digit
invariant-loop-digit l = record {
  digits : all_digits l.digits ≡ all_digits (drop l.digit-index l.digits);
  small : l.value < l.length → number 0 l.digits ≡ number l.value (drop l.digit-index l.digits);
  large : l.length ≤ l.value → l.length ≤ number 0 l.digits;
}
