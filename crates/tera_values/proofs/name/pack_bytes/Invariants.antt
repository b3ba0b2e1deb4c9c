use Rattle.std.proofs.Common.{◌≡◌, drop}
use Rattle.std.specs.Int.Digits.{number_from_digits_after}
use Rattle.tera_values.specs.Naming.{packed}
use Rattle.tera_values.proofs.name.pack_bytes.Given as goal

abbrev pub invariant-loop-byte : goal.invariant-loop-byte
invariant-loop-byte l = packed l.text ≡ number_from_digits_after 256 l.number (drop l.byte-index l.text)
