use Rattle.std.proofs.Common.{◌≡◌, ◌≤◌, drop}
use Rattle.tera_filters.specs.FileSizes.{base, prefixes, in_first_unit}
use Rattle.tera_filters.proofs.Measuring.{limit}
use Rattle.tera_filters.proofs.file_sizes.in_first_unit.Given as goal

abbrev pub invariant-loop-prefix : goal.invariant-loop-prefix
invariant-loop-prefix l = record {
  low : 1000 ≤ l.size;
  high : l.size ≤ limit l.prefix-index;
  found : in_first_unit l.fn.binary l.fn.number l.size (drop l.prefix-index (prefixes l.fn.binary)) ≡ in_first_unit l.fn.binary l.fn.number (base l.fn.binary) (prefixes l.fn.binary);
}
