use Rattle.std.proofs.Common.{◌≡◌, ◌-◌, ◌<◌, ◌≤◌, ℕ, length, slice_get, Some}
use Rattle.tera_registry.specs.declared.code.Take.{Take}
use Rattle.tera_registry.proofs.code.rank.Given as goal

abbrev pub invariant-halves : goal.invariant-halves
invariant-halves l = record {
  low_high : l.low ≤ l.high;
  high_len : l.high ≤ length l.takes;
  after : (k : ℕ) (t : Take) → k < l.low → slice_get l.takes k ≡ Some t → t.at < l.at;
  before : (k : ℕ) (t : Take) → l.high ≤ k → slice_get l.takes k ≡ Some t → l.at < t.at;
}

abbrev pub decreases-halves : goal.decreases-halves
decreases-halves l = l.high - l.low
