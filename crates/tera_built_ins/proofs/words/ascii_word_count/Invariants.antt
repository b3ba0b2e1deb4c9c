use Rattle.std.proofs.Common.{◌≡◌, ◌≤◌, ◌+◌, false, drop}
use Rattle.tera_built_ins.proofs.Begun.{begun}
use Rattle.tera_built_ins.proofs.words.ascii_word_count.Given as goal

abbrev pub invariant-loop-byte : goal.invariant-loop-byte
invariant-loop-byte l = record {
  few : l.count ≤ l.byte-index;
  counted : l.count + begun l.inside (drop l.byte-index l.bytes) ≡ begun false l.bytes;
}
