use Rattle.std.proofs.Common.{◌≡◌, ◌≤◌, ◌+◌, false, length, drop}
use Rattle.std.specs.Str.{chars}
use Rattle.tera_built_ins.proofs.Begun.{begun}
use Rattle.tera_built_ins.proofs.words.letters_word_count.Given as goal

abbrev pub invariant-loop-letter : goal.invariant-loop-letter
invariant-loop-letter l = record {
  few : l.count ≤ length l.yielded;
  counted : l.count + begun l.inside (drop (length l.yielded) (chars l.text)) ≡ begun false (chars l.text);
}
