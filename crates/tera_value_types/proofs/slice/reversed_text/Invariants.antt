use Rattle.std.proofs.Common.{◌≡◌, ◌≤◌, ◌++◌, take, length, reverse, string_bytes}
use Rattle.std.specs.Str.{encode_utf8_all}
use Rattle.tera_value_types.proofs.slice.reversed_text.Given as goal

abbrev pub invariant-loop-left : goal.invariant-loop-left
invariant-loop-left l = record {
  within : l.left ≤ length l.letters.items;
  rest : string_bytes l.backward ++ encode_utf8_all (reverse (take l.left l.letters.items)) ≡ encode_utf8_all (reverse l.letters.items);
}

abbrev pub decreases-loop-left : goal.decreases-loop-left
decreases-loop-left l = l.left
