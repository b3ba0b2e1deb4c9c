use Rattle.std.proofs.Common.{◌≡◌, take, string_bytes}
use Rattle.std.specs.Str.{encode_utf8_all}
use Rattle.tera_value_types.specs.Slices.{picked_chars}
use Rattle.tera_value_types.proofs.slice.pick_chars.Given as goal

abbrev pub invariant-loop-position : goal.invariant-loop-position
invariant-loop-position l = string_bytes l.picked ≡ encode_utf8_all (picked_chars (take l.position-index l.positions) l.letters)
