use Rattle.std.proofs.Common.{◌≡◌, ◌++◌, drop, length, string_bytes}
use Rattle.std.specs.Str.{chars}
use Rattle.tera_filters.specs.JsonTexts.{for_script}
use Rattle.tera_filters.proofs.Scripted.{rest_of}
use Rattle.tera_filters.proofs.json_texts.escape_for_script.Given as goal

abbrev pub invariant-loop-letter : goal.invariant-loop-letter
invariant-loop-letter l =
    string_bytes l.escaped ++ rest_of (drop (length l.yielded) (chars l.text)) ≡ for_script l.text
