use Rattle.std.proofs.Common.{◌≡◌, ◌++◌, map, string_bytes, drop}
use Rattle.tera_page.specs.Questions.{lines}
use Rattle.tera_page.proofs.texts.lines_of.Given as goal

abbrev pub invariant-loop-name : goal.invariant-loop-name
invariant-loop-name l = string_bytes l.text ++ lines (map string_bytes (drop l.name-index l.names)) ≡ lines (map string_bytes l.names)
