use Rattle.std.proofs.Common.{◌≡◌, ◌++◌, map, string_bytes}
use Rattle.tera_page.specs.Questions.{lines}
use Rattle.tera_page.proofs.texts.lines_of_set.Given as goal

abbrev pub invariant-loop-name : goal.invariant-loop-name
invariant-loop-name l = string_bytes l.text ++ lines (map string_bytes l.name-iterator) ≡ lines (map string_bytes l.fn.names.keys)
