-- What is written at a line, where paragraphs are written line by line.
use Rattle.std.specs.Prelude.{Bool, true, cond, List, [], ◌∷◌, ◌++◌, codes}
use Rattle.tera_errors.specs.Prelude.{Text}
use Rattle.tera_built_ins.specs.Words.{has_some}

-- what stands before a line, where a paragraph is begun before it, and where it goes on one
abbrev pub opening : Bool → Bool → Text
opening begun inside = cond inside (codes "<br>") (cond begun (codes "\n\n<p>") (codes "<p>"))

-- what ends a paragraph, where one is open
abbrev pub ending : Bool → Text
ending inside = cond inside (codes "</p>") []

-- what a line adds: an empty one ends a paragraph
abbrev pub added : Bool → Bool → Text → Text
added begun inside line = cond (has_some line) (opening begun inside ++ line) (ending inside)

abbrev pub begun_behind : Bool → Text → Bool
begun_behind begun line = cond (has_some line) true begun

-- what these lines add
abbrev pub added_by : Bool → Bool → List Text → Text
added_by begun inside [] = ending inside
added_by begun inside (line ∷ lines) =
    added begun inside line ++ added_by (begun_behind begun line) (has_some line) lines
