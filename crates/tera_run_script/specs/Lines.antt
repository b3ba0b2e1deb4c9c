-- The lines of a text.
use Rattle.std.specs.Prelude.{ℕ, Bool, List, [], ◌∷◌, ◌==◌}
use Rattle.std.specs.List.{slice_split, join_with_byte}
use Rattle.std.specs.Str.{byte}
use Rattle.tera.specs.Site.{Text}

abbrev pub is_line_feed : ℕ → Bool
is_line_feed b = b == byte "\n"

-- what stands behind the last line feed is a line unless it is empty
abbrev pub last_line : Text → List Text
last_line [] = []
last_line (b ∷ bytes) = (b ∷ bytes) ∷ []

abbrev pub whole_lines : List Text → List Text
whole_lines [] = []
whole_lines (part ∷ []) = last_line part
whole_lines (part ∷ next ∷ parts) = part ∷ whole_lines (next ∷ parts)

-- a line feed ends a line, and the last line may lack it
abbrev pub lines_of : Text → List Text
lines_of text = whole_lines (slice_split is_line_feed text)

-- the lines as one text, in which the last has no line feed
abbrev pub joined : List Text → Text
joined lines = join_with_byte (byte "\n") lines
