-- The words of a line.
use Rattle.std.specs.Prelude.{ℕ, Bool, List, [], Option, Some, None, ◌==◌}
use Rattle.std.specs.List.{slice_split}
use Rattle.std.specs.Borrow.{Bor}
use Rattle.std.specs.Str.{byte}
use Rattle.tera.specs.Site.{Text}

abbrev pub is_space : ℕ → Bool
is_space b = b == byte " "

-- what stands between the spaces
abbrev pub words_of : Text → List Text
words_of line = slice_split is_space line

-- the words of what follows a space, if there was one
abbrev pub words_after : Option (Bor Text) → List Text
words_after None = []
words_after (Some rest) = words_of rest.now
