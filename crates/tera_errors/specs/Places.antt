-- Where in a text something stands, as people count: lines, and characters of a line, both from 1. A line ends
-- behind its line feed, so that a carriage return before that ends no line of its own.
use Rattle.std.specs.Prelude.{ℕ, ◌+◌, ◌&&◌, not, nat_le, nat_lt, nat_eq, Bool, [], ◌∷◌, if◌then◌else◌}
use Rattle.tera_errors.specs.Site.{Text}

-- whether a character begins with this byte of a text, or goes on with it
abbrev pub begins_character : ℕ → Bool
begins_character byte = not (nat_le 128 byte && nat_lt byte 192)

-- how many lines end in a text
abbrev pub lines_ended : Text → ℕ
lines_ended [] = 0
lines_ended (byte ∷ rest) = (if nat_eq byte 10 then 1 else 0) + lines_ended rest

-- the column behind a text that begins at this column
abbrev pub column_behind : ℕ → Text → ℕ
column_behind column [] = column
column_behind column (byte ∷ rest) = column_behind
    (if nat_eq byte 10 then 1 else if begins_character byte then column + 1 else column) rest
