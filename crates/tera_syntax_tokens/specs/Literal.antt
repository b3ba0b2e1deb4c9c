-- What literals stand for.
use Rattle.std.specs.Prelude.{ℕ, ◌+◌, ◌-◌, ◌*◌, ◌^◌, ℤ, pos, [], ◌∷◌, length, take, drop, get_or, Bool, true, false, not, ◌&&◌, ◌||◌, ◌==◌, nat_lt, nat_le, Option, Some, None, if◌then◌else◌}
use Rattle.std.specs.Str.{byte}
use Rattle.tera_errors.specs.Site.{Text}
use Rattle.tera_syntax_tokens.specs.Token.{is_quote}

-- the number that digits stand for, behind one that was read
abbrev pub number_from : ℕ → Text → ℕ
number_from n [] = n
number_from n (b ∷ bs) = number_from (10 * n + (b - byte "0")) bs

-- digits stand for a number below 2^127
abbrev pub integer : Text → Option ℤ
integer digits =
    if nat_lt (number_from 0 digits) (2 ^ 127) then Some (pos (number_from 0 digits)) else None

-- the byte that a backslash before this one stands for, with it
abbrev pub escaped : ℕ → Option ℕ
escaped b =
    if b == byte "n" then Some (byte "\n")
    else (if b == byte "r" then Some (byte "\r")
    else (if b == byte "t" then Some (byte "\t")
    else (if b == byte "\\" || is_quote b then Some b else None)))

abbrev pub escaped_then : Option ℕ → ℕ → Text → Text
escaped_then (Some c) b rest = c ∷ rest
escaped_then None b rest = byte "\\" ∷ b ∷ rest

-- the same of the first byte of a text
abbrev pub escape_of : Text → Option ℕ
escape_of [] = None
escape_of (b ∷ bs) = escaped b

abbrev pub is_plain : ℕ → Bool
is_plain b = not (b == byte "\\")

-- what is written between quotes, with a backslash before it or not
unfoldable pub unescaped : Bool → Text → Text
unescaped false [] = []
unescaped true [] = byte "\\" ∷ []
unescaped false (b ∷ bs) = if b == byte "\\" then unescaped true bs else b ∷ unescaped false bs
unescaped true (b ∷ bs) = escaped_then (escaped b) b (unescaped false bs)

-- the bytes between the first and the last
abbrev pub between : Text → Text
between text = take (length text - 2) (drop 1 text)

abbrev pub is_quoted : Text → Bool
is_quoted text =
    (nat_le 2 (length text) && is_quote (get_or text 0 0))
    && is_quote (get_or text (length text - 1) 0)

-- what a quoted text stands for
unfoldable pub literal : Text → Option Text
literal text = if is_quoted text then Some (unescaped false (between text)) else None
