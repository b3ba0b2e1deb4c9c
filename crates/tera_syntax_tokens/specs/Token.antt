-- Tokens of a tag.
use Rattle.std.specs.Prelude.{ℕ, suc, ◌+◌, List, [], ◌∷◌, map, take, get_or, Bool, false, not, ◌&&◌, ◌||◌, ◌==◌, nat_le, Option, Some, None, option_map, bytes_eq, codes, if◌then◌else◌}
use Rattle.std.specs.Str.{byte}
use Rattle.tera_errors.specs.Site.{Text}
use Rattle.tera_errors.specs.declared.span.Span.{Span}
use Rattle.tera_syntax_tokens.specs.Bytes.{leading}
use Rattle.tera_syntax_tokens.specs.declared.token.Kind.{Kind}
use Rattle.tera_syntax_tokens.specs.declared.token.Kind.TheVariants as k
use Rattle.tera_syntax_tokens.specs.declared.token.Measure.{Measure}
use Rattle.tera_syntax_tokens.specs.declared.token.Token as declared

pub record Token : Type 0 where
  pub kind : Kind
  pub text : Text
  pub span : Span

abbrev pub token_of : declared.Token → Token
token_of t = record { kind = t.kind; text = t.text.now; span = t.span }

abbrev pub tokens_of : List declared.Token → List Token
tokens_of ts = map token_of ts

-- space, tab, line feed and carriage return separate tokens
abbrev pub is_blank : ℕ → Bool
is_blank b = ((b == byte " " || b == byte "\t") || b == byte "\n") || b == byte "\r"

abbrev pub is_letter : ℕ → Bool
is_letter b =
    ((nat_le (byte "A") b && nat_le b (byte "Z")) || (nat_le (byte "a") b && nat_le b (byte "z")))
    || b == byte "_"

abbrev pub is_digit : ℕ → Bool
is_digit b = nat_le (byte "0") b && nat_le b (byte "9")

abbrev pub is_name_byte : ℕ → Bool
is_name_byte b = is_letter b || is_digit b

-- a text stands between two of these: `"`, `'` and a backtick
abbrev pub is_quote : ℕ → Bool
is_quote b = (b == byte "\"" || b == byte "'") || b == byte "`"

-- How many bytes there are up to the quote that closes a text, and with it. A backslash takes the
-- byte behind it along.
unfoldable pub quoted : ℕ → Bool → Text → Option ℕ
quoted quote escaped [] = None
quoted quote escaped (b ∷ bs) =
    if not escaped && b == quote then Some 1
    else option_map suc (quoted quote (not escaped && b == byte "\\") bs)

-- the signs of two bytes
abbrev pub pairs : List (Text × Kind)
pairs =
    (codes "==", k.Equal) ∷ (codes "!=", k.NotEqual)
    ∷ (codes "<=", k.LessOrEqual) ∷ (codes ">=", k.GreaterOrEqual)
    ∷ (codes "**", k.Power) ∷ (codes "//", k.FloorSlash) ∷ (codes "/>", k.TagEnd)
    ∷ (codes "?.", k.OptionalDot) ∷ (codes "?[", k.OptionalBracket) ∷ []

-- the signs of one byte
abbrev pub singles : List (ℕ × Kind)
singles =
    (byte "<", k.Less) ∷ (byte ">", k.Greater)
    ∷ (byte "+", k.Plus) ∷ (byte "-", k.Minus) ∷ (byte "*", k.Star) ∷ (byte "/", k.Slash)
    ∷ (byte "%", k.Percent) ∷ (byte "~", k.Tilde) ∷ (byte "|", k.Bar) ∷ (byte ".", k.Dot)
    ∷ (byte "[", k.LeftBracket) ∷ (byte "]", k.RightBracket)
    ∷ (byte "(", k.LeftParenthesis) ∷ (byte ")", k.RightParenthesis)
    ∷ (byte "{", k.LeftBrace) ∷ (byte "}", k.RightBrace)
    ∷ (byte ",", k.Comma) ∷ (byte ":", k.Colon) ∷ (byte "=", k.Assign) ∷ (byte "@", k.At) ∷ []

abbrev pub pair_in : List (Text × Kind) → ℕ → ℕ → Option Kind
pair_in [] b c = None
pair_in (row ∷ rows) b c =
    if b == get_or row.0 0 0 && c == get_or row.0 1 0 then Some row.1 else pair_in rows b c

abbrev pub pair : ℕ → ℕ → Option Kind
pair = pair_in pairs

abbrev pub single_in : List (ℕ × Kind) → ℕ → Option Kind
single_in [] b = None
single_in (row ∷ rows) b = if b == row.0 then Some row.1 else single_in rows b

abbrev pub single : ℕ → Option Kind
single = single_in singles

abbrev pub of_size : ℕ → Option Kind → Option Measure
of_size n None = None
of_size n (Some kind) = Some (record { kind = kind; size = n })

abbrev pub or_else : Option Measure → Option Measure → Option Measure
or_else None other = other
or_else (Some m) other = Some m

-- the sign that three bytes begin with, the longest
unfoldable pub sign : ℕ → ℕ → ℕ → Option Measure
sign b c d =
    if (b == byte "." && c == byte ".") && d == byte "."
    then Some (record { kind = k.Spread; size = 3 })
    else or_else (of_size 2 (pair b c)) (of_size 1 (single b))

abbrev pub text_of_size : Option ℕ → Option Measure
text_of_size None = None
text_of_size (Some n) = Some (record { kind = k.Text; size = 1 + n })

-- What a text begins with, by its longest token. Past its end stands 0.
unfoldable pub measured : Text → Option Measure
measured [] = None
measured (b ∷ bs) =
    if is_letter b then Some (record { kind = k.Name; size = 1 + leading is_name_byte bs }) else (
    if is_digit b then Some (record { kind = k.Int; size = 1 + leading is_digit bs }) else (
    if is_quote b then text_of_size (quoted b false bs)
    else sign b (get_or bs 0 0) (get_or bs 1 0)))

-- the kind of a word: those that are reserved have their own
unfoldable pub word_kind : Text → Kind
word_kind word =
    if bytes_eq word (codes "true") || bytes_eq word (codes "True") then k.True else (
    if bytes_eq word (codes "false") || bytes_eq word (codes "False") then k.False else (
    if bytes_eq word (codes "none") || bytes_eq word (codes "None") then k.Nothing else (
    if bytes_eq word (codes "and") then k.And else (
    if bytes_eq word (codes "or") then k.Or else (
    if bytes_eq word (codes "not") then k.Not else (
    if bytes_eq word (codes "in") then k.In else (
    if bytes_eq word (codes "is") then k.Is else (
    if bytes_eq word (codes "if") then k.If else (
    if bytes_eq word (codes "elif") then k.Elif else (
    if bytes_eq word (codes "else") then k.Else else (
    if bytes_eq word (codes "for") then k.For else (
    k.Name))))))))))))

-- a name that is a word with a meaning is of that kind
abbrev pub named : Kind → Text → Kind
named k.Name word = word_kind word
named kind word = kind

-- the first token of a text that stands at a position, of this measure
abbrev pub token : ℕ → Text → Measure → Token
token at text m =
    record {
      kind = named m.kind (take m.size text);
      text = take m.size text;
      span = record { start = at; end = at + m.size };
    }

-- the longest token at the front of a text that stands at a position
unfoldable pub next_token : ℕ → Text → Option Token
next_token at text = option_map (token at text) (measured text)
