-- How the inside of a tag is cut: into tokens, up to the end delimiter.
use Rattle.std.specs.Prelude.{ℕ, zero, suc, ◌+◌, ◌-◌, List, [], ◌∷◌, ◌++◌, length, drop, Bool, true, false, ◌==◌, ◌&&◌, Option, Some, None, codes, if◌then◌else◌}
use Rattle.tera_errors.specs.Site.{Text}
use Rattle.tera_syntax_tokens.specs.declared.token.Kind.{Kind}
use Rattle.tera_syntax_tokens.specs.declared.token.Kind.TheVariants as k
use Rattle.tera_syntax_tokens.specs.Bytes.{begins}
use Rattle.tera_syntax_tokens.specs.Token.{Token, next_token, is_blank}
use Rattle.tera_syntax_tokens.specs.declared.tag_tokens.Ending.{Ending}

abbrev pub hyphen : Text
hyphen = codes "-"

-- What ends the tag at the front of the text: `-` with the end delimiter, or that alone.
abbrev pub closing : Text → Text → Option Ending
closing end text =
    if begins hyphen text && begins end (drop 1 text)
    then Some (record { size = length end + 1; trims = true })
    else (if begins end text then Some (record { size = length end; trims = false }) else None)

-- the tokens of a tag, the position behind its end delimiter, and whether a `-` stands there
pub record Inside : Type 0 where
  pub tokens : List Token
  pub next : ℕ
  pub trims : Bool

abbrev pub prefixed : List Token → Option Inside → Option Inside
prefixed ts None = None
prefixed ts (Some x) = Some (record x { tokens = ts ++ x.tokens })

abbrev pub ended : ℕ → Option Ending → Option Inside → Option Inside
ended at (Some c) more = Some (record { tokens = []; next = at + c.size; trims = c.trims })
ended at None more = more

abbrev pub token_then : Option Token → (Token → Option Inside) → Option Inside
token_then None more = None
token_then (Some t) more = prefixed (t ∷ []) (more t)

-- how many brackets are open behind a token
abbrev pub open_after : ℕ → Kind → ℕ
open_after opened k.LeftParenthesis = suc opened
open_after opened k.LeftBracket = suc opened
open_after opened k.OptionalBracket = suc opened
open_after opened k.LeftBrace = suc opened
open_after opened k.RightParenthesis = opened - 1
open_after opened k.RightBracket = opened - 1
open_after opened k.RightBrace = opened - 1
open_after opened kind = opened

-- a tag ends where no bracket is open
abbrev pub closing_in : ℕ → Text → Text → Option Ending
closing_in opened end text = if opened == 0 then closing end text else None

-- What stands behind a start delimiter, by the position where the text stands, with brackets open,
-- and after bytes that are passed over: before each blank and each token the end of the tag is
-- tried. None where the tag has no end, or something that is no token.
unfoldable pub inside : Text → ℕ → ℕ → ℕ → Text → Option Inside
inside end opened skip at [] = None
inside end opened (suc n) at (b ∷ bs) = inside end opened n (suc at) bs
inside end opened zero at (b ∷ bs) = ended at (closing_in opened end (b ∷ bs))
    (if is_blank b then inside end opened 0 (suc at) bs
    else token_then (next_token at (b ∷ bs))
    (λ t. inside end (open_after opened t.kind) (length t.text - 1) (suc at) bs))
