-- What a loop calls its items.
use Rattle.std.specs.Prelude.{◌≡◌, Option, Some, None, if◌then◌else◌}
use Rattle.tera_errors.specs.Site.{Name}
use Rattle.tera_syntax_tokens.specs.declared.token.Kind.{Kind}
use Rattle.tera_syntax_tokens.specs.declared.token.Kind.TheVariants as k
use Rattle.tera_syntax_tokens.specs.Input.{Input, Parser, and_then, ◌>>=◌, kind, text, next, same, expect}

-- a name stands here, and behind it a token of this kind
abbrev pub Names : Input → Kind → Type 0
Names i s = (kind i ≡ k.Name) × (kind (next i) ≡ s)

-- what a loop calls its items, up to `in`; of two names the first is the key's
pub data Calls : Option Name → Name → Input → Input → Type 0 where
  value : {i : Input} → Names i k.In → Calls None (text i) i (next (next i))
  key_and_value : {i : Input} → Names i k.Comma → Names (next (next i)) k.In
      → Calls (Some (text i)) (text (next (next i))) i (next (next (next (next i))))

-- The same as a function.
unfoldable pub name : Parser Name
name = λ i. if same k.Name (kind i) then Some (text i, next i) else None

-- behind the last name
unfoldable pub called : Option Name → Name → Parser (Option Name × Name)
called key word = λ i. and_then (expect k.In i) (λ _. λ j. Some ((key, word), j))

-- behind the first name
unfoldable pub calls_behind : Name → Parser (Option Name × Name)
calls_behind first =
    λ i. if same k.Comma (kind i) then and_then (name (next i)) (called (Some first))
    else called None first i

unfoldable pub calls : Parser (Option Name × Name)
calls = name >>= calls_behind
