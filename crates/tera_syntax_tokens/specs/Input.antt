-- A position among the tokens of a tag, and the steps of a reader.
use Rattle.std.specs.Prelude.{ℕ, zero, suc, List, [], ◌∷◌, length, drop, Bool, true, false, Option, Some, None, if◌then◌else◌}
use denote.Enum.Bare.{sameb}
use Rattle.tera_errors.specs.Site.{Text}
use Rattle.tera_errors.specs.declared.span.Span.{Span}
use Rattle.tera_syntax_tokens.specs.contracts.token.Kind.{the_type}
use Rattle.tera_syntax_tokens.specs.declared.token.Kind.{Kind}
use Rattle.tera_syntax_tokens.specs.declared.token.Kind.TheVariants as k
use Rattle.tera_syntax_tokens.specs.Token.{Token}

-- the tokens ahead, and where the last one that was taken ends
pub record Input : Type 0 where
  pub ahead : List Token
  pub last : ℕ
  -- the tag stands inside a loop's body
  pub in_loop : Bool

abbrev pub begin : Bool → List Token → Input
begin in_loop tokens = record { ahead = tokens; last = 0; in_loop = in_loop }

abbrev pub kind_of : List Token → Kind
kind_of [] = k.End
kind_of (t ∷ ts) = t.kind

-- the kind of the next token
unfoldable pub kind : Input → Kind
kind i = kind_of i.ahead

abbrev pub text_of : List Token → Text
text_of [] = []
text_of (t ∷ ts) = t.text

-- the next token as it is written
unfoldable pub text : Input → Text
text i = text_of i.ahead

abbrev pub start_of : List Token → ℕ
start_of [] = 0
start_of (t ∷ ts) = t.span.start

-- where the next token starts
unfoldable pub start : Input → ℕ
start i = start_of i.ahead

abbrev pub after : List Token → ℕ → Bool → Input
after [] last in_loop = record { ahead = []; last = last; in_loop = in_loop }
after (t ∷ ts) last in_loop = record { ahead = ts; last = t.span.end; in_loop = in_loop }

-- behind the next token
unfoldable pub next : Input → Input
next i = after i.ahead i.last i.in_loop

-- how many tokens are ahead
unfoldable pub left : Input → ℕ
left i = length i.ahead

-- from a position to the end of the token that was taken last
abbrev pub span : ℕ → Input → Span
span from j = record { start = from; end = j.last }

-- the starts of the first n tokens, from the last on
abbrev pub starts : List Token → ℕ → List ℕ
starts ahead zero = []
starts ahead (suc n) = start_of (drop n ahead) ∷ starts ahead n

-- the kind that is there is the one that is wanted
abbrev pub same : Kind → Kind → Bool
same wanted there = sameb the_type there wanted

-- words, reserved ones too: an attribute may have any for its name
unfoldable pub is_word : Kind → Bool
is_word k.Name = true
is_word k.True = true
is_word k.False = true
is_word k.Nothing = true
is_word k.And = true
is_word k.Or = true
is_word k.Not = true
is_word k.In = true
is_word k.Is = true
is_word k.If = true
is_word k.Elif = true
is_word k.Else = true
is_word k.For = true
is_word kind = false

-- what was read, and the position behind it
abbrev pub Parsed : Type 0 → Type 0
Parsed A = Option (A × Input)

abbrev pub Parser : Type 0 → Type 0
Parser A = Input → Parsed A

abbrev pub and_then : {A B : Type 0} → Parsed A → (A → Parser B) → Parsed B
and_then (Some p) f = f p.0 p.1
and_then None f = None

infixl 10 ◌>>=◌
abbrev pub ◌>>=◌ : {A B : Type 0} → Parser A → (A → Parser B) → Parser B
p >>= f = λ i. and_then (p i) f

abbrev pub refuse : {A : Type 0} → Parser A
refuse = λ i. None

unfoldable pub expect : Kind → Parser (Unit {0})
expect s = λ i. if same s (kind i) then Some (tt, next i) else None
