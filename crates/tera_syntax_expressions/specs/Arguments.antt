-- Calls, and their arguments in order; components, and their attributes.
use Rattle.std.specs.Prelude.{◌≡◌, ◌&&◌, ◌||◌, not, bytes_eq, codes, Bool, Option, Some, None, option_map, if◌then◌else◌}
use Rattle.std.specs.declared.cmp.Ordering.{Ordering}
use Rattle.std.specs.declared.cmp.Ordering.TheVariants.{Less}
use Rattle.std.specs.Ordering.{nat_cmp, match_ordering}
use Rattle.std.specs.Cmp.Lexicographic.{slice_cmp}
use Rattle.tera_errors.specs.Site.{Name}
use Rattle.tera_errors.specs.declared.span.Span.{Span}
use Rattle.tera_syntax_tree.specs.Tree.{Expr, Super, Call, Arguments, NoArguments, MoreArguments}
use Rattle.tera_syntax_tokens.specs.declared.token.Kind.{Kind}
use Rattle.tera_syntax_tokens.specs.declared.token.Kind.TheVariants as k
use Rattle.tera_syntax_tokens.specs.Input.{Input, Parser, and_then, kind, text, next, same, expect, is_word}

-- a name and a parenthesis are a call
unfoldable pub is_call : Input → Bool
is_call i = same k.LeftParenthesis (kind (next i))

-- the form that a call by this name makes of its arguments: `super` has its own
unfoldable pub call_form : Name → Arguments → Span → Expr
call_form n all at = if bytes_eq n (codes "super") then Super all at else Call n all at

-- no test is called `not`
unfoldable pub is_test_name : Kind → Bool
is_test_name s = is_word s && not (same k.Not s)

-- the order of names by their bytes
abbrev pub name_cmp : Name → Name → Ordering
name_cmp = slice_cmp nat_cmp

-- an argument at its position among others; none where one of its name is there
abbrev pub put_argument : Name → Expr → Arguments → Option Arguments
put_argument n x NoArguments = Some (MoreArguments n x NoArguments)
put_argument n x (MoreArguments m y rest) = match_ordering (name_cmp n m)
    (Some (MoreArguments n x (MoreArguments m y rest))) None
    (option_map (MoreArguments m y) (put_argument n x rest))

-- in the order of their names, so that no name stands twice
abbrev pub IsBefore : Name → Arguments → Type 0
IsBefore n NoArguments = Unit {0}
IsBefore n (MoreArguments m y rest) = name_cmp n m ≡ Less

abbrev pub AreInOrder : Arguments → Type 0
AreInOrder NoArguments = Unit {0}
AreInOrder (MoreArguments n x rest) = IsBefore n rest × AreInOrder rest

-- the name of an argument, any word, and the position behind the sign that follows
unfoldable pub argument_name : Parser Name
argument_name =
    λ i. if is_word (kind i) then and_then (expect k.Assign (next i)) (λ _. λ j. Some (text i, j))
    else None

-- an attribute of a component begins with its name, any word, or with the brace before a map that
-- is spread
unfoldable pub begins_attribute : Kind → Bool
begins_attribute s = is_word s || same k.LeftBrace s
