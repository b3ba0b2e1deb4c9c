-- How the reader's parts of expressions stand to their definitions.
use Rattle.std.specs.Prelude.{◌≡◌, ℕ, List, [], ◌∷◌, map, Vec, Bool, Option, Some, None, option_map, suc, Result, Ok, Err, option_copied}
use Rattle.std.specs.Borrow.{Bor}
use Rattle.std.specs.declared.alloc.Global.{Global}
use denote.Ref.{MutBor}
use Rattle.tera_errors.specs.Site.{Name}
use Rattle.tera_errors.specs.declared.span.Span.{Span}
use Rattle.tera_syntax_tree.specs.declared.expression.Item as item
use Rattle.tera_syntax_tree.specs.declared.expression.EntryExpression as entry
use Rattle.tera_syntax_tree.specs.declared.expression.Expression as declared_expression
use Rattle.tera_syntax_tree.specs.declared.component.Parameter as parameter
use Rattle.tera_syntax_tree.specs.Definitions.{rest_names}
use Rattle.tera_syntax_tree.specs.Tree.{Expr, Parameter, Key, Optional, Nothing, Not, Negate, And, Or, Binary, Arguments, NoArguments, MoreArguments}
use Rattle.tera_syntax_tree.specs.View.{expr_of, optional_of, items_of, entries_of, parameter_of}
use Rattle.tera_syntax_tokens.specs.declared.refusal.Refusal.{Refusal}
use Rattle.tera_syntax_tokens.specs.declared.tokens.Tokens.{Tokens}
use Rattle.tera_syntax_tokens.specs.Answers.{Refuses}
use Rattle.tera_syntax_tokens.specs.Input.{Input, Parsed, Parser, and_then, left}
use Rattle.tera_syntax_tokens.specs.Takes.{Takes, input}
use Rattle.tera_syntax_expressions.specs.declared.expressions.ReadExpression as declared
use Rattle.tera_syntax_expressions.specs.declared.headings.HeadingNames.{HeadingNames}
use Rattle.tera_syntax_expressions.specs.declared.reader.OptionalPart.{OptionalPart}
use Rattle.tera_syntax_expressions.specs.declared.reader.Reader.{Reader}
use Rattle.tera_syntax_expressions.specs.declared.operator_forms.Prefix.{Prefix}
use Rattle.tera_syntax_expressions.specs.declared.operator_forms.Prefix.TheVariants as sign
use Rattle.tera_syntax_expressions.specs.declared.operator_forms.Infix.{Infix}
use Rattle.tera_syntax_expressions.specs.declared.operator_forms.Infix.TheVariants as form
use Rattle.std.specs.declared.cmp.Ordering.{Ordering}
use Rattle.std.specs.Ordering.{match_ordering}
use Rattle.tera_syntax_expressions.specs.Arguments.{name_cmp}
use Rattle.tera_syntax_expressions.specs.Expressions.{Deep, expr, join_items, one_item, join_entries, one_entry}

abbrev pub deep_of : declared.ReadExpression → Deep
deep_of x = record { expr = expr_of x.expression; depth = x.depth }

-- an operand was taken out of its place, where a leaf stands
abbrev pub IsEmptied : declared.ReadExpression → Type 0
IsEmptied x = expr_of x.expression ≡ Nothing (record { start = 0; end = 0 })

abbrev pub part_of : OptionalPart → Optional × ℕ
part_of p = (optional_of p.expression, p.depth)

abbrev pub names_of : HeadingNames → Option Name × Name
names_of n = (option_copied n.key, n.name.now)

abbrev pub prefix_of : Prefix → Expr → Span → Expr
prefix_of sign.Negate = Negate
prefix_of sign.Not = Not

abbrev pub infix_of : Infix → Expr → Expr → Span → Expr
infix_of form.And = And
infix_of form.Or = Or
infix_of (form.Binary operator) = Binary operator

-- a function value that reads expressions to a depth
pub record Nests (limit : ℕ) (pre : Global → MutBor Tokens → ℕ → ℕ → Type 0)
    (post : Global → MutBor Tokens → ℕ → ℕ → Result declared.ReadExpression Refusal → MutBor Tokens
    → Type 0) : Type 0 where
  pub callable : (alloc : Global) (old : MutBor Tokens) (floor : ℕ) → pre alloc old limit floor
  pub reads : (alloc : Global) (old new : MutBor Tokens) (floor : ℕ)
      (r : Result declared.ReadExpression Refusal) → post alloc old limit floor r new
      → Takes deep_of (expr limit floor (input old.now)) r new.now

-- What a rule gives was read, seen by view: a rule is given how deep a form may be, and what reads
-- its parts.
abbrev pub Follows : {X Y F : Type 0} → (X → Y) → (ℕ → (ℕ → Parser Deep) → Parser Y) → Reader F
    → Tokens → Result X Refusal → Tokens → Type 0
Follows view rule reader old r new =
    Takes view (rule reader.limit (expr reader.below) (input old)) r new

-- the same of a rule that goes on from an operand, which starts at a position: the form that is made
-- of it stands in its place
abbrev pub GoesOn : {D F : Type 0} → (ℕ → (ℕ → Parser Deep) → ℕ → Deep → Parser Deep) → Reader F
    → ℕ → declared.ReadExpression → declared.ReadExpression → Tokens → Result D Refusal → Tokens → Type 0
GoesOn rule reader start before x old r new =
    Takes (λ done. deep_of x)
    (rule reader.limit (expr reader.below) start (deep_of before) (input old)) r new

-- the same of a rule for a row, seen by view, from its first part on: the rule is given how often
-- it may go round, what was found, and how deep that is
abbrev pub FollowsRow : {A S F : Type 0} → (List A → S)
    → (ℕ → (ℕ → Parser Deep) → ℕ → S → ℕ → Parser (S × ℕ)) → S → Reader F → Tokens
    → Result (Vec A Global × ℕ) Refusal → Tokens → Type 0
FollowsRow view rule none reader old r new =
    Takes (λ p. (view p.0.items, p.1))
    (rule reader.limit (expr reader.below) (left (input old)) none 0 (input old)) r new

-- a part was put among those that were there, and its depth is the answer
abbrev pub TakesPart : {A S : Type 0} → (List A → S) → (S → Parser (S × ℕ)) → Vec A Global
    → Vec A Global → Input → Result ℕ Refusal → Tokens → Type 0
TakesPart view meant old parts i r new =
    Takes (λ d. (view parts.items, d)) (meant (view old.items) i) r new

-- an item was read behind those that were there, and its depth is the answer
abbrev pub TakesItem : Parsed Deep → Bool → List item.Item → List item.Item → Result ℕ Refusal
    → Tokens → Type 0
TakesItem meant is_spread old items (Ok d) new =
    (x : Deep) × (meant ≡ Some (x, input new)) × (x.depth ≡ d)
    × (items_of items ≡ join_items (items_of old) (one_item is_spread x.expr))
TakesItem meant is_spread old items (Err refusal) new = Refuses meant refusal

-- an entry was read behind those that were there, and its depth is the answer
abbrev pub TakesEntry : Parsed (Option Key) → Parser Deep → List entry.EntryExpression → List entry.EntryExpression
    → Result ℕ Refusal → Tokens → Type 0
TakesEntry meant sub old entries (Ok d) new =
    (key : Option Key) × (j : Input) × (x : Deep) × (meant ≡ Some (key, j))
    × (sub j ≡ Some (x, input new)) × (x.depth ≡ d)
    × (entries_of entries ≡ join_entries (entries_of old) (one_entry key x.expr))
TakesEntry meant sub old entries (Err refusal) new = Refuses (and_then meant (λ key. sub)) refusal

-- how many of the arguments stand before the position of this name; none where one has it
abbrev pub position_of : Name → Arguments → Option ℕ
position_of n NoArguments = Some 0
position_of n (MoreArguments m y rest) =
    match_ordering (name_cmp n m) (Some 0) None (option_map suc (position_of n rest))

-- the order of names that are lent
abbrev pub by_name : Bor Name → Bor Name → Ordering
by_name x y = name_cmp x.now y.now

-- arguments by their names, in the order of these
abbrev pub named_arguments : List (Bor Name × declared_expression.Expression) → Arguments
named_arguments [] = NoArguments
named_arguments (e ∷ rest) = MoreArguments e.0.now (expr_of e.1) (named_arguments rest)

-- the names of a signature: those of its parameters, and of what takes all other arguments
abbrev pub signature_names : List parameter.Parameter → Option Name → List Name
signature_names [] rest = rest_names rest
signature_names (p ∷ ps) rest = p.name.now ∷ signature_names ps rest

-- what stands in its parentheses
abbrev pub parameters_of : Vec parameter.Parameter Global × Option (Bor Name)
    → List Parameter × Option Name
parameters_of p = (map parameter_of p.0.items, option_copied p.1)
