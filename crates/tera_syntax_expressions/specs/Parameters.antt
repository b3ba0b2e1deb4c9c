-- Signatures of components: what tokens derive them, and the same as a function.
use Rattle.std.specs.Prelude.{◌≡◌, ℕ, zero, suc, bytes_eq, codes, Bool, true, false, ◌||◌, List, [], ◌∷◌, ◌++◌, Option, Some, None, if◌then◌else◌, IsTrue}
use Rattle.tera_errors.specs.Site.{Text, Name}
use Rattle.tera_syntax_tree.specs.declared.component.ArgumentType.{ArgumentType}
use Rattle.tera_syntax_tree.specs.declared.component.ArgumentType.TheVariants as of
use Rattle.tera_syntax_tree.specs.Tree.{Literal, Parameter, Signature}
use Rattle.tera_syntax_tree.specs.Definitions.{has_fit_parameters}
use Rattle.tera_syntax_tokens.specs.declared.token.Kind.TheVariants as k
use Rattle.tera_syntax_tokens.specs.Input.{Input, Parser, and_then, ◌>>=◌, refuse, kind, text, next, left, same, expect, is_word}
use Rattle.tera_syntax_expressions.specs.Headings.{name}
use Rattle.tera_syntax_expressions.specs.Literals.{DerivesLiteral, written}

-- a type's name, whose first letter may be small
abbrev pub is_type : Text → Text → Text → Bool
is_type large small word = bytes_eq word large || bytes_eq word small

abbrev pub type_of : Text → Option ArgumentType
type_of word =
    if is_type (codes "String") (codes "string") word then Some of.String else (
    if is_type (codes "Bool") (codes "bool") word then Some of.Bool else (
    if is_type (codes "Integer") (codes "integer") word then Some of.Integer else (
    if is_type (codes "Number") (codes "number") word then Some of.Number else (
    if is_type (codes "Array") (codes "array") word then Some of.Array else (
    if is_type (codes "Map") (codes "map") word then Some of.Map else None)))))

-- the type of a parameter, if it is written: a colon there begins it
pub data DerivesType : Option ArgumentType → Input → Input → Type 0 where
  untyped : {i : Input} → (kind i ≡ k.Colon → ⊥) → DerivesType None i i
  typed : {t : ArgumentType} {i : Input} → kind i ≡ k.Colon → is_word (kind (next i)) ≡ true
      → type_of (text (next i)) ≡ Some t → DerivesType (Some t) i (next (next i))

-- its default, if it is written: a sign there begins it
pub data DerivesDefault : Option Literal → Input → Input → Type 0 where
  required : {i : Input} → (kind i ≡ k.Assign → ⊥) → DerivesDefault None i i
  defaults : {x : Literal} {i j : Input} → kind i ≡ k.Assign → DerivesLiteral x (next i) j
      → DerivesDefault (Some x) i j

-- a parameter by this name, from behind the name on
pub data DerivesNamed : Bool → Name → Parameter → Input → Input → Type 0 where
  named : {is_implicit : Bool} {n : Name} {t : Option ArgumentType} {d : Option Literal}
      {i a j : Input} → DerivesType t i a → DerivesDefault d a j
      → DerivesNamed is_implicit n
      (record { name = n; is_implicit = is_implicit; of_type = t; default = d }) i j

-- a parameter, whose name is not reserved
pub data DerivesParameter : Parameter → Input → Input → Type 0 where
  explicit : {p : Parameter} {i j : Input} → kind i ≡ k.Name
      → DerivesNamed false (text i) p (next i) j → DerivesParameter p i j
  implicit : {p : Parameter} {i j : Input} → kind i ≡ k.At → kind (next i) ≡ k.Name
      → DerivesNamed true (text (next i)) p (next (next i)) j → DerivesParameter p i j

-- Parameters with commas between; last may stand the name of what takes all other arguments.
pub data DerivesParameters : List Parameter → Option Name → Input → Input → Type 0 where
  last : {p : Parameter} {i j : Input} → DerivesParameter p i j
      → DerivesParameters (p ∷ []) None i j
  rest : {i : Input} → kind i ≡ k.Spread → kind (next i) ≡ k.Name
      → DerivesParameters [] (Some (text (next i))) i (next (next i))
  more : {p : Parameter} {ps : List Parameter} {r : Option Name} {i a j : Input}
      → DerivesParameter p i a → kind a ≡ k.Comma → DerivesParameters ps r (next a) j
      → DerivesParameters (p ∷ ps) r i j

-- what stands in the parentheses of a signature
pub data DerivesAll : List Parameter → Option Name → Input → Input → Type 0 where
  none : {i : Input} → DerivesAll [] None i i
  some : {ps : List Parameter} {r : Option Name} {i j : Input} → DerivesParameters ps r i j
      → DerivesAll ps r i j

-- A component's name, which may be a reserved word, and its parameters in parentheses.
pub data DerivesSignature : Signature → Input → Input → Type 0 where
  signs : {ps : List Parameter} {r : Option Name} {i a : Input} → is_word (kind i) ≡ true
      → kind (next i) ≡ k.LeftParenthesis → DerivesAll ps r (next (next i)) a
      → kind a ≡ k.RightParenthesis
      → IsTrue (has_fit_parameters (record { name = text i; parameters = ps; rest = r }))
      → DerivesSignature (record { name = text i; parameters = ps; rest = r }) i (next a)

-- The same as a function, where defaults are no deeper than the limit.
abbrev pub type_at : Option ArgumentType → Parser (Option ArgumentType)
type_at None = refuse
type_at (Some t) = λ i. Some (Some t, next i)

-- behind the colon
abbrev pub named_type : Parser (Option ArgumentType)
named_type = λ i. if is_word (kind i) then type_at (type_of (text i)) i else None

unfoldable pub parameter_type : Parser (Option ArgumentType)
parameter_type = λ i. if same k.Colon (kind i) then named_type (next i) else Some (None, i)

-- behind the dots
unfoldable pub rest_name : List Parameter → Parser (List Parameter × Option Name)
rest_name found = λ i. and_then (name i) (λ n. λ j. Some ((found, Some n), j))

-- behind a parameter stands a comma and more, or they end
abbrev pub behind_parameter : (List Parameter → Parser (List Parameter × Option Name))
    → List Parameter → Parser (List Parameter × Option Name)
behind_parameter further found =
    λ j. if same k.Comma (kind j) then further found (next j) else Some ((found, None), j)

module _ (limit : ℕ) where
  unfoldable pub default_value : Parser (Option Literal)
  default_value =
      λ i. if same k.Assign (kind i)
      then and_then (written limit (next i)) (λ x. λ j. Some (Some x, j)) else Some (None, i)

  -- from behind its name on
  unfoldable pub named_parameter : Bool → Name → Parser Parameter
  named_parameter is_implicit n = parameter_type >>= (λ t. default_value >>= (λ d. λ j.
      Some (record { name = n; is_implicit = is_implicit; of_type = t; default = d }, j)))

  -- from its name on
  unfoldable pub parameter_by_name : Bool → Parser Parameter
  parameter_by_name is_implicit = name >>= named_parameter is_implicit

  unfoldable pub parameter : Parser Parameter
  parameter =
      λ i. if same k.At (kind i) then parameter_by_name true (next i) else parameter_by_name false i

  -- a parameter behind those that were found
  unfoldable pub with_parameter : List Parameter → Parser (List Parameter)
  with_parameter found = λ i. and_then (parameter i) (λ p. λ j. Some (found ++ p ∷ [], j))

  unfoldable pub parameters_from : ℕ → List Parameter → Parser (List Parameter × Option Name)
  parameters_from zero found = refuse
  parameters_from (suc n) found =
      λ i. if same k.Spread (kind i) then rest_name found (next i)
      else and_then (with_parameter found i) (behind_parameter (parameters_from n))

  -- what stands in the parentheses
  unfoldable pub all_parameters : Parser (List Parameter × Option Name)
  all_parameters =
      λ i. if same k.RightParenthesis (kind i) then Some (([], None), i)
      else parameters_from (left i) [] i

abbrev pub fit : Signature → Parser Signature
fit s = λ j. if has_fit_parameters s then Some (s, j) else None

abbrev pub signature_by : Name → List Parameter × Option Name → Parser Signature
signature_by n p =
    λ i. and_then (expect k.RightParenthesis i)
    (λ _. fit (record { name = n; parameters = p.0; rest = p.1 }))

-- from behind the name on
unfoldable pub signature_from : ℕ → Name → Parser Signature
signature_from limit n = expect k.LeftParenthesis >>= (λ _. all_parameters limit >>= signature_by n)

-- a signature with defaults no deeper than the number
unfoldable pub signature : ℕ → Parser Signature
signature limit = λ i. if is_word (kind i) then signature_from limit (text i) (next i) else None
