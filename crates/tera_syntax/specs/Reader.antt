-- The reader, as a function: it goes over the pieces once, with the statements that are open on a
-- stack.
use Rattle.std.specs.Prelude.{ℕ, suc, nat_lt, ◌-◌, ◌==◌, length, List, [], ◌∷◌, Bool, true, false, Option, Some, None, option_map, option_and_then, bytes_eq, codes, if◌then◌else◌}
use Rattle.std.specs.Str.{byte}
use Rattle.tera_errors.specs.Site.{Text, Name}
use Rattle.tera_errors.specs.declared.span.Span.{Span}
use Rattle.tera_syntax_tokens.specs.declared.token.Kind.{Kind}
use Rattle.tera_syntax_tokens.specs.declared.token.Kind.TheVariants as k
use Rattle.tera_syntax_tokens.specs.Token.{Token}
use Rattle.tera_syntax_tokens.specs.Input.{Input, Parsed, begin, kind, text, start, next, span, same, is_word}
use Rattle.tera_syntax_tokens.specs.Literal.{literal}
use Rattle.tera_syntax_expressions.specs.Expressions.{expr, filters, attributes}
use Rattle.tera_syntax_expressions.specs.Headings.{calls}
use Rattle.tera_syntax_expressions.specs.Parameters.{signature}
use Rattle.tera_syntax_expressions.specs.Precedence as precedence
use Rattle.tera_syntax_tokens.specs.Cut.{Piece, Words, Comment, Variable, Block, Broken, is_alone}
use Rattle.tera_syntax_tree.specs.Tree.{Expr, Entries, Filters, NoFilters, Signature, Content, Print, Set, Include, Break, Continue, Node, Nodes, NoNodes, MoreNodes}
use Rattle.tera_syntax.specs.declared.heads.Surroundings.{Surroundings}
use Rattle.tera_syntax.specs.Heads.{Head, IfHead, ForHead, SetHead, SectionHead, BlockHead, CallHead, outside, make, splits, chains, inside, first, ends}
use Rattle.tera_syntax.specs.Grammar.{join}

-- what is taken of what was read, where the tag ends behind it
abbrev pub ended : {A B : Type 0} → (A → B) → Parsed A → Option B
ended taken None = None
ended taken (Some p) = if same k.End (kind p.1) then Some (taken p.0) else None

-- an expression that is all from here to the end of the tag, no deeper than this
unfoldable pub whole : ℕ → Input → Option Expr
whole limit i = ended (λ d. d.expr) (expr limit precedence.choice i)

-- filters that are all from here to the end of the tag, no deeper than this
unfoldable pub pipe : ℕ → Input → Option Filters
pipe limit i = ended (λ p. p.0) (filters limit i)

abbrev pub one : Node → Nodes
one node = MoreNodes node NoNodes

-- What is open: a statement whose end is not read yet.
pub record OpenStatement : Type 0 where
  -- what stands in front of it
  pub before : Nodes
  pub head : Head
  -- its body, once another tag of it ended that
  pub body : Option Nodes
  -- what ends it ends the statement around it too
  pub is_chained : Bool
  -- what it stands in
  pub surroundings : Surroundings

-- how far the reading is: what is open, from the innermost on, the nodes that were read in it, and
-- what these stand in
pub record Progress : Type 0 where
  pub statements : List OpenStatement
  pub found : Nodes
  pub surroundings : Surroundings

abbrev pub begun : Progress
begun = record { statements = []; found = NoNodes; surroundings = outside }

-- whether a node may stand here, where nodes may be as deep as the limit at the top
abbrev pub has_room : ℕ → Progress → Bool
has_room limit s = nat_lt (length s.statements) limit

-- a node more
abbrev pub added : Progress → Node → Progress
added s node =
    record {
      statements = s.statements;
      found = join s.found (one node);
      surroundings = s.surroundings;
    }

abbrev pub put : ℕ → Progress → Node → Option Progress
put limit s node = if has_room limit s then Some (added s node) else None

-- how deep an expression of a tag may be here
abbrev pub room : ℕ → Progress → ℕ
room limit s = limit - suc (length s.statements)

-- what the end of a statement makes of what was read last
abbrev pub made : Head → Option Nodes → Nodes → Node
made head None found = make head found NoNodes
made head (Some body) found = make head body found

-- what stands in front of a statement, and the statement
abbrev pub row : OpenStatement → Nodes → Nodes
row f found = join f.before (one (made f.head f.body found))

-- a statement with a body begins
abbrev pub opened : ℕ → Bool → Progress → Head → Option Progress
opened limit is_chained s head =
    if has_room limit s then Some (record {
      statements =
          record {
            before = s.found;
            head = head;
            body = None;
            is_chained = is_chained;
            surroundings = s.surroundings;
          } ∷ s.statements;
      found = NoNodes;
      surroundings = inside head s.surroundings;
    }) else None

abbrev pub divided_by : OpenStatement → Option Nodes → List OpenStatement → Nodes → Option Progress
divided_by f (Some body) fs found = None
divided_by f None fs found =
    Some (record {
      statements = record {
        before = f.before;
        head = f.head;
        body = Some found;
        is_chained = f.is_chained;
        surroundings = f.surroundings;
      } ∷ fs;
      found = NoNodes;
      surroundings = f.surroundings;
    })

-- `else`, or the first half of a tag that goes on, at a head that may have it: what was read is the
-- body
abbrev pub divided : (Head → Bool) → List OpenStatement → Nodes → Option Progress
divided may [] found = None
divided may (f ∷ fs) found = if may f.head then divided_by f f.body fs found else None

abbrev pub closed : List OpenStatement → Nodes → Option Progress
closed [] found = None
closed (f ∷ fs) found =
    if f.is_chained then closed fs (row f found)
    else Some (record { statements = fs; found = row f found; surroundings = f.surroundings })

-- the end of what is open
abbrev pub shut : List Token → List OpenStatement → Nodes → Option Progress
shut tokens [] found = None
shut tokens (f ∷ fs) found = if ends f.head tokens then closed (f ∷ fs) found else None

-- what it stands in that is open
abbrev pub around : List OpenStatement → Surroundings
around [] = outside
around (f ∷ fs) = f.surroundings

-- what a tag is
pub data Tag : Type 0 where
  Single : (node : Node) → Tag
  Opening : (head : Head) → Tag
  -- it goes on with a statement
  GoingOn : (head : Head) → Tag
  -- `else`
  Dividing : Tag
  -- any other, which may be an end
  Closing : Tag

abbrev pub looping_by : ℕ → Parsed (Option Name × Name) → Option Head
looping_by limit None = None
looping_by limit (Some p) = option_map (ForHead p.0.0 p.0.1) (whole limit p.1)

-- behind `for`
abbrev pub looping : ℕ → Input → Option Head
looping limit i = looping_by limit (calls i)

abbrev pub setting_by : ℕ → Bool → Name → Input → Kind → Option Tag
setting_by limit is_global name i k.Assign =
    option_map (λ e. Single (Set name e is_global)) (whole limit (next i))
setting_by limit is_global name i k.End = Some (Opening (SetHead name NoFilters is_global))
setting_by limit is_global name i k.Bar =
    option_map (λ fs. Opening (SetHead name fs is_global)) (pipe limit (next i))
setting_by limit is_global name i _ = None

-- behind `set` or `set_global`
abbrev pub setting : ℕ → Bool → Input → Option Tag
setting limit is_global i =
    if same k.Name (kind i) then setting_by limit is_global (text i) (next i) (kind (next i))
    else None

-- behind `filter`
abbrev pub sectioning : ℕ → Input → Option Tag
sectioning limit i = option_map (λ fs. Opening (SectionHead fs)) (pipe limit i)

abbrev pub block_at : Input → Option Tag
block_at i =
    if is_word (kind i)
    then (if same k.End (kind (next i))
    then Some (Opening (BlockHead (text i) (span (start i) (next i)))) else None) else None

-- behind `block`, where blocks may stand
abbrev pub blocking : Bool → Input → Option Tag
blocking q i = if q then block_at i else None

-- a signature that is all from here to the end of the tag, with defaults no deeper than this
unfoldable pub signed : ℕ → Input → Option Signature
signed limit i = ended (λ s. s) (signature limit i)

abbrev pub call_ended : Name → ℕ → Parsed (Entries × ℕ) → Option Head
call_ended name from None = None
call_ended name from (Some p) =
    if same k.Greater (kind p.1)
    then (if same k.End (kind (next p.1)) then Some (CallHead name p.0.0 (span from (next p.1)))
    else None) else None

-- the name of a component and its attributes, no deeper than this, up to what closes the tag, which
-- starts at a position
unfoldable pub called : ℕ → ℕ → Input → Option Head
called limit from i =
    if is_word (kind i) then call_ended (text i) from (attributes limit (next i)) else None

-- a tag that begins with `<`: a call with a body, or the end of one
abbrev pub calling : ℕ → Input → Option Tag
calling limit i =
    if same k.Slash (kind (next i)) then Some Closing
    else option_map Opening (called limit (start i) (next i))

-- the name in quotes that ends a tag
abbrev pub quoted_name_at : Input → Option Name
quoted_name_at i =
    if same k.Text (kind i) then (if same k.End (kind (next i)) then literal (text i) else None)
    else None

-- the same behind the first token
abbrev pub quoted_name : List Token → Option Name
quoted_name tokens = quoted_name_at (next (begin false tokens))

-- behind `include`
abbrev pub including : Input → Option Tag
including i =
    option_map (λ name. Single (Include name (span (start i) (next i)))) (quoted_name_at i)

-- a tag that is one word
abbrev pub alone : Text → List Token → Tag → Option Tag
alone word tokens tag = if is_alone word tokens then Some tag else None

-- a tag that is one word and leaves a turn of the loop that it stands in
abbrev pub leaving : Bool → Text → List Token → Node → Option Tag
leaving q word tokens node = if q then alone word tokens (Single node) else None

-- A tag that begins with this word, which is not reserved. Components are defined outside of all
-- statements.
unfoldable pub named : ℕ → Surroundings → List Token → Text → Option Tag
named limit q tokens word =
    if bytes_eq word (codes "set") then setting limit false (next (begin q.in_loop tokens)) else (
    if bytes_eq word (codes "set_global") then setting limit true (next (begin q.in_loop tokens))
    else (
    if bytes_eq word (codes "filter") then sectioning limit (next (begin q.in_loop tokens)) else (
    if bytes_eq word (codes "block") then blocking q.may_have_blocks (next (begin q.in_loop tokens))
    else (
    if bytes_eq word (codes "component") then None else (
    if bytes_eq word (codes "include") then including (next (begin false tokens)) else (
    if bytes_eq word (codes "break") then leaving q.may_leave (codes "break") tokens Break else (
    if bytes_eq word (codes "continue") then leaving q.may_leave (codes "continue") tokens Continue
    else Some Closing)))))))

-- whether a word that begins a statement begins with this byte and is this long
abbrev pub may_begin : ℕ → ℕ → Bool
may_begin first size =
    if size == 3 then first == byte "s" else (
    if size == 5 then first == byte "b" else (
    if size == 6 then first == byte "f" else (
    if size == 7 then first == byte "i" else (
    if size == 8 then first == byte "c" else (
    if size == 9 then first == byte "c" else (
    if size == 10 then first == byte "s" else false))))))

abbrev pub tag_by : ℕ → Surroundings → Surroundings → List Token → Kind → Option Tag
tag_by limit q outer tokens k.If =
    option_map (λ c. Opening (IfHead c)) (whole limit (next (begin q.in_loop tokens)))
tag_by limit q outer tokens k.For =
    option_map Opening (looping limit (next (begin q.in_loop tokens)))
tag_by limit q outer tokens k.Elif =
    option_map (λ c. GoingOn (IfHead c)) (whole limit (next (begin outer.in_loop tokens)))
tag_by limit q outer tokens k.Else = alone (codes "else") tokens Dividing
tag_by limit q outer tokens k.Less = calling limit (begin q.in_loop tokens)
tag_by limit q outer tokens k.Name = named limit q tokens (text (begin false tokens))
tag_by limit q outer tokens _ = None

-- A tag with expressions no deeper than this, with what it stands in, and what that stands in that
-- is open.
unfoldable pub tag : ℕ → Surroundings → Surroundings → List Token → Option Tag
tag limit q outer tokens = tag_by limit q outer tokens (first tokens)

abbrev pub taken : ℕ → Progress → List Token → Tag → Option Progress
taken limit s tokens (Single node) = put limit s node
taken limit s tokens (Opening head) = opened limit false s head
taken limit s tokens (GoingOn head) =
    option_and_then (λ t. opened limit true t head) (divided chains s.statements s.found)
taken limit s tokens Dividing = divided splits s.statements s.found
taken limit s tokens Closing = shut tokens s.statements s.found

-- a statement, or a tag that belongs to one
unfoldable pub statement : ℕ → Progress → List Token → Option Progress
statement limit s tokens =
    option_and_then (taken limit s tokens)
    (tag (room limit s) s.surroundings (around s.statements) tokens)

abbrev pub printed : ℕ → Progress → Option Expr → Option Progress
printed limit s None = None
printed limit s (Some value) = put limit s (Print value)

-- text of which trimming leaves nothing is no node
abbrev pub put_words : ℕ → Progress → Text → Span → Option Progress
put_words limit s [] position = Some s
put_words limit s (b ∷ bs) position = put limit s (Content (b ∷ bs) position)

-- a piece more, where nodes are no deeper than this
abbrev pub step : ℕ → Progress → Piece → Option Progress
step limit s (Words words position) = put_words limit s words position
step limit s Comment = Some s
step limit s (Variable tokens) =
    printed limit s (whole (room limit s) (begin s.surroundings.in_loop tokens))
step limit s (Block tokens) = statement limit s tokens
step limit s Broken = None

-- at the end nothing is open
abbrev pub finished : List OpenStatement → Nodes → Option Nodes
finished [] found = Some found
finished (f ∷ fs) found = None

-- the nodes of all pieces behind what was read
abbrev pub read_on : ℕ → Progress → List Piece → Option Nodes
read_on limit s [] = finished s.statements s.found
read_on limit s (piece ∷ rest) = option_and_then (λ t. read_on limit t rest) (step limit s piece)

-- the nodes of all pieces, no deeper than this
abbrev pub nodes : ℕ → List Piece → Option Nodes
nodes limit pieces = read_on limit begun pieces
