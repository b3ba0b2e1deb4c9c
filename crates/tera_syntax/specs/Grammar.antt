-- What pieces derive: nodes, components that are defined between them, and what they extend.
use Rattle.std.specs.Prelude.{◌≡◌, ◌≢◌, List, [], ◌∷◌, length, ◌==◌, Bool, true, false, ◌&&◌, Option, Some, None, codes, IsTrue}
use Rattle.std.specs.Str.{trim_start}
use Rattle.tera_errors.specs.Site as site
use Rattle.tera_errors.specs.declared.span.Span.{Span}
use Rattle.tera_syntax_tree.specs.Tree.{Expr, Entries, Filters, NoFilters, Signature, Content, Print, Set, Include, Break, Continue, Node, Nodes, NoNodes, MoreNodes, Definitions}
use Rattle.tera_syntax_tokens.specs.declared.token.Kind.{Kind}
use Rattle.tera_syntax_tokens.specs.declared.token.Kind.TheVariants as k
use Rattle.tera_syntax_tokens.specs.Token.{Token}
use Rattle.tera_syntax_tokens.specs.Input.{Input, begin, kind, text, start, next, span, is_word}
use Rattle.tera_syntax_tokens.specs.Literal.{literal}
use Rattle.tera_syntax_tokens.specs.Cut.{Piece, Words, Comment, Variable, Block, is_alone}
use Rattle.tera_syntax_expressions.specs.Grammar.{Derives, DerivesAttributes, DerivesFilters}
use Rattle.tera_syntax_expressions.specs.Headings.{Names, Calls}
use Rattle.tera_syntax_expressions.specs.Parameters.{DerivesSignature}
use Rattle.tera_syntax.specs.declared.heads.Surroundings.{Surroundings}
use Rattle.tera_syntax.specs.Heads.{Head, IfHead, ForHead, SetHead, SectionHead, BlockHead, CallHead, outside, in_component, make, splits, chains, inside, first, ends, ends_component}

-- The tokens from here to the end of the tag are the expression.
pub data DerivesWhole : Expr → Input → Type 0 where
  whole : {x : Expr} {i end : Input} → Derives 0 x i end → kind end ≡ k.End → DerivesWhole x i

-- The tokens from here to the end of the tag are filters in a row.
pub data DerivesPipe : Filters → Input → Type 0 where
  pipe : {fs : Filters} {i end : Input} → DerivesFilters fs i end → kind end ≡ k.End
      → DerivesPipe fs i

-- the tag is this word alone, which is of this kind
abbrev pub IsWord : Kind → site.Text → List Token → Type 0
IsWord s word tokens = (first tokens ≡ s) × IsTrue (is_alone word tokens)

-- the tag begins with this word, which is not reserved
abbrev pub Begins : site.Text → List Token → Type 0
Begins word tokens = (first tokens ≡ k.Name) × (text (begin false tokens) ≡ word)

-- the tag is this word, which is not reserved, and behind it this name in quotes
abbrev pub Quotes : site.Text → site.Name → List Token → Type 0
Quotes word name tokens =
    let i = next (begin false tokens) in
    Begins word tokens × (kind i ≡ k.Text) × (literal (text i) ≡ Some name)
    × (kind (next i) ≡ k.End)

-- the word that binds a name, in all turns or in this one
abbrev pub set_word : Bool → site.Text
set_word true = codes "set_global"
set_word false = codes "set"

-- A tag that is a statement in these surroundings.
pub data Simple : Surroundings → Node → List Token → Type 0 where
  set : {q : Surroundings} {is_global : Bool} {e : Expr} {tokens : List Token}
      → Begins (set_word is_global) tokens → Names (next (begin q.in_loop tokens)) k.Assign
      → DerivesWhole e (next (next (next (begin q.in_loop tokens))))
      → Simple q (Set (text (next (begin q.in_loop tokens))) e is_global) tokens
  -- the span is that of the name with its quotes
  includes : {q : Surroundings} {name : site.Name} {tokens : List Token}
      → Quotes (codes "include") name tokens
      → Simple q
      (Include name
      (span (start (next (begin false tokens))) (next (next (begin false tokens))))) tokens
  breaks : {q : Surroundings} {tokens : List Token} → IsTrue q.may_leave
      → IsWord k.Name (codes "break") tokens → Simple q Break tokens
  continues : {q : Surroundings} {tokens : List Token} → IsTrue q.may_leave
      → IsWord k.Name (codes "continue") tokens → Simple q Continue tokens

-- The first tag of a statement with a body.
pub data Opens : Surroundings → Head → List Token → Type 0 where
  choice : {q : Surroundings} {c : Expr} {tokens : List Token} → first tokens ≡ k.If
      → DerivesWhole c (next (begin q.in_loop tokens)) → Opens q (IfHead c) tokens
  loop : {q : Surroundings} {key : Option site.Name} {name : site.Name} {e : Expr} {i : Input}
      {tokens : List Token} → first tokens ≡ k.For
      → Calls key name (next (begin q.in_loop tokens)) i → DerivesWhole e i
      → Opens q (ForHead key name e) tokens
  capture : {q : Surroundings} {is_global : Bool} {tokens : List Token}
      → Begins (set_word is_global) tokens → Names (next (begin q.in_loop tokens)) k.End
      → Opens q (SetHead (text (next (begin q.in_loop tokens))) NoFilters is_global) tokens
  filtered : {q : Surroundings} {is_global : Bool} {fs : Filters} {tokens : List Token}
      → Begins (set_word is_global) tokens → Names (next (begin q.in_loop tokens)) k.Bar
      → DerivesPipe fs (next (next (next (begin q.in_loop tokens))))
      → Opens q (SetHead (text (next (begin q.in_loop tokens))) fs is_global) tokens
  section : {q : Surroundings} {fs : Filters} {tokens : List Token} → Begins (codes "filter") tokens
      → DerivesPipe fs (next (begin q.in_loop tokens)) → Opens q (SectionHead fs) tokens
  -- its name may be a reserved word
  block : {q : Surroundings} {tokens : List Token} → IsTrue q.may_have_blocks
      → Begins (codes "block") tokens
      → is_word (kind (next (begin q.in_loop tokens))) ≡ true
      → kind (next (next (begin q.in_loop tokens))) ≡ k.End
      → Opens q
      (BlockHead (text (next (begin q.in_loop tokens)))
      (span (start (next (begin q.in_loop tokens)))
      (next (next (begin q.in_loop tokens))))) tokens
  -- its name may be a reserved word; the span is that of `<` to `>`
  call : {q : Surroundings} {xs : Entries} {a : Input} {tokens : List Token} → first tokens ≡ k.Less
      → is_word (kind (next (begin q.in_loop tokens))) ≡ true
      → DerivesAttributes xs (next (next (begin q.in_loop tokens))) a → kind a ≡ k.Greater
      → kind (next a) ≡ k.End
      → Opens q
      (CallHead (text (next (begin q.in_loop tokens))) xs
      (span (start (begin q.in_loop tokens)) (next a))) tokens

-- A tag that goes on with a statement: what follows is a statement that stands alone in the other
-- body.
pub data GoesOn : Surroundings → Head → List Token → Type 0 where
  elif : {q : Surroundings} {c : Expr} {tokens : List Token} → first tokens ≡ k.Elif
      → DerivesWhole c (next (begin q.in_loop tokens)) → GoesOn q (IfHead c) tokens

mutual
  -- The pieces from the first position to the second are nodes in these surroundings.
  pub data DerivesNodes : Surroundings → Nodes → List Piece → List Piece → Type 0 where
    empty : {q : Surroundings} {i : List Piece} → DerivesNodes q NoNodes i i
    content : {q : Surroundings} {words : site.Text} {position : Span} {rest : Nodes}
        {i j : List Piece} → words ≢ [] → DerivesNodes q rest i j
        → DerivesNodes q (MoreNodes (Content words position) rest) (Words words position ∷ i) j
    -- text of which trimming leaves nothing is no node
    blank : {q : Surroundings} {position : Span} {nodes : Nodes} {i j : List Piece}
        → DerivesNodes q nodes i j → DerivesNodes q nodes (Words [] position ∷ i) j
    comment : {q : Surroundings} {nodes : Nodes} {i j : List Piece} → DerivesNodes q nodes i j
        → DerivesNodes q nodes (Comment ∷ i) j
    print : {q : Surroundings} {value : Expr} {tokens : List Token} {rest : Nodes}
        {i j : List Piece} → DerivesWhole value (begin q.in_loop tokens) → DerivesNodes q rest i j
        → DerivesNodes q (MoreNodes (Print value) rest) (Variable tokens ∷ i) j
    single : {q : Surroundings} {node : Node} {tokens : List Token} {rest : Nodes}
        {i j : List Piece} → Simple q node tokens → DerivesNodes q rest i j
        → DerivesNodes q (MoreNodes node rest) (Block tokens ∷ i) j
    bodied : {q : Surroundings} {head : Head} {tokens : List Token} {body other rest : Nodes}
        {i m l j : List Piece} → Opens q head tokens → DerivesNodes (inside head q) body i m
        → DerivesRest q head other m l → DerivesNodes q rest l j
        → DerivesNodes q (MoreNodes (make head body other) rest) (Block tokens ∷ i) j

  -- What follows the body of a statement with this head, up to its end.
  pub data DerivesRest : Surroundings → Head → Nodes → List Piece → List Piece → Type 0 where
    ended : {q : Surroundings} {head : Head} {tokens : List Token} {i : List Piece}
        → IsTrue (ends head tokens) → DerivesRest q head NoNodes (Block tokens ∷ i) i
    split : {q : Surroundings} {head : Head} {tokens last : List Token} {body : Nodes}
        {i j : List Piece} → IsTrue (splits head) → IsWord k.Else (codes "else") tokens
        → DerivesNodes q body i (Block last ∷ j) → IsTrue (ends head last)
        → DerivesRest q head body (Block tokens ∷ i) j
    chained : {q : Surroundings} {head further : Head} {tokens : List Token} {body other : Nodes}
        {i m j : List Piece} → IsTrue (chains head) → GoesOn q further tokens
        → DerivesNodes (inside further q) body i m → DerivesRest q further other m j
        → DerivesRest q head (MoreNodes (make further body other) NoNodes) (Block tokens ∷ i) j

-- The tag defines a component with this signature.
pub data Defines : Signature → List Token → Type 0 where
  defines : {s : Signature} {j : Input} {tokens : List Token} → Begins (codes "component") tokens
      → DerivesSignature s (next (begin false tokens)) j → kind j ≡ k.End → Defines s tokens

-- nodes, and more behind them
abbrev pub join : Nodes → Nodes → Nodes
join NoNodes more = more
join (MoreNodes node rest) more = MoreNodes node (join rest more)

-- The pieces from here to the end of the text are nodes, and between these, outside of all of them,
-- components that are defined.
pub data DerivesParts : Nodes → Definitions → List Piece → Type 0 where
  last : {nodes : Nodes} {i : List Piece} → DerivesNodes outside nodes i []
      → DerivesParts nodes [] i
  component : {before body nodes : Nodes} {s : Signature} {definitions : Definitions}
      {tokens end : List Token} {i m j : List Piece}
      → DerivesNodes outside before i (Block tokens ∷ m) → Defines s tokens
      → DerivesNodes in_component body m (Block end ∷ j) → IsTrue (ends_component s.name end)
      → DerivesParts nodes definitions j
      → DerivesParts (join before nodes) ((s, body) ∷ definitions) i

-- the tag is `extends` and this name in quotes
abbrev pub Extends : site.Name → List Token → Type 0
Extends name tokens = Quotes (codes "extends") name tokens

-- nothing but white space
abbrev pub is_space : site.Text → Bool
is_space words = length (trim_start words) == 0

-- texts of nothing but white space
abbrev pub are_spaces : Nodes → Bool
are_spaces NoNodes = true
are_spaces (MoreNodes (Content words position) rest) = is_space words && are_spaces rest
are_spaces (MoreNodes node rest) = false

-- All pieces of a text are nodes and components. Where it extends a template, nothing stands before
-- the tag but white space and comments.
pub data DerivesFile : Option site.Name → Nodes → Definitions → List Piece → Type 0 where
  root : {nodes : Nodes} {definitions : Definitions} {i : List Piece}
      → DerivesParts nodes definitions i → DerivesFile None nodes definitions i
  child : {name : site.Name} {tokens : List Token} {front nodes : Nodes}
      {definitions : Definitions} {i j : List Piece}
      → DerivesNodes outside front i (Block tokens ∷ j) → IsTrue (are_spaces front)
      → Extends name tokens → DerivesParts nodes definitions j
      → DerivesFile (Some name) (join front nodes) definitions i
