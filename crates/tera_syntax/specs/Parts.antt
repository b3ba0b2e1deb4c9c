-- The reader of nodes and of the components between them, as a function.
use Rattle.std.specs.Prelude.{ℕ, List, [], ◌∷◌, ◌++◌, Bool, true, false, Option, Some, None, option_map, option_and_then, if◌then◌else◌}
use Rattle.tera_syntax_tree.specs.Tree.{Signature, Nodes, NoNodes, Definitions}
use Rattle.tera_syntax_tokens.specs.Token.{Token}
use Rattle.tera_syntax_tokens.specs.Input.{begin, next}
use Rattle.tera_syntax_tokens.specs.Cut.{Piece, Words, Comment, Variable, Block, Broken}
use Rattle.tera_syntax.specs.declared.heads.Surroundings.{Surroundings}
use Rattle.tera_syntax.specs.Heads.{outside, in_component, is_component, ends_component}
use Rattle.tera_syntax.specs.Reader.{OpenStatement, Progress, begun, signed, step, finished}

-- a component whose end is not read yet, and what stands in front of it
pub record OpenComponent : Type 0 where
  pub before : Nodes
  pub signature : Signature

-- how far the reading is: the components that were read, the one that is open, and what was read of
-- the nodes in it, or where none is open, of the text's own
pub record Parts : Type 0 where
  pub definitions : Definitions
  pub component : Option OpenComponent
  pub progress : Progress

abbrev pub parts_begun : Parts
parts_begun = record { definitions = []; component = None; progress = begun }

-- a piece that neither begins a component nor ends one
abbrev pub plain_step : ℕ → Parts → Piece → Option Parts
plain_step limit p piece =
    option_map
    (λ s. record { definitions = p.definitions; component = p.component; progress = s })
    (step limit p.progress piece)

-- other nodes are read, which stand in these surroundings
abbrev pub turned : Progress → Nodes → Surroundings → Progress
turned s found q = record { statements = s.statements; found = found; surroundings = q }

-- a component begins
abbrev pub component_begun : Parts → Signature → Parts
component_begun p s =
    record {
      definitions = p.definitions;
      component = Some (record { before = p.progress.found; signature = s });
      progress = turned p.progress NoNodes in_component;
    }

-- a component ends: what was read is its body
abbrev pub component_ended : Parts → OpenComponent → Parts
component_ended p c =
    record {
      definitions = p.definitions ++ (c.signature, p.progress.found) ∷ [];
      component = None;
      progress = turned p.progress c.before outside;
    }

-- a tag outside of all statements
abbrev pub top_tag : ℕ → Parts → Option OpenComponent → List Token → Option Parts
top_tag limit p None tokens =
    if is_component tokens
    then option_map (component_begun p) (signed limit (next (begin false tokens)))
    else plain_step limit p (Block tokens)
top_tag limit p (Some c) tokens =
    if ends_component c.signature.name tokens then Some (component_ended p c)
    else plain_step limit p (Block tokens)

abbrev pub none_open : List OpenStatement → Bool
none_open [] = true
none_open (f ∷ fs) = false

-- whether no statement is open
abbrev pub is_top : Progress → Bool
is_top s = none_open s.statements

-- a piece more, where nodes are no deeper than this
abbrev pub parts_step : ℕ → Parts → Piece → Option Parts
parts_step limit p (Words words position) = plain_step limit p (Words words position)
parts_step limit p Comment = plain_step limit p Comment
parts_step limit p (Variable tokens) = plain_step limit p (Variable tokens)
parts_step limit p (Block tokens) =
    if is_top p.progress then top_tag limit p p.component tokens
    else plain_step limit p (Block tokens)
parts_step limit p Broken = None

-- the nodes and the components, at the end of the text, where no component is open
abbrev pub parts_ended : Parts → Option OpenComponent → Option (Nodes × Definitions)
parts_ended p None =
    option_map (λ nodes. (nodes, p.definitions)) (finished p.progress.statements p.progress.found)
parts_ended p (Some c) = None

abbrev pub parts_finished : Parts → Option (Nodes × Definitions)
parts_finished p = parts_ended p p.component

-- the nodes and the components of all pieces behind what was read
abbrev pub parts_read_on : ℕ → Parts → List Piece → Option (Nodes × Definitions)
parts_read_on limit p [] = parts_finished p
parts_read_on limit p (piece ∷ rest) =
    option_and_then (λ t. parts_read_on limit t rest) (parts_step limit p piece)
