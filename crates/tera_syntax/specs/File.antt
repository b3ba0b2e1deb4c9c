-- The reader of a whole text, as a function: nodes and components, and in front of them what the
-- text extends.
use Rattle.std.specs.Prelude.{ℕ, List, [], ◌∷◌, Bool, true, false, ◌&&◌, Option, Some, None, option_map, option_and_then, if◌then◌else◌}
use Rattle.tera_errors.specs.Site.{Name}
use Rattle.tera_syntax_tree.specs.Tree.{Tree}
use Rattle.tera_syntax_tree.specs.Blocks.{has_each_block_once}
use Rattle.tera_syntax_tree.specs.Definitions.{has_each_component_once}
use Rattle.tera_syntax_tokens.specs.Cut.{Piece, Words, Comment, Variable, Block, Broken}
use Rattle.tera_syntax.specs.Heads.{is_extends}
use Rattle.tera_syntax.specs.Grammar.{is_space}
use Rattle.tera_syntax.specs.Reader.{quoted_name}
use Rattle.tera_syntax.specs.Parts.{Parts, parts_begun, parts_step, parts_finished}

-- how far the reading is: what the text extends, whether white space and comments alone were read,
-- and what was read
pub record File : Type 0 where
  pub parent : Option Name
  pub is_front : Bool
  pub parts : Parts

abbrev pub file_begun : File
file_begun = record { parent = None; is_front = true; parts = parts_begun }

-- the tag `extends`
abbrev pub extending : File → Option Name → Option File
extending f = option_map (λ name. record { parent = Some name; is_front = false; parts = f.parts })

abbrev pub is_front_piece : Piece → Bool
is_front_piece (Words words position) = is_space words
is_front_piece Comment = true
is_front_piece (Variable tokens) = false
is_front_piece (Block tokens) = false
is_front_piece Broken = false

-- a piece that is no tag `extends`, or stands too late to be one
abbrev pub kept : ℕ → File → Piece → Option File
kept limit f piece =
    option_map
    (λ p. record { parent = f.parent; is_front = f.is_front && is_front_piece piece; parts = p })
    (parts_step limit f.parts piece)

abbrev pub is_extends_piece : Piece → Bool
is_extends_piece (Words words position) = false
is_extends_piece Comment = false
is_extends_piece (Variable tokens) = false
is_extends_piece (Block tokens) = is_extends tokens
is_extends_piece Broken = false

abbrev pub parent_in : Piece → Option Name
parent_in (Words words position) = None
parent_in Comment = None
parent_in (Variable tokens) = None
parent_in (Block tokens) = quoted_name tokens
parent_in Broken = None

-- a piece more, where nodes are no deeper than this
abbrev pub file_step : ℕ → File → Piece → Option File
file_step limit f piece =
    if f.is_front && is_extends_piece piece then extending f (parent_in piece)
    else kept limit f piece

-- the tree, at the end of the text
abbrev pub file_finished : File → Option Tree
file_finished f =
    option_map (λ all. record { parent = f.parent; nodes = all.0; definitions = all.1 })
    (parts_finished f.parts)

-- the tree of all pieces behind what was read
abbrev pub file_read_on : ℕ → File → List Piece → Option Tree
file_read_on limit f [] = file_finished f
file_read_on limit f (piece ∷ rest) =
    option_and_then (λ g. file_read_on limit g rest) (file_step limit f piece)

-- the tree of all pieces, no deeper than this
abbrev pub spelled : ℕ → List Piece → Option Tree
spelled limit pieces = file_read_on limit file_begun pieces

-- a tree, if no two of its blocks have one name, and no two of its components
abbrev pub once : Tree → Option Tree
once tree =
    if has_each_block_once tree.nodes && has_each_component_once tree then Some tree else None

-- the tree of all pieces, no deeper than this, if no two of its blocks have one name, and no two of
-- its components
abbrev pub file : ℕ → List Piece → Option Tree
file limit pieces = option_and_then once (spelled limit pieces)
