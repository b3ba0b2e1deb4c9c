-- Which templates define a block.
use Rattle.std.specs.Prelude.{List, [], ◌∷◌, Option, Some, None, option_map}
use Rattle.std.specs.List.{filter_map}
use Rattle.tera_errors.specs.Site.{Name}
use Rattle.tera_syntax_tree.specs.Tree.{Nodes}
use Rattle.tera_syntax_tree.specs.Blocks.{blocks}
use Rattle.tera_meaning.specs.Registry.{Entry, Registry}
use Rattle.tera_meaning.specs.Resolve.{entry_at, parents, or_none}

-- a block as one template defines it: the template in whose text it stands, and its body
pub record Definer : Type 0 where
  pub file : Name
  pub body : Nodes

-- a template defines a block that stands anywhere in it
abbrev pub definer_in : Name → Entry → Option Definer
definer_in block t =
    option_map (λ b. record { file = t.0; body = b.1 }) (entry_at block (blocks t.1.tree.nodes))

-- the parents of a template that is accepted, nearest first
abbrev pub ancestors : Registry → Entry → List Entry
ancestors r t = or_none (parents r t)

abbrev pub definers_in : Name → List Entry → List Definer
definers_in block ts = filter_map (definer_in block) ts

abbrev pub definers_from : Registry → Name → Option Entry → List Definer
definers_from r block None = []
definers_from r block (Some t) = definers_in block (t ∷ ancestors r t)

-- Those that define a block for a template, nearest first.
-- A text beside the registry is no template.
abbrev pub definers : Registry → Option Name → Name → List Definer
definers r None block = []
definers r (Some template) block = definers_from r block (entry_at template r.templates)
