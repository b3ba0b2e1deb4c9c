-- Templates by whose parents a block is looked for.
use Rattle.std.specs.Prelude.{◌≡◌, ℕ, List, [], length, map, slice_get, Option, Some, None, Ok}
use Rattle.std.specs.declared.alloc.Global.{Global}
use Rattle.std.specs.declared.rc.Rc.{Rc}
use Rattle.tera_errors.specs.Site.{Name}
use Rattle.tera_syntax_tree.specs.Tree.{Nodes}
use Rattle.tera_syntax_tree.specs.Blocks.{blocks}
use Rattle.tera_meaning.specs.Registry.{Entry, Registry}
use Rattle.tera_meaning.specs.Resolve.{parents}
use Rattle.tera_meaning.specs.Lineage.{ancestors}
use Rattle.tera_registry.specs.declared.template.Template.{Template as Stored}
use Rattle.tera_registry.specs.declared.roots.Parent.{Parent}
use Rattle.tera_registry.specs.Kept.{entries_of}
use Rattle.tera_registry.specs.Links.{AreUps}
use Rattle.tera_registry.specs.Order.{Rises}

-- the blocks of a template, in the order of its text
abbrev pub blocks_of : Entry → List (Name × Nodes)
blocks_of t = blocks t.1.tree.nodes

abbrev pub names_of : Entry → List Name
names_of t = map (λ b. b.0) (blocks_of t)

-- each template has all its parents
pub record Grounded (r : Registry) : Type 0 where
  pub each : (i : ℕ) (t : Entry) → slice_get r.templates i ≡ Some t
      → parents r t ≡ Ok (ancestors r t)

-- these are the templates of a registry in which each has all its parents,
-- and this is what each extends
pub record Climbable (r : Registry) (ts : List (Rc Stored Global)) (ups : List Parent) : Type 0 where
  pub same : entries_of ts ≡ r.templates
  pub rises : Rises r.templates
  pub above : AreUps r ups (length r.templates)
  pub grounded : Grounded r

-- how many parents a template has, where one is
abbrev pub ancestors_at : Registry → Option Entry → List Entry
ancestors_at r None = []
ancestors_at r (Some t) = ancestors r t
