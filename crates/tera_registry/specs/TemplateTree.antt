-- The tree that a template keeps for contracts.
use Rattle.std.specs.Prelude.{Option}
use Rattle.tera_errors.specs.Site.{Name}
use Rattle.tera_syntax_tree.specs.Tree.{Tree}
use Rattle.tera_syntax_tree.specs.View.{definitions_of, nodes_of}
use Rattle.tera_registry.specs.declared.template_tree.TemplateTree.{TemplateTree}

-- that of a text which extends the template of this name, if it does
abbrev pub tree_meant : Option Name → TemplateTree → Tree
tree_meant parent meant = record {
  parent = parent;
  nodes = nodes_of meant.nodes;
  definitions = definitions_of meant.definitions;
}
