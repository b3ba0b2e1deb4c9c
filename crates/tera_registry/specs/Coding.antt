-- How proofs store what was read. No contract speaks of it.
use Rattle.std.specs.Prelude.{List, []}
use Rattle.std.specs.Coded.{Coded, coded_list}
use Rattle.tera_syntax_tree.specs.contracts.node.DefinedComponent as component
use Rattle.tera_syntax_tree.specs.contracts.node.Node as node
use Rattle.tera_syntax_tree.specs.declared.node.DefinedComponent.{DefinedComponent}
use Rattle.tera_syntax_tree.specs.declared.node.Node.{Node}
use mir.Syntax.{static}

-- what these borrow from does not matter to that
abbrev pub read_coding : Coded (List Node)
read_coding = coded_list (node.the_row (record { mir = static; lft = [] })).coded

abbrev pub defined_coding : Coded (List DefinedComponent)
defined_coding = coded_list (component.the_row (record { mir = static; lft = [] })).coded
