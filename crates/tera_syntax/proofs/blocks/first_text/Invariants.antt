use Rattle.std.proofs.Common.{◌≡◌, drop}
use Rattle.tera_syntax_tree.specs.View.{nodes_of}
use Rattle.tera_syntax.specs.Names.{first_text}
use Rattle.tera_syntax.proofs.blocks.first_text.Given as goal

abbrev pub invariant-loop-node : goal.invariant-loop-node
invariant-loop-node l = first_text (nodes_of l.nodes) ≡ first_text (nodes_of (drop l.node-index l.nodes))
