use Rattle.std.proofs.Common.{◌≡◌, ℕ, ◌++◌, drop}
use Rattle.tera_syntax_tree.specs.Inside.{DefinitionsInside}
use Rattle.tera_syntax_tree.specs.View.{definitions_of}
use Rattle.tera_syntax.specs.Names.{components_at}
use Rattle.tera_syntax.specs.Positions.{NamesWithin}
use Rattle.tera_syntax.specs.View.{names_of}
use Rattle.tera_syntax.proofs.blocks.gather_components.Given as goal

abbrev pub invariant-loop-definition : goal.invariant-loop-definition
invariant-loop-definition l = record {
  gathered : names_of l.names.items ++ components_at (definitions_of (drop l.definition-index l.definitions)) ≡ names_of l.initial.names.items ++ components_at (definitions_of l.definitions);
  points : (size : ℕ) → DefinitionsInside size (definitions_of l.definitions) → NamesWithin size l.initial.names.items → DefinitionsInside size (definitions_of (drop l.definition-index l.definitions)) × NamesWithin size l.names.items;
}
