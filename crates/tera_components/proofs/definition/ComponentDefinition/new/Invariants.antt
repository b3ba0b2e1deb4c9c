use Rattle.std.proofs.Common.{◌≡◌, take, map as map_list}
use Rattle.tera_syntax_tree.specs.View.{parameter_of}
use Rattle.tera_components.specs.Definition.{AreNames, formal_of}
use Rattle.tera_components.proofs.definition.ComponentDefinition.new.Given as goal

abbrev pub invariant-loop-parameter : goal.invariant-loop-parameter
invariant-loop-parameter l = record {
  made : l.arguments.items ≡ map_list formal_of (map_list parameter_of (take l.parameter-index l.parameter-items));
  named : AreNames l.names l.arguments.items;
}
