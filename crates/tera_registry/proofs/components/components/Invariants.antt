use Rattle.std.proofs.Common.{◌≡◌, ◌++◌, map, drop}
use Rattle.tera_syntax_tree.specs.View.{definitions_of}
use Rattle.tera_registry.specs.Components.{kept_of, kept_all}
use Rattle.tera_registry.proofs.components.components.Given as goal

abbrev pub invariant-loop-defined : goal.invariant-loop-defined
invariant-loop-defined l =
    map kept_of l.kept.items ++ kept_all l.file (definitions_of (drop l.defined-index l.definitions)) ≡ kept_all l.file (definitions_of l.definitions)
