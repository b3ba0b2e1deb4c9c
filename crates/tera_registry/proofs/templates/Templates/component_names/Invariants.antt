use Rattle.std.proofs.Common.{◌≡◌, ◌++◌, map, string_bytes}
use Rattle.tera_registry.proofs.templates.Templates.component_names.Given as goal

abbrev pub invariant-loop-name : goal.invariant-loop-name
invariant-loop-name l =
    map string_bytes l.names.items ++ map string_bytes l.name-iterator ≡ map string_bytes l.initial.name-iterator
