use Rattle.std.proofs.Common.{◌≡◌, map, take, string_bytes}
use Rattle.tera_registry.specs.Kept.{entries_of}
use Rattle.tera_registry.proofs.templates.Templates.names.Given as goal

abbrev pub invariant-loop-template : goal.invariant-loop-template
invariant-loop-template l =
    map string_bytes l.names.items ≡ map (λ t. t.0) (take l.template-index (entries_of l.self.all.items))
