use Rattle.std.proofs.Common.{◌≡◌, map, string_bytes, take}
use Rattle.tera.specs.Registry.{registry_of}
use Rattle.tera_run_script.specs.Preview.{shown}
use Rattle.tera_run_script.proofs.preview.show_all.Given as goal

abbrev pub invariant-loop-name : goal.invariant-loop-name
invariant-loop-name g l =
    map string_bytes l.texts.items
    ≡ map (λ name. shown (registry_of g.O.Objects.engine l.fn.engine) l.fn.context l.autoescape (string_bytes name)) (take l.name-index l.names)
