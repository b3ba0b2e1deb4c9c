use Rattle.std.proofs.Common.{take, map}
use Rattle.std.specs.Prelude.{string_bytes}
use Rattle.tera.specs.Registry.{registry_of}
use Rattle.tera_job.specs.Pages.{pages_seen, AreMade}
use Rattle.tera_job.proofs.page.make_pages.Given as goal

abbrev pub invariant-loop-name : goal.invariant-loop-name
invariant-loop-name g l = AreMade (registry_of g.O.Objects.engine l.engine) l.context (take l.name-index (map string_bytes l.names)) (pages_seen l.pages.items)
