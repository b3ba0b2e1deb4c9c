use Rattle.std.proofs.Common.{map, take}
use Rattle.std.specs.Prelude.{string_bytes}
use Rattle.tera.specs.Registry.{registry_of}
use Rattle.tera_job.specs.Previews.{PreviewsOf}
use Rattle.tera_job.proofs.preview.previews_of.Given as goal

abbrev pub invariant-loop-name : goal.invariant-loop-name
invariant-loop-name g l = PreviewsOf (registry_of g.O.Objects.engine l.engine) l.context l.autoescape (take l.name-index (map string_bytes l.names)) l.all.items
