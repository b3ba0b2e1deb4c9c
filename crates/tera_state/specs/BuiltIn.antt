-- What is built in sees of an engine.
use Rattle.std.specs.Prelude.{Bool}
use Rattle.tera_built_ins.specs.Escaping.{Escaping}
use Rattle.tera_state.specs.Engine.{Engine}

-- whether texts are escaped, and the escape of the engine
abbrev pub escaping_by : Engine → Bool → Escaping
escaping_by engine autoescape = record { autoescape = autoescape; escape = engine.escape }
