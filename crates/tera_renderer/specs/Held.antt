-- What a renderer holds, as the definitions see it.
use Rattle.std.specs.Prelude.{List, [], map, string_bytes, Ok}
use Rattle.tera.specs.Site.{Name, Text}
use Rattle.tera.specs.MeaningRegistry.{Registry}
use Rattle.tera.specs.Engine.{Engine}
use Rattle.tera.specs.Registry.{registry_of}
use Rattle.tera.specs.Delimiters.{Delims}
use Rattle.tera_data.specs.declared.number.Floats.{Floats}
use Rattle.tera_renderer.specs.Outcomes.{Outcome}
use Rattle.tera_renderer.specs.declared.output.CallOutput.TheVariants as output
use Rattle.tera_renderer.specs.declared.renderer.Renderer.{Renderer}
use Rattle.tera_renderer.specs.declared.settings.TagBytes.{TagBytes}

-- an engine's registry, what becomes of floats in data, the templates and the texts that wait, and
-- what the last call came to
pub record Held : Type 0 where
  pub registry : Registry
  pub floats : Floats
  pub batch : List (Name × Text)
  pub list : List Text
  pub outcome : Outcome

-- where the objects mean this engine
abbrev pub held_by : {O : Type 0} → (O → Engine) → Renderer O → Held
held_by engine r = record {
  registry = registry_of engine r.engine;
  floats = r.floats;
  batch = map (λ p. (string_bytes p.0, string_bytes p.1)) r.batch.items;
  list = map string_bytes r.list.items;
  outcome = r.outcome;
}

-- at first nothing waits, and nothing was made
abbrev pub fresh : Registry → Floats → Held
fresh registry floats = record {
  registry = registry;
  floats = floats;
  batch = [];
  list = [];
  outcome = Ok output.Nothing;
}

abbrev pub delimiters_in : TagBytes → Delims
delimiters_in t = record {
  block_start = t.block_start.now;
  block_end = t.block_end.now;
  variable_start = t.variable_start.now;
  variable_end = t.variable_end.now;
  comment_start = t.comment_start.now;
  comment_end = t.comment_end.now;
}
