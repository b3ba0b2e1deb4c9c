-- What the numbers of a caller in C say.
use Rattle.std.specs.Prelude.{ℕ, cond, Option, None, Some}
use Rattle.tera.specs.Site.{Text}
use Rattle.tera.specs.Engine.{Engine, standard_engine}
use Rattle.tera.specs.Delimiters.{Delims}
use Rattle.tera_filters.specs.Pack.{extra_engine}
use Rattle.tera_filters.specs.declared.clocks.Clock.{Clock}
use Rattle.tera_renderer.specs.Numbers.{is_set}
use Rattle.tera_c.specs.declared.options.EngineOptions.{EngineOptions}

abbrev pub given_if : ℕ → Text → Option Text
given_if n text = cond (is_set n) (Some text) None

abbrev pub clock_with : EngineOptions → Option Clock
clock_with o = cond (is_set o.has_clock) (Some (record { seconds = o.seconds })) None

-- the filters, tests and functions of the pack, or none beside those of the language
abbrev pub engine_with : EngineOptions → Engine
engine_with o = cond (is_set o.is_plain) standard_engine (extra_engine (clock_with o))

abbrev pub delimiters : Text → Text → Text → Text → Text → Text → Delims
delimiters bs be vs ve cs ce = record {
  block_start = bs;
  block_end = be;
  variable_start = vs;
  variable_end = ve;
  comment_start = cs;
  comment_end = ce;
}
