-- The engine that settings and files give.
use Rattle.std.specs.Prelude.{◌≡◌, List, Option, Some, None, Result, Ok, Err}
use Rattle.tera.specs.Site.{Name, Text}
use Rattle.tera.specs.Fault.{Fault}
use Rattle.tera.specs.Lent.{texts_of}
use Rattle.tera.specs.Delimiters.{Delims, standard}
use Rattle.tera.specs.MeaningRegistry.{Registry}
use Rattle.tera.specs.Batch.{Adds}
use Rattle.tera.specs.Configuring.{with_delimiters, with_prefixes, with_suffixes}
use Rattle.tera_data.specs.Values.{then}
use Rattle.tera_job.specs.declared.engine.Tags.{Tags}
use Rattle.tera_job.specs.declared.engine.Settings.{Settings}

abbrev pub tags_seen : Tags → Delims
tags_seen t = record {
  block_start = t.block_start.now;
  block_end = t.block_end.now;
  variable_start = t.variable_start.now;
  variable_end = t.variable_end.now;
  comment_start = t.comment_start.now;
  comment_end = t.comment_end.now;
}

-- Tera's own, where no others are set
abbrev pub delimiters_or : Option Tags → Delims
delimiters_or None = standard
delimiters_or (Some t) = tags_seen t

abbrev pub delimiters_given : Settings → Delims
delimiters_given s = delimiters_or s.tags

-- an engine with these settings, before a template is there
abbrev pub prepared : Settings → Registry → Result Registry Fault
prepared s r =
    then (with_delimiters (delimiters_given s) r)
    (λ r. then (with_prefixes (texts_of s.prefixes.now) r)
    (λ r. Ok (with_suffixes (texts_of s.suffixes.now) r)))

-- what adding these templates to it may answer
abbrev pub AddsTo : Result Registry Fault → List (Name × Text) → Result Registry Fault → Type 0
AddsTo (Ok r) templates answer = Adds r templates answer
AddsTo (Err fault) templates answer = answer ≡ Err fault
