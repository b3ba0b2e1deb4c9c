-- What holds of what a job makes.
use Rattle.std.specs.Prelude.{◌≡◌, IsTrue, false, List, [], flat_map, Some, Ok}
use Rattle.tera.specs.Site.{Name, Text}
use Rattle.tera.specs.Val.{Val}
use Rattle.tera.specs.Named.{Named}
use Rattle.tera.specs.MeaningRegistry.{Entry, Registry, new_registry}
use Rattle.tera.specs.Resolve.{resolve}
use Rattle.tera.specs.Rendering.{ByName, autoescapes}
use Rattle.tera.specs.Sources.{safe_texts, applies_safe}
use Rattle.tera.specs.Renderings.{of_template, sources, values_named}
use Rattle.tera.specs.Foreign.{HasOwnMarkup}
use Rattle.tera_data.specs.declared.number.Floats.{Floats}
use Rattle.tera_job.specs.Data.{IsContextOf}
use Rattle.tera_job.specs.Engines.{prepared, AddsTo}
use Rattle.tera_job.specs.declared.datum.Datum.{Datum}
use Rattle.tera_job.specs.declared.engine.Settings.{Settings}

-- no text that data gives is marked safe
abbrev pub DataIsUnsafe : Type 0
DataIsUnsafe =
    (floats : Floats) (ds : List Datum) (context : Named Val)
    → IsContextOf floats ds (Ok context)
    → flat_map safe_texts (values_named context) ≡ []

-- On a page whose template escapes, each of < > " ' is text of templates and none is of the data,
-- unless a template applies the filter `safe`.
abbrev pub MarkupIsNoneOfTheData : Type 0
MarkupIsNoneOfTheData =
    (s : Settings) (templates : List (Name × Text)) (r : Registry)
    (floats : Floats) (ds : List Datum) (context : Named Val)
    (name : Name) (t : Entry) (page : Text)
    → AddsTo (prepared s new_registry) templates (Ok r) → IsContextOf floats ds (Ok context)
    → resolve r name ≡ Some t → IsTrue (autoescapes r t.0)
    → applies_safe (sources r (of_template name context)) ≡ false
    → ByName r name context (Ok page)
    → HasOwnMarkup r (of_template name context) page
