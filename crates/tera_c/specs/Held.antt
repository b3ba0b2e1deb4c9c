-- What a handle owns, and how calls by it end.
use Rattle.std.specs.Prelude.{◌≡◌, ℕ, List, Option, None, Some}
use base.Fml.{Fml, feq}
use denote.RawPtr.{Ptr, null_ptr}
use Rattle.std.specs.declared.alloc.Global.{Global}
use Rattle.std.specs.contracts.impls.GlobalAllocator.TheImpl.{ghosts}
use Rattle.std.specs.Box.Ownership.{box_owns}
use Rattle.tera.specs.Site.{Text}
use Rattle.tera.specs.Engine.{Engine}
use Rattle.tera.specs.Registering.{new_registry_with}
use Rattle.tera_renderer.specs.Held.{Held, fresh, held_by}
use Rattle.tera_renderer.specs.Numbers.{floats_if}
use Rattle.tera_renderer.specs.Outcomes.{Outcome, TellsOf, answer, copied}
use Rattle.tera_renderer.specs.declared.answer.Answer.{Answer}
use Rattle.tera_renderer.specs.declared.report.Report.{Report}
use Rattle.tera.specs.declared.ObjectsOver.{ObjectsOver}
use Rattle.tera.specs.declared.HtmlEscape.{HtmlEscape}
use Rattle.tera_filters.specs.declared.pack.Pack.{Pack}
use Rattle.tera_filters.specs.declared.extra_filter.ExtraFilter.{ExtraFilter}
use Rattle.tera_filters.specs.declared.extra_test.ExtraTest.{ExtraTest}
use Rattle.tera_filters.specs.declared.extra_function.ExtraFunction.{ExtraFunction}
use Rattle.tera_filters.specs.declared.no_object.NoObject.{NoObject}
use Rattle.tera_c.specs.Options.{engine_with}
use Rattle.tera_c.specs.declared.options.EngineOptions.{EngineOptions}
use Rattle.tera_c.specs.declared.pack_renderer.PackRenderer.{PackRenderer}
use Rattle.tera_c.specs.contracts.pack_renderer.PackRenderer.{the_row}

-- objects of the pack alone
abbrev pub PackOnly : Type 0
PackOnly =
    ObjectsOver HtmlEscape (Pack ExtraFilter NoObject) (Pack ExtraTest NoObject)
    (Pack ExtraFunction NoObject)

-- the heap that boxes lie in; it has no parts
abbrev pub heap : Global
heap = record { memory = record { seal = tt } }

-- at p stands a box of the engine, or p is null
abbrev pub holds : Ptr → Option PackRenderer → Fml
holds p None = feq Ptr p null_ptr
holds p (Some x) = box_owns (ghosts.dealloc_token heap) the_row p x

-- How a call by a handle ends, where the objects mean this engine: as the renderer's own call does,
-- or with 3 where there is none.
abbrev pub ByHandle : (PackOnly → Engine) → (Held → Held → Answer → Type 0)
    → Option PackRenderer → Option PackRenderer → Answer → Type 0
ByHandle engine Does None None told = told ≡ answer 3 0
ByHandle engine Does None (Some new) told = ⊥
ByHandle engine Does (Some old) None told = ⊥
ByHandle engine Does (Some old) (Some new) told =
    Does (held_by engine old.renderer) (held_by engine new.renderer) told

-- a new engine, to which nothing was said; or none, where memory was refused
abbrev pub IsMade : (PackOnly → Engine) → EngineOptions → Option PackRenderer → Answer → Type 0
IsMade engine options None told = told ≡ answer 2 0
IsMade engine options (Some made) told =
    (held_by engine made.renderer
    ≡ fresh (new_registry_with (engine_with options)) (floats_if options.takes_floats))
    × (told ≡ answer 0 0)

-- How a call by a handle ends that copies this of what the last one came to: the engine stays.
abbrev pub CopiesByHandle : (PackOnly → Engine) → (Outcome → Option Text)
    → Option PackRenderer → List ℕ → List ℕ → Answer → Type 0
CopiesByHandle engine part None before after told = (told ≡ answer 3 0) × (after ≡ before)
CopiesByHandle engine part (Some x) before after told =
    ◌≡◌ {A = Answer × List ℕ} (told, after) (copied (part (held_by engine x.renderer).outcome) before)

-- and of one that tells of it in numbers
abbrev pub TellsByHandle : (PackOnly → Engine) → Option PackRenderer → Report → Report → Answer
    → Type 0
TellsByHandle engine None before after told = (told ≡ answer 3 0) × (after ≡ before)
TellsByHandle engine (Some x) before after told =
    (told ≡ answer 0 0) × TellsOf (held_by engine x.renderer).outcome after
