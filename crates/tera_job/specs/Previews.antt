-- What previews of components are.
use Rattle.std.specs.Prelude.{◌≡◌, Bool, List, [], map, Option, Some, None, All, string_bytes}
use Rattle.tera.specs.Site.{Name}
use Rattle.tera.specs.Answer.{GivesOneOf, MemorySuffices}
use Rattle.tera.specs.Val.{Val}
use Rattle.tera.specs.Named.{Named, with_names}
use Rattle.tera.specs.Definition.{Info}
use Rattle.tera.specs.Components.{AreComponentNames}
use Rattle.tera.specs.MeaningRegistry.{Registry}
use Rattle.tera.specs.Registry.{info_at}
use Rattle.tera.specs.Rendering.{ComponentByName}
use Rattle.tera_job.specs.declared.preview.Preview.{Preview}

-- the entries that the parameters of this component name
abbrev pub arguments_for : Option Info → Named Val → Named Val
arguments_for None context = []
arguments_for (Some info) context = with_names (map (λ formal. formal.name) info.formals) context

-- a component by itself: the entries that its parameters name are its arguments, all are implicits,
-- and it has no body
abbrev pub IsPreview : Registry → Named Val → Bool → Preview → Type 0
IsPreview r context autoescape p =
    let name = string_bytes p.name in
    GivesOneOf string_bytes p.answer
    (ComponentByName r name (arguments_for (info_at r name) context) context None autoescape)
    × MemorySuffices p.answer

-- a preview for each of these names, in their order
abbrev pub PreviewsOf : Registry → Named Val → Bool → List Name → List Preview → Type 0
PreviewsOf r context autoescape names ps =
    (map (λ p. string_bytes p.name) ps ≡ names) × All (IsPreview r context autoescape) ps

-- each component once, in byte order of names
abbrev pub ArePreviews : Registry → Named Val → Bool → List Preview → Type 0
ArePreviews r context autoescape ps =
    (names : List Name) × AreComponentNames r names × PreviewsOf r context autoescape names ps
