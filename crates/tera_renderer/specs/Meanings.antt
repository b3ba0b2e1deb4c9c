-- What a renderer's calls mean: what the engine means, with the data that bytes spell.
use Rattle.std.specs.Prelude.{◌≡◌, ◌++◌, Bool, List, [], ◌∷◌, map, Option, Some, None, Result, Ok, Err}
use Rattle.tera.specs.Site.{Name, Text}
use Rattle.tera.specs.Fault.{Fault}
use Rattle.tera.specs.Delimiters.{Delims}
use Rattle.tera.specs.Val.{Val}
use Rattle.tera.specs.Named.{Named}
use Rattle.tera.specs.MeaningRegistry.{Registry}
use Rattle.tera.specs.Rendering.{ByName, BlockByName, ComponentByName, OneOff}
use Rattle.tera.specs.Batch.{Adds}
use Rattle.tera.specs.Configuring.{with_delimiters, with_prefixes, with_suffixes}
use Rattle.tera.specs.Resolve.{resolve}
use Rattle.tera.specs.Variables.{AnswersVariables}
use Rattle.tera.specs.Components.{AreComponentNames}
use Rattle.tera_data.specs.Contexts.{context_in, over}
use Rattle.tera_data.specs.Values.{then}
use Rattle.tera_data.specs.declared.number.Floats.{Floats}
use Rattle.tera_renderer.specs.Calls.{Makes, OneText, Puts, Settles}
use Rattle.tera_renderer.specs.Held.{Held}
use Rattle.tera_renderer.specs.Outcomes.{done, told}
use Rattle.tera_renderer.specs.declared.answer.Answer.{Answer}

-- what is meant of what is there; a fault stays
abbrev pub From : {A B : Type 0} → Result A Fault → (A → Result B Fault → Type 0)
    → Result B Fault → Type 0
From (Ok a) Next answer = Next a answer
From (Err fault) Next answer = answer ≡ Err fault

-- with the context that these bytes spell
abbrev pub WithData : {B : Type 0} → Floats → Text → (Named Val → Result B Fault → Type 0)
    → Result B Fault → Type 0
WithData floats json = From (context_in floats json)

-- what renderings may answer, by an engine as it is held
abbrev pub TemplateText : Name → Text → Held → Result Text Fault → Type 0
TemplateText name json h = WithData h.floats json (ByName h.registry name)

abbrev pub BlockText : Name → Name → Text → Held → Result Text Fault → Type 0
BlockText name block json h = WithData h.floats json (BlockByName h.registry name block)

abbrev pub OneOffText : Text → Text → Bool → Held → Result Text Fault → Type 0
OneOffText text json autoescape h =
    WithData h.floats json (λ context. OneOff h.registry text context autoescape)

abbrev pub ComponentText : Name → Text → Text → Option Text → Bool → Held
    → Result Text Fault → Type 0
ComponentText name arguments implicits body autoescape h =
    WithData h.floats arguments (λ args. WithData h.floats implicits (λ named.
    ComponentByName h.registry name args named body autoescape))

-- the body's bytes, if there are any, in front of others
abbrev pub with_body : Option Text → List Text → List Text
with_body None more = more
with_body (Some body) more = body ∷ more

-- the six parts of delimiters
abbrev pub parts_of : Delims → List Text
parts_of d =
    d.block_start ∷ d.block_end ∷ d.variable_start ∷ d.variable_end
    ∷ d.comment_start ∷ d.comment_end ∷ []

-- the registry with what these bytes spell over its global context
abbrev pub with_globals : Floats → Text → Registry → Result Registry Fault
with_globals floats json r =
    then (over r.global (context_in floats json)) (λ global. Ok (record r { global = global }))

-- The calls of a renderer, each from what was held before to what is held then, and its answer.
abbrev pub RendersTemplate : Name → Text → Held → Held → Answer → Type 0
RendersTemplate name json old = Makes (name ∷ json ∷ []) (OneText (TemplateText name json old)) old

abbrev pub RendersBlock : Name → Name → Text → Held → Held → Answer → Type 0
RendersBlock name block json old =
    Makes (name ∷ block ∷ json ∷ []) (OneText (BlockText name block json old)) old

abbrev pub RendersText : Text → Text → Bool → Held → Held → Answer → Type 0
RendersText text json autoescape old =
    Makes (text ∷ json ∷ []) (OneText (OneOffText text json autoescape old)) old

abbrev pub RendersComponent : Name → Text → Text → Option Text → Bool
    → Held → Held → Answer → Type 0
RendersComponent name arguments implicits body autoescape old =
    Makes (name ∷ with_body body (arguments ∷ implicits ∷ []))
    (OneText (ComponentText name arguments implicits body autoescape old)) old

abbrev pub ListsTemplates : Held → Held → Answer → Type 0
ListsTemplates old = Makes [] (λ r. Ok (map (λ t. t.0) old.registry.templates) ≡ r) old

abbrev pub AreTheComponents : Registry → Result (List Name) Fault → Type 0
AreTheComponents r (Ok names) = AreComponentNames r names
AreTheComponents r (Err fault) = ⊥

abbrev pub ListsComponents : Held → Held → Answer → Type 0
ListsComponents old = Makes [] (AreTheComponents old.registry) old

abbrev pub ListsVariables : Name → Held → Held → Answer → Type 0
ListsVariables name old =
    Makes (name ∷ []) (AnswersVariables old.registry (resolve old.registry name)) old

abbrev pub PutsTemplate : Name → Text → Held → Held → Answer → Type 0
PutsTemplate name text = Puts (name ∷ text ∷ []) (λ h. record h { batch = h.batch ++ (name, text) ∷ [] })

abbrev pub PutsText : Text → Held → Held → Answer → Type 0
PutsText text = Puts (text ∷ []) (λ h. record h { list = h.list ++ text ∷ [] })

abbrev pub AddsBatch : Held → Held → Answer → Type 0
AddsBatch old = Settles [] (Adds old.registry old.batch) (λ h. record h { batch = [] }) old

abbrev pub SetsSuffixes : Held → Held → Answer → Type 0
SetsSuffixes old =
    Settles [] (λ r. Ok (with_suffixes old.list old.registry) ≡ r) (λ h. record h { list = [] }) old

abbrev pub SetsPrefixes : Held → Held → Answer → Type 0
SetsPrefixes old =
    Settles [] (λ r. with_prefixes old.list old.registry ≡ r) (λ h. record h { list = [] }) old

abbrev pub SetsDelimiters : Delims → Held → Held → Answer → Type 0
SetsDelimiters d old =
    Settles (parts_of d) (λ r. with_delimiters d old.registry ≡ r) (λ h. h) old

abbrev pub PutsGlobals : Text → Held → Held → Answer → Type 0
PutsGlobals json old =
    Settles (json ∷ []) (λ r. with_globals old.floats json old.registry ≡ r) (λ h. h) old

abbrev pub DropsWaiting : Held → Held → Answer → Type 0
DropsWaiting old new told_of =
    (new ≡ record old { batch = []; list = []; outcome = done (Ok tt) })
    × (told_of ≡ told (done (Ok tt)))
