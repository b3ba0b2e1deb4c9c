-- What a question means: what the engine means, at the registry that these templates make and with
-- the context that this data spells.
use Rattle.std.specs.Prelude.{◌≡◌, ℕ, zero, suc, cond, ◌++◌, List, [], ◌∷◌, Some, None, Result, Ok, Err}
use Rattle.tera.specs.Site.{Name, Text}
use Rattle.tera.specs.Fault.{Fault}
use Rattle.tera.specs.MeaningRegistry.{Registry}
use Rattle.tera.specs.Registering.{new_registry_with}
use Rattle.tera.specs.Batch.{Adds}
use Rattle.tera.specs.Configuring.{with_suffixes}
use Rattle.tera.specs.Rendering.{ByName, ComponentByName}
use Rattle.tera.specs.Resolve.{resolve}
use Rattle.tera.specs.Variables.{AnswersVariables}
use Rattle.tera_filters.specs.Pack.{extra_engine}
use Rattle.tera_renderer.specs.Numbers.{is_set, floats_if}
use Rattle.tera_renderer.specs.Meanings.{AreTheComponents, From, WithData}
use Rattle.tera_page.specs.declared.question.Question.{Question}

-- the pack with this clock, and no template; where nothing escapes, no suffix does
abbrev pub registry_for : Question → Registry
registry_for q = let r = new_registry_with (extra_engine (Some (record { seconds = q.seconds }))) in
    cond (is_set q.autoescape) r (with_suffixes [] r)

-- each name, and the end of a line behind it
abbrev pub lines : List Name → Text
lines [] = []
lines (name ∷ more) = name ++ 10 ∷ lines more

-- the lines of names that are meant
abbrev pub InLines : (Result (List Name) Fault → Type 0) → Result Text Fault → Type 0
InLines Meant (Ok text) = (names : List Name) × (text ≡ lines names) × Meant (Ok names)
InLines Meant (Err fault) = Meant (Err fault)

-- what is asked of a registry, by the number that says what
abbrev pub AsksFor : ℕ → Question → Name → Text → Registry → Result Text Fault → Type 0
AsksFor zero q name json r = WithData (floats_if q.takes_floats) json (ByName r name)
AsksFor (suc zero) q name json r = WithData (floats_if q.takes_floats) json
    (λ arguments. ComponentByName r name arguments [] None (is_set q.autoescape))
AsksFor (suc (suc zero)) q name json r = InLines (AnswersVariables r (resolve r name))
AsksFor (suc (suc (suc n))) q name json r = InLines (AreTheComponents r)

abbrev pub IsAsked : Question → Name → Text → Registry → Result Text Fault → Type 0
IsAsked q = AsksFor q.subject q

-- what may be answered about these templates: the fault of adding them, or what is asked then
abbrev pub MayAnswer : Question → List (Name × Text) → Name → Text → Result Text Fault → Type 0
MayAnswer q templates name json answer =
    (added : Result Registry Fault) × Adds (registry_for q) templates added
    × From added (IsAsked q name json) answer
