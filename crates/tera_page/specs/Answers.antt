-- How the call of a page ends.
use Rattle.std.specs.Prelude.{◌≡◌, ℕ, ◌++◌, List, [], ◌∷◌, length, Option, Some, None, Result, Ok, Err}
use Rattle.tera.specs.Site.{Name, Site, Text}
use Rattle.tera.specs.Answer.{SeenError}
use Rattle.tera_renderer.specs.Calls.{Reads}
use Rattle.tera_renderer.specs.Outcomes.{TellsPlace, copied, kind_number, site_of}
use Rattle.tera_page.specs.Questions.{MayAnswer}
use Rattle.tera_page.specs.Templates.{pieces_of, place_among, templates_in}
use Rattle.tera_page.specs.declared.answer.PageAnswer.{PageAnswer}
use Rattle.tera_page.specs.declared.question.Question.{Question}
use Rattle.tera_page.specs.declared.templates.TemplateSize.{TemplateSize}

-- what is told of an outcome in numbers
abbrev pub TellsText : Result Text SeenError → PageAnswer → Type 0
TellsText (Ok text) told = (told.report.kind ≡ 0) × TellsPlace None told.report
TellsText (Err e) told = (told.report.kind ≡ kind_number e) × TellsPlace (site_of e) told.report

-- the place of the template that an error speaks of
abbrev pub place_in : List (Name × Text) → Option Site → ℕ
place_in templates None = length templates
place_in templates (Some site) = place_among templates site.file

abbrev pub template_of : List (Name × Text) → Result Text SeenError → ℕ
template_of templates (Ok text) = length templates
template_of templates (Err e) = place_in templates (site_of e)

-- a text is copied into the room; the words of an error are left open
abbrev pub CopiesText : Result Text SeenError → List ℕ → List ℕ → PageAnswer → Type 0
CopiesText (Ok text) before after told = ◌≡◌ (told.copied, after) (copied (Some text) before)
CopiesText (Err e) before after told = length after ≡ length before

-- The answer to a question: a text that it may be answered with, or the fault of adding or rendering,
-- or that some bytes are no text, or that memory was refused.
pub record AnswersPage (q : Question) (sizes : List TemplateSize) (bytes : List ℕ) (name json : Text)
    (before after : List ℕ) (told : PageAnswer) : Type 0 where
  pub outcome : Result Text SeenError
  pub reads : let templates = templates_in sizes bytes in
      Reads (pieces_of templates ++ name ∷ json ∷ []) (λ t. t) outcome
      (MayAnswer q templates name json)
  pub tells : TellsText outcome told
  pub template : told.template ≡ template_of (templates_in sizes bytes) outcome
  pub copies : CopiesText outcome before after told
