-- How the call of a page ends, from what its parts answer.
use Rattle.std.proofs.Common.{◌≡◌, ℕ, List, [], ◌∷◌, ◌++◌, length, Result, Ok, Err, Some, None, refl, sym, ap, ◌∙◌, string_bytes}
use Rattle.std.specs.Prelude.{String, IsSome}
use Rattle.std.specs.Global.{Global}
use Rattle.tera.specs.Site.{Name, Text}
use Rattle.tera.specs.Fault.{Fault, message}
use Rattle.tera.specs.Answer.{SeenError, Tells}
use Rattle.tera_renderer.specs.Calls.{AreTexts, Reads}
use Rattle.tera_renderer.specs.Outcomes.{TellsPlace, copied, kind_number, site_of}
use Rattle.tera_renderer.proofs.Readings.{read_first}
use Rattle.tera_page.specs.Answers.{AnswersPage, place_in}
use Rattle.tera_page.specs.Questions.{MayAnswer}
use Rattle.tera_page.specs.Templates.{pieces_of, templates_in}
use Rattle.tera_page.specs.declared.answer.PageAnswer.{PageAnswer}
use Rattle.tera_page.specs.declared.question.Question.{Question}
use Rattle.tera_page.specs.declared.templates.TemplateSize.{TemplateSize}
use Rattle.tera_page.proofs.Pieces.{length_templates_in, texts_in_front}

-- a message has no place
pub no_place : (e : SeenError) → Tells e message → site_of e ≡ None
no_place None h = refl
no_place (Some fault) h = ap (λ (f : Fault). site_of (Some f)) h

module _ {X Y : Type 0} (view : X → Y) (Meant : Result Y Fault → Type 0) where
  -- the bytes in front are texts
  pub read_behind : (front more : List Text) (result : Result X SeenError) → AreTexts front → Reads more view result Meant → Reads (front ++ more) view result Meant
  read_behind [] more result texts reads = reads
  read_behind (t ∷ front) more result texts reads = read_first view Meant t (front ++ more) result texts.0 (read_behind front more result texts.1 reads)

  -- some of the bytes in front are no text, or memory was refused
  pub unread_front : (front more : List Text) (e : SeenError) → Tells e message × (IsSome e → ¬ AreTexts front) → Reads (front ++ more) view (Err e) Meant
  unread_front front more None told = record { means = λ texts. tt; unread = λ no. tt }
  unread_front front more (Some fault) told = record { means = λ texts. absurd (told.1 refl (texts_in_front front more texts)); unread = λ no. told.0 }

module _ (q : Question) (sizes : List TemplateSize) (bytes name json : Text) (before after : List ℕ) (answer : PageAnswer) where
  abbrev templates : List (Name × Text)
  templates = templates_in sizes bytes

  -- a text
  pub answers_text : (t : String Global) → AreTexts (pieces_of templates) → Reads (name ∷ json ∷ []) string_bytes (Ok t) (MayAnswer q templates name json) → (answer.copied, after) ≡ copied (Some (string_bytes t)) before → answer.report.kind ≡ 0 → TellsPlace None answer.report → answer.template ≡ length templates → AnswersPage q sizes bytes name json before after answer
  answers_text t texts reads copies kind place template =
      let all = read_behind string_bytes (MayAnswer q templates name json) (pieces_of templates) (name ∷ json ∷ []) (Ok t) texts reads in
      record {
        outcome = Ok (string_bytes t);
        reads = record { means = λ texts. all.means texts; unread = λ no. all.unread no };
        tells = (kind, place);
        template = template;
        copies = copies;
      }

  -- the fault of adding or rendering, or that what is asked is no text
  pub answers_error : (e : SeenError) → AreTexts (pieces_of templates) → Reads {X = String Global} (name ∷ json ∷ []) string_bytes (Err e) (MayAnswer q templates name json) → length after ≡ length before → answer.report.kind ≡ kind_number e → TellsPlace (site_of e) answer.report → answer.template ≡ place_in templates (site_of e) → AnswersPage q sizes bytes name json before after answer
  answers_error e texts reads stays kind place template =
      let all = read_behind string_bytes (MayAnswer q templates name json) (pieces_of templates) (name ∷ json ∷ []) (Err e) texts reads in
      record {
        outcome = Err e;
        reads = record { means = λ texts. all.means texts; unread = λ no. all.unread no };
        tells = (kind, place);
        template = template;
        copies = stays;
      }

  -- that some template is no text
  pub answers_unread : (e : SeenError) → Tells e message × (IsSome e → ¬ AreTexts (pieces_of templates)) → length after ≡ length before → answer.report.kind ≡ kind_number e → TellsPlace (site_of e) answer.report → answer.template ≡ length sizes → AnswersPage q sizes bytes name json before after answer
  answers_unread e told stays kind place template = record {
    outcome = Err e;
    reads = unread_front (λ (t : Text). t) (MayAnswer q templates name json) (pieces_of templates) (name ∷ json ∷ []) e told;
    tells = (kind, place);
    template = template ∙ sym (length_templates_in sizes bytes) ∙ sym (ap (place_in templates) (no_place e told.0));
    copies = stays;
  }
