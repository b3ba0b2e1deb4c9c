-- What is answered to a question, from what its parts answer.
use Rattle.std.proofs.Common.{◌≡◌, ℕ, zero, suc, List, Result, Ok, Err, Some, None, refl, sym, subst}
use Rattle.tera.specs.Site.{Name, Text}
use Rattle.tera.specs.Fault.{Fault}
use Rattle.tera.specs.Answer.{SeenError, GivesOneOf, SaysOneOf}
use Rattle.tera.specs.Batch.{Adds}
use Rattle.tera.specs.Components.{AreComponentNames}
use Rattle.tera.specs.MeaningRegistry.{Registry}
use Rattle.tera.specs.Resolve.{resolve}
use Rattle.tera.specs.Variables.{AnswersVariables}
use Rattle.tera_renderer.specs.Meanings.{AreTheComponents}
use Rattle.tera_page.specs.Questions.{AsksFor, InLines, IsAsked, MayAnswer, lines, registry_for}
use Rattle.tera_page.specs.declared.question.Question.{Question}

module _ {X : Type 0} (view : X → Text) (q : Question) (name json : Text) (r : Registry) where
  -- what is asked for by this number
  pub asked_for : (n : ℕ) (answer : Result X SeenError) → q.subject ≡ n → GivesOneOf view answer (AsksFor n q name json r) → GivesOneOf view answer (IsAsked q name json r)
  asked_for n answer is h = subst (λ n. GivesOneOf view answer (AsksFor n q name json r)) (sym is) h

  -- the names that a template wants, each in a line
  pub asked_for_names : (names : List Name) (text : X) → q.subject ≡ 2 → view text ≡ lines names → AnswersVariables r (resolve r name) (Ok names) → GivesOneOf view (Ok text) (IsAsked q name json r)
  asked_for_names names text is spelt meant = asked_for 2 (Ok text) is (names, spelt, meant)

  -- any other number
  other_number : (n : ℕ) (answer : Result X SeenError) → ¬ (n ≡ 0) → ¬ (n ≡ 1) → ¬ (n ≡ 2) → GivesOneOf view answer (InLines (AreTheComponents r)) → GivesOneOf view answer (AsksFor n q name json r)
  other_number zero answer not0 not1 not2 h = absurd (not0 refl)
  other_number (suc zero) answer not0 not1 not2 h = absurd (not1 refl)
  other_number (suc (suc zero)) answer not0 not1 not2 h = absurd (not2 refl)
  other_number (suc (suc (suc n))) answer not0 not1 not2 h = h

  -- the names of all components, each in a line
  pub asked_for_components : (names : List Name) (text : X) → ¬ (q.subject ≡ 0) → ¬ (q.subject ≡ 1) → ¬ (q.subject ≡ 2) → view text ≡ lines names → AreComponentNames r names → GivesOneOf view (Ok text) (IsAsked q name json r)
  asked_for_components names text not0 not1 not2 spelt meant = other_number q.subject (Ok text) not0 not1 not2 (names, spelt, meant)

-- Made is the registry without templates.
module _ (q : Question) (templates : List (Name × Text)) (name json : Text) (made : Registry) (is_made : ◌≡◌ {A = Result Registry Fault} (Ok (registry_for q)) (Ok made)) where
  is_for_it : made ≡ registry_for q
  is_for_it = cc

  -- the templates are refused
  pub may_refuse : (e : SeenError) → SaysOneOf e (Adds made templates) → SaysOneOf e (MayAnswer q templates name json)
  may_refuse None h = tt
  may_refuse (Some fault) h = (Err fault, subst (λ r. Adds r templates (Err fault)) is_for_it h, refl)

  -- they are added
  pub may_answer : {X : Type 0} (view : X → Text) (r : Registry) (answer : Result X SeenError) → Adds made templates (Ok r) → GivesOneOf view answer (IsAsked q name json r) → GivesOneOf view answer (MayAnswer q templates name json)
  may_answer view r (Ok x) adds h = (Ok r, subst (λ made. Adds made templates (Ok r)) is_for_it adds, h)
  may_answer view r (Err None) adds h = tt
  may_answer view r (Err (Some fault)) adds h = (Ok r, subst (λ made. Adds made templates (Ok r)) is_for_it adds, h)

  -- and what is asked is told by other names for the same texts
  pub may_answer_by : {X : Type 0} (view : X → Text) (r : Registry) (answer : Result X SeenError) (same_name same_json : Text) → same_name ≡ name → same_json ≡ json → Adds made templates (Ok r) → GivesOneOf view answer (IsAsked q same_name same_json r) → GivesOneOf view answer (MayAnswer q templates name json)
  may_answer_by view r answer same_name same_json is_name is_json adds h = may_answer view r answer adds (subst (λ n. GivesOneOf view answer (IsAsked q n json r)) is_name (subst (λ j. GivesOneOf view answer (IsAsked q same_name j r)) is_json h))
