-- How a renderer's calls end.
use Rattle.std.specs.Prelude.{◌≡◌, ℕ, List, [], ◌∷◌, IsUtf8, None, Result, Ok, Err}
use Rattle.tera.specs.Site.{Text}
use Rattle.tera.specs.Fault.{Fault, message}
use Rattle.tera.specs.Answer.{SeenError, SaysOneOf, GivesOneOf, Tells}
use Rattle.tera.specs.MeaningRegistry.{Registry}
use Rattle.tera.specs.Batch.{ConfiguresOneOf}
use Rattle.tera_renderer.specs.Held.{Held}
use Rattle.tera_renderer.specs.Outcomes.{Outcome, copied_or_told, told, texts_in}
use Rattle.tera_renderer.specs.declared.answer.Answer.{Answer}
use Rattle.tera_renderer.specs.declared.output.CallOutput.TheVariants as output

-- all these bytes are texts
abbrev pub AreTexts : List Text → Type 0
AreTexts [] = Unit {0}
AreTexts (bytes ∷ more) = IsUtf8 bytes × AreTexts more

-- refused with a message, or for want of memory
abbrev pub IsMessage : {X : Type 0} → Result X SeenError → Type 0
IsMessage (Ok x) = ⊥
IsMessage (Err e) = Tells e message

-- What is answered of these bytes, seen by view: what is meant, or that they are no texts.
pub record Reads {X Y : Type 0} (bytes : List Text) (view : X → Y) (result : Result X SeenError)
    (Meant : Result Y Fault → Type 0) : Type 0 where
  pub means : AreTexts bytes → GivesOneOf view result Meant
  pub unread : ¬ AreTexts bytes → IsMessage result

-- one text, where it is meant
abbrev pub OneText : (Result Text Fault → Type 0) → Result (List Text) Fault → Type 0
OneText Meant (Ok texts) = (text : Text) × (texts ≡ text ∷ []) × Meant (Ok text)
OneText Meant (Err fault) = Meant (Err fault)

-- A call that is given these bytes and makes texts: they are what is meant, or there is its fault;
-- bytes that are no texts are refused; all else is as before.
pub record Makes (bytes : List Text) (Meant : Result (List Text) Fault → Type 0)
    (old new : Held) (answer : Answer) : Type 0 where
  pub tells : answer ≡ told new.outcome
  pub stays : new ≡ record old { outcome = new.outcome }
  pub means : AreTexts bytes → GivesOneOf texts_in new.outcome Meant
  pub unread : ¬ AreTexts bytes → IsMessage new.outcome

-- What is answered of these bytes where they change the registry, and what is left of what waits.
pub record Changes (bytes : List Text) (Meant : Result Registry Fault → Type 0)
    (left : Held → Held) (old new : Held) (result : Result (Unit {0}) SeenError) : Type 0 where
  pub stays : new ≡ record (left old) { registry = new.registry }
  pub means : AreTexts bytes → ConfiguresOneOf result Meant old.registry new.registry
  pub unread : ¬ AreTexts bytes → IsMessage result × (new.registry ≡ old.registry)

-- how a call ends that changes a registry: with one that is meant, or refused and with that of before
abbrev pub Configured : Outcome → (Result Registry Fault → Type 0) → Registry → Registry → Type 0
Configured (Ok made) Meant old new = (made ≡ output.Nothing) × Meant (Ok new)
Configured (Err e) Meant old new = SaysOneOf e Meant × (new ≡ old)

-- A call that is given these bytes and changes the registry: it is one that is meant, or that of
-- before, with the fault. Of what waits this is left.
pub record Settles (bytes : List Text) (Meant : Result Registry Fault → Type 0)
    (left : Held → Held) (old new : Held) (answer : Answer) : Type 0 where
  pub tells : answer ≡ told new.outcome
  pub stays : new ≡ record (left old) { registry = new.registry; outcome = new.outcome }
  pub means : AreTexts bytes → Configured new.outcome Meant old.registry new.registry
  pub unread : ¬ AreTexts bytes → IsMessage new.outcome × (new.registry ≡ old.registry)

-- what is put, or all is as before for want of memory
abbrev pub Keeps : Result (Unit {0}) SeenError → (Held → Held) → Held → Held → Type 0
Keeps (Ok u) put old new = new ≡ put old
Keeps (Err e) put old new = (e ≡ None) × (new ≡ old)

-- What is answered of these bytes where they are put to what waits.
pub record Waits (bytes : List Text) (put : Held → Held) (old new : Held)
    (result : Result (Unit {0}) SeenError) : Type 0 where
  pub means : AreTexts bytes → Keeps result put old new
  pub unread : ¬ AreTexts bytes → IsMessage result × (new ≡ old)

-- the same, as it is kept
abbrev pub Put : Outcome → (Held → Held) → Held → Held → Type 0
Put (Ok made) put old new = (made ≡ output.Nothing) × (new ≡ record (put old) { outcome = Ok made })
Put (Err e) put old new = (e ≡ None) × (new ≡ record old { outcome = Err e })

-- A call that is given these bytes and lets them wait.
pub record Puts (bytes : List Text) (put : Held → Held) (old new : Held) (answer : Answer) : Type 0 where
  pub tells : answer ≡ told new.outcome
  pub means : AreTexts bytes → Put new.outcome put old new
  pub unread : ¬ AreTexts bytes → IsMessage new.outcome × (new ≡ record old { outcome = new.outcome })

-- A call that is given these bytes and makes a text, which it copies at once.
pub record MakesOnce (bytes : List Text) (Meant : Result Text Fault → Type 0)
    (before after : List ℕ) (answer : Answer) : Type 0 where
  pub outcome : Result Text SeenError
  pub reads : Reads bytes (λ t. t) outcome Meant
  pub copies : (answer, after) ≡ copied_or_told outcome before
