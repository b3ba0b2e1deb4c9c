-- What is answered of bytes, part by part.
use Rattle.std.proofs.Common.{◌≡◌, List, [], ◌∷◌, Result, Ok, Err, Some, None, refl, sym, subst}
use Rattle.std.specs.Prelude.{IsUtf8, Option}
use Rattle.tera.specs.Site.{Text}
use Rattle.tera.specs.Fault.{Fault, message}
use Rattle.tera.specs.Answer.{SeenError, Gives, GivesOneOf, SaysOneOf, Tells}
use Rattle.tera_renderer.specs.Calls.{AreTexts, Reads}
use Rattle.tera_renderer.specs.Meanings.{From, with_body}

-- the one answer that is meant
pub gives_one : {X Y : Type 0} (view : X → Y) (result : Result X SeenError) (meant : Result Y Fault) → Gives view result meant → GivesOneOf view result (λ r. meant ≡ r)
gives_one view (Ok x) meant h = h
gives_one view (Err None) meant h = tt
gives_one view (Err (Some fault)) meant h = h

module _ {X Y : Type 0} (view : X → Y) (Meant : Result Y Fault → Type 0) where
  -- the first bytes are no text
  pub unread_first : (bytes : Text) (more : List Text) (e : SeenError) → Tells e message × (¬ IsUtf8 bytes) → Reads (bytes ∷ more) view (Err e) Meant
  unread_first bytes more e told = record { means = λ texts. absurd (told.1 texts.0); unread = λ no. told.0 }

  -- the first bytes are a text
  pub read_first : (bytes : Text) (more : List Text) (result : Result X SeenError) → IsUtf8 bytes → Reads more view result Meant → Reads (bytes ∷ more) view result Meant
  read_first bytes more result is reads = record { means = λ texts. reads.means texts.1; unread = λ no. reads.unread (λ texts. no (is, texts)) }

  -- the body is no text
  pub unread_body : (body : Option Text) (more : List Text) (e : SeenError) → Tells e message × (¬ AreTexts (with_body body [])) → Reads (with_body body more) view (Err e) Meant
  unread_body None more e told = absurd (told.1 tt)
  unread_body (Some bytes) more e told = unread_first bytes more e (told.0, λ is. told.1 (is, tt))

  -- the body is a text, or there is none
  pub read_body : (body : Option Text) (more : List Text) (result : Result X SeenError) → AreTexts (with_body body []) → Reads more view result Meant → Reads (with_body body more) view result Meant
  read_body None more result are reads = reads
  read_body (Some bytes) more result are reads = read_first bytes more result are.0 reads

  -- memory was refused
  pub lacks : (bytes : List Text) (e : SeenError) → e ≡ None → Reads bytes view (Err e) Meant
  lacks bytes e h = subst (λ (e : SeenError). Reads bytes view (Err e) Meant) (sym h) (record { means = λ texts. tt; unread = λ no. tt })

  -- no bytes are left
  pub read_all : (result : Result X SeenError) → GivesOneOf view result Meant → Reads [] view result Meant
  read_all result h = record { means = λ texts. h; unread = λ no. absurd (no tt) }

module _ {A B : Type 0} (there : Result A Fault) (Next : A → Result B Fault → Type 0) where
  pub from_error : (e : SeenError) → SaysOneOf e (λ r. there ≡ r) → SaysOneOf e (From there Next)
  from_error None h = tt
  from_error (Some fault) h = subst (λ (t : Result A Fault). From t Next (Err fault)) (sym h) refl

  pub from_value : {X : Type 0} (view : X → B) (a : A) (result : Result X SeenError) → there ≡ Ok a → GivesOneOf view result (Next a) → GivesOneOf view result (From there Next)
  from_value view a result is h = subst (λ (t : Result A Fault). GivesOneOf view result (From t Next)) (sym is) h

-- data that can't be read, and what is meant of data that was
module _ {A B X : Type 0} (json : Text) (there : Result A Fault) (Next : A → Result B Fault → Type 0) (view : X → B) where
  pub no_data : (e : SeenError) → Reads {X = A} (json ∷ []) (λ a. a) (Err e) (λ r. there ≡ r) → Reads (json ∷ []) view (Err e) (From there Next)
  no_data e reads = record { means = λ texts. from_error there Next e (reads.means texts); unread = λ no. reads.unread no }

  pub with_data : (a : A) (result : Result X SeenError) → Reads {X = A} (json ∷ []) (λ a. a) (Ok a) (λ r. there ≡ r) → GivesOneOf view result (Next a) → Reads (json ∷ []) view result (From there Next)
  with_data a result reads h = record { means = λ texts. from_value there Next view a result (reads.means texts) h; unread = λ no. absurd (reads.unread no) }
