-- How calls end, from what their parts answer and what they leave.
use Rattle.std.proofs.Common.{◌≡◌, ℕ, List, Result, Ok, Err, Some, None, refl, sym, ap, subst}
use Rattle.std.specs.Prelude.{String, string_bytes, Vec, map}
use Rattle.std.specs.Global.{Global}
use Rattle.tera.specs.Site.{Text}
use Rattle.tera.specs.Fault.{Fault}
use Rattle.tera.specs.Answer.{SeenError, GivesOneOf}
use Rattle.tera.specs.Batch.{ConfiguresOneOf}
use Rattle.tera.specs.MeaningRegistry.{Registry}
use Rattle.tera_renderer.specs.Held.{Held}
use Rattle.tera_renderer.specs.Outcomes.{Outcome, copied, copied_or_told, told, texts_in, done, one_text, all_names}
use Rattle.tera_renderer.specs.Calls.{IsMessage, Reads, OneText, Makes, Changes, Configured, Settles, Keeps, Waits, Put, Puts, MakesOnce}
use Rattle.tera_renderer.specs.declared.answer.Answer.{Answer}

-- the same with this outcome
abbrev with_outcome : Outcome → Held → Held
with_outcome outcome h = record h { outcome = outcome }

module _ (bytes : List Text) (old new : Held) (result : Answer) where
  -- a call that answers a text
  pub makes_text : (Meant : Result Text Fault → Type 0) (answer : Result (String Global) SeenError)
      → new ≡ record old { outcome = one_text answer } → result ≡ told (one_text answer)
      → Reads bytes string_bytes answer Meant → Makes bytes (OneText Meant) old new result
  makes_text Meant answer left tells reads =
      subst (λ h. Makes bytes (OneText Meant) old h result) (sym left) (record {
        tells = tells;
        stays = refl;
        means = λ texts. one answer (reads.means texts);
        unread = λ no. refused answer (reads.unread no);
      })
    where
      one : (a : Result (String Global) SeenError) → GivesOneOf string_bytes a Meant → GivesOneOf texts_in (one_text a) (OneText Meant)
      one (Ok t) h = (string_bytes t, refl, h)
      one (Err None) h = tt
      one (Err (Some fault)) h = h

      refused : (a : Result (String Global) SeenError) → IsMessage a → IsMessage (one_text a)
      refused (Ok t) h = absurd h
      refused (Err e) h = h

  -- a call that answers names
  pub makes_names : (Meant : Result (List Text) Fault → Type 0) (answer : Result (Vec (String Global) Global) SeenError)
      → new ≡ record old { outcome = all_names answer } → result ≡ told (all_names answer)
      → Reads bytes (λ ns. map string_bytes ns.items) answer Meant → Makes bytes Meant old new result
  makes_names Meant answer left tells reads =
      subst (λ h. Makes bytes Meant old h result) (sym left) (record {
        tells = tells;
        stays = refl;
        means = λ texts. same answer (reads.means texts);
        unread = λ no. refused answer (reads.unread no);
      })
    where
      same : (a : Result (Vec (String Global) Global) SeenError) → GivesOneOf (λ ns. map string_bytes ns.items) a Meant → GivesOneOf texts_in (all_names a) Meant
      same (Ok ns) h = h
      same (Err None) h = tt
      same (Err (Some fault)) h = h

      refused : (a : Result (Vec (String Global) Global) SeenError) → IsMessage a → IsMessage (all_names a)
      refused (Ok ns) h = absurd h
      refused (Err e) h = h

  -- a call that changes the registry: between is what it leaves before its outcome is kept
  pub settles : (Meant : Result Registry Fault → Type 0) (left_of : Held → Held) (between : Held) (answer : Result (Unit {0}) SeenError)
      → new ≡ record between { outcome = done answer } → result ≡ told (done answer)
      → Changes bytes Meant left_of old between answer → Settles bytes Meant left_of old new result
  settles Meant left_of between answer left tells changes =
      subst (λ h. Settles bytes Meant left_of old h result) (sym left) (record {
        tells = tells;
        stays = ap (with_outcome (done answer)) changes.stays;
        means = λ texts. kept answer (changes.means texts);
        unread = λ no. (refused answer (changes.unread no).0, (changes.unread no).1);
      })
    where
      kept : (a : Result (Unit {0}) SeenError) → ConfiguresOneOf a Meant old.registry between.registry → Configured (done a) Meant old.registry between.registry
      kept (Ok u) h = (refl, h)
      kept (Err e) h = h

      refused : (a : Result (Unit {0}) SeenError) → IsMessage a → IsMessage (done a)
      refused (Ok u) h = absurd h
      refused (Err e) h = h

  -- a call that lets something wait
  pub puts : (put : Held → Held) (between : Held) (answer : Result (Unit {0}) SeenError)
      → new ≡ record between { outcome = done answer } → result ≡ told (done answer)
      → Waits bytes put old between answer → Puts bytes put old new result
  puts put between answer left tells waits =
      subst (λ h. Puts bytes put old h result) (sym left) (record {
        tells = tells;
        means = λ texts. kept answer (waits.means texts);
        unread = λ no. (refused answer (waits.unread no).0, ap (with_outcome (done answer)) (waits.unread no).1);
      })
    where
      kept : (a : Result (Unit {0}) SeenError) → Keeps a put old between → Put (done a) put old (record between { outcome = done a })
      kept (Ok u) h = (refl, ap (with_outcome (done (Ok u))) h)
      kept (Err e) h = (h.0, ap (with_outcome (done (Err e))) h.1)

      refused : (a : Result (Unit {0}) SeenError) → IsMessage a → IsMessage (done a)
      refused (Ok u) h = absurd h
      refused (Err e) h = h

-- a call that copies at once what it makes
module _ (bytes : List Text) (Meant : Result Text Fault → Type 0) (before after : List ℕ) (result : Answer) where
  pub copies_text : (t : String Global) → Reads bytes string_bytes (Ok t) Meant → (result, after) ≡ copied (Some (string_bytes t)) before → MakesOnce bytes Meant before after result
  copies_text t reads copies = record {
    outcome = Ok (string_bytes t);
    reads = record { means = λ texts. reads.means texts; unread = λ no. reads.unread no };
    copies = copies;
  }

  pub copies_none : (e : SeenError) → Reads {X = String Global} bytes string_bytes (Err e) Meant → result ≡ told (Err e) → after ≡ before → MakesOnce bytes Meant before after result
  copies_none e reads tells stays = record {
    outcome = Err e;
    reads = record { means = λ texts. reads.means texts; unread = λ no. reads.unread no };
    copies = by e tells;
  }
    where
      by : (e : SeenError) → result ≡ told (Err e) → (result, after) ≡ copied_or_told (Err e) before
      by None tells = rw (tells, stays) refl
      by (Some fault) tells = rw (tells, stays) refl
