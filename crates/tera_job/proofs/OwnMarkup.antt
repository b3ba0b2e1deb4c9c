-- All markup of a page that escapes is text of templates.
use Rattle.std.proofs.Common.{◌≡◌, Bool, true, false, cond, IsTrue, List, [], ◌++◌, flat_map, Option, Some, None, Result, Ok, Err, refl, sym, ap, ◌∙◌, subst, append-nil}
use Rattle.tera.specs.Site.{Name, Text}
use Rattle.tera.specs.Fault.{Fault, message}
use Rattle.tera.specs.Val.{Val}
use Rattle.tera.specs.Named.{Named, put_all}
use Rattle.tera.specs.Lent.{texts_of}
use Rattle.tera.specs.Engine.{Engine, standard_engine}
use Rattle.tera.specs.Delimiters.{accepted as usable}
use Rattle.tera.specs.MeaningRegistry.{Template, Registry, new_registry}
use Rattle.tera.specs.Accepted.{fault}
use Rattle.tera.specs.Adding.{unless_faulty, added}
use Rattle.tera.specs.Configuring.{with_prefixes, with_suffixes}
use Rattle.tera.specs.Sources.{safe_texts, IsAnswered}
use Rattle.tera.specs.Renderings.{of_template, values_named, found_escapes}
use Rattle.tera.proofs.Foreign.{markup_is_the_templates, none_answers}
use Rattle.tera_data.specs.Values.{then}
use Rattle.tera_job.specs.Engines.{delimiters_given, prepared, AddsTo}
use Rattle.tera_job.specs.Laws.{MarkupIsNoneOfTheData}
use Rattle.tera_job.specs.declared.engine.Settings.{Settings}
use Rattle.tera_job.proofs.Unsafe.{data_is_unsafe}

-- no object of the caller, and nothing in the global context
abbrev HasNothingOwn : Registry → Type 0
HasNothingOwn r = (r.engine ≡ standard_engine) × (r.global ≡ [])

abbrev IfThere : Result Registry Fault → Type 0
IfThere (Ok r) = HasNothingOwn r
IfThere (Err fault) = Unit {0}

prepared-plain : (s : Settings) → IfThere (prepared s new_registry)
prepared-plain s = by (usable (delimiters_given s))
  where
    by : (b : Bool) → IfThere (then (cond b (Ok (record new_registry { delimiters = delimiters_given s })) (Err message))
        (λ r. then (with_prefixes (texts_of s.prefixes.now) r) (λ r. Ok (with_suffixes (texts_of s.suffixes.now) r))))
    by true = (refl, refl)
    by false = tt

unless-plain : (q : Registry) (o : Option Fault) (r : Registry) → HasNothingOwn q → (let x : Result Registry Fault = Ok r in x ≡ unless_faulty q o) → HasNothingOwn r
unless-plain q None r h e = let same : r ≡ q = cc in subst HasNothingOwn (sym same) h
unless-plain q (Some f) r h e = absurd (cc)

added-plain : (q : Registry) (reading : Result (Named Template) Fault) (r : Registry) → HasNothingOwn q → (let x : Result Registry Fault = Ok r in x ≡ added q reading) → HasNothingOwn r
added-plain q (Err f) r h e = absurd (cc)
added-plain q (Ok batch) r h e =
    let full : Registry = record q { templates = put_all batch q.templates } in
    unless-plain full (fault full) r h e

adds-plain : (x : Result Registry Fault) (templates : List (Name × Text)) (r : Registry) → IfThere x → AddsTo x templates (Ok r) → HasNothingOwn r
adds-plain (Ok q) templates r h adds = added-plain q adds.reading r h adds.is
adds-plain (Err f) templates r h adds = absurd (cc)

pub markup_is_none_of_the_data : MarkupIsNoneOfTheData
markup_is_none_of_the_data s templates r floats ds context name t page adds gives found on none_applies means =
    let own = adds-plain (prepared s new_registry) templates r (prepared-plain s) adds in
    let unsafe = data_is_unsafe floats ds context gives in
    markup_is_the_templates r (of_template name context) page
    (ap (λ (engine : Engine). engine.escape) own.0)
    (subst (λ (o : Option (Name × Template)). IsTrue (found_escapes r o)) (sym found) on)
    (record {
      values_are_unsafe =
          ap (λ (global : Named Val). flat_map safe_texts (values_named context ++ values_named global)) own.1
          ∙ ap (λ (vs : List Val). flat_map safe_texts vs) (append-nil (values_named context))
          ∙ unsafe;
      answers_are_unsafe = λ b answered. none_answers b (subst (λ (engine : Engine). IsAnswered engine b) own.0 answered);
      none_applies_safe = none_applies;
    })
    (sym means.is)
