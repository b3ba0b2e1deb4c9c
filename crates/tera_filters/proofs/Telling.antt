-- What a format comes to, and what is told of one that can't be followed.
use Rattle.std.proofs.Common.{◌≡◌, ◌⊎◌, inl, inr, ℕ, List, cond, false, Some, None, Result, Ok, Err, sym, ap, ap₂, ◌∙◌, ⊎_elim, Bool}
use Rattle.std.proofs.lemmas.Bool.{cases_Bool}
use Rattle.std.proofs.lemmas.Str.{IsUtf8-from_is_utf8, is_utf8-from_IsUtf8}
use Rattle.std.specs.Str.{is_utf8, IsUtf8}
use Rattle.jiff_core.specs.declared.error.Error.{Error}
use Rattle.jiff_core.specs.declared.error.Error.TheVariants.{Missing, OutOfMemory}
use Rattle.jiff_core.specs.declared.error.Part.TheVariants as Part
use Rattle.jiff_strtime.specs.Show.{IsShownAs, IsBadText, show_format}
use Rattle.jiff_strtime.specs.Text.{parts_of}
use Rattle.jiff_strtime.specs.declared.directive.Config.{Config}
use Rattle.jiff_strtime.specs.declared.directive.Locale.{Locale}
use Rattle.jiff_strtime.specs.declared.directive.Locale.TheVariants.{Default}
use Rattle.jiff_strtime.specs.declared.tm.BrokenDownTime.{BrokenDownTime}
use Rattle.tera_errors.specs.Answer.{SeenError, Says, Lacks, Tells}
use Rattle.tera_errors.specs.Fault.{Fault, invalid_argument}
use Rattle.tera_errors.specs.Site.{Text}
use Rattle.tera_filters.specs.Dates.{Moment, moment_parts, IsPlaced, context_of, strict, readable, shown}
use Rattle.tera_filters.proofs.Showing.{Lost}
use Rattle.tera_filters.proofs.Shown.{shown_lost}

pub strict-is : (config : Config) → config.locale ≡ Default → config.lenient ≡ false → config ≡ strict
strict-is config locale lenient =
    ap₂ (λ (l : Locale) (b : Bool). let made : Config = record { locale = l; lenient = b } in made) locale lenient

readable-text : (t : List ℕ) → IsUtf8 t → readable (Ok t) ≡ Ok t
readable-text t h = ap (λ b. cond b (Ok t) (Err invalid_argument)) (is_utf8-from_IsUtf8 t h)

readable-none : (t : List ℕ) → (IsUtf8 t → ⊥) → readable (Ok t) ≡ Err invalid_argument
readable-none t h = ⊎_elim
    (λ yes. absurd (h (IsUtf8-from_is_utf8 t yes)))
    (λ no. ap (λ b. cond b (Ok t) (Err invalid_argument)) no) (cases_Bool (is_utf8 t))

says_told : (e : SeenError) (meant : Result Text Fault) → Tells e invalid_argument → meant ≡ Err invalid_argument → Says e meant
says_told None meant told is = tt
says_told (Some fault) meant told is = is ∙ ap (λ f. Err f) (sym told)

says_lacks : (e : SeenError) (meant : Result Text Fault) → Lacks e → Says e meant
says_lacks e meant lacks = rw lacks tt

module _ (m : Moment) (tm : BrokenDownTime) (format : List ℕ) (parts : parts_of tm ≡ moment_parts m) where
  pub told_text : (t : List ℕ) → IsUtf8 t → IsShownAs strict format tm (Ok t) → shown format m ≡ Ok t
  told_text t utf8 is = of_lost (shown_lost m tm format (Ok t) parts is)
    where
      of_lost : Lost (IsPlaced m) (Ok t) (show_format strict format (context_of m)) → shown format m ≡ Ok t
      of_lost (inl e) = ap readable (sym e) ∙ readable-text t utf8
      of_lost (inr (q, e)) = cc

  pub told_error : (error : Error) (e : SeenError) →
      (error ≡ OutOfMemory) ⊎ (IsBadText error strict format tm ⊎ IsShownAs strict format tm (Err error)) →
      Tells e invalid_argument → (error ≡ OutOfMemory → Lacks e) → (IsPlaced m → error ≡ Missing Part.Instant → Lacks e) →
      Says e (shown format m)
  told_error error e (inl no_memory) told memory lost = says_lacks e _ (memory no_memory)
  told_error error e (inr (inl bad)) told memory lost = of_lost (shown_lost m tm format (Ok bad.shown) parts bad.shown_as)
    where
      of_lost : Lost (IsPlaced m) (Ok bad.shown) (show_format strict format (context_of m)) → Says e (shown format m)
      of_lost (inl is) = says_told e _ told (ap readable (sym is) ∙ readable-none bad.shown bad.no_text)
      of_lost (inr (q, is)) = cc
  told_error error e (inr (inr failed)) told memory lost = of_lost (shown_lost m tm format (Err error) parts failed)
    where
      of_lost : Lost (IsPlaced m) (Err error) (show_format strict format (context_of m)) → Says e (shown format m)
      of_lost (inl is) = says_told e _ told (ap readable (sym is))
      of_lost (inr (q, is)) = let same : error ≡ Missing Part.Instant = cc in says_lacks e _ (lost q same)
