-- What a format shows depends on nothing but the parts, where they hold all of a date.
use Rattle.std.proofs.Common.{arith, ◌≡◌, ◌⊎◌, inl, inr, ℕ, zero, suc, ◌++◌, ◌==◌, Bool, true, false, cond, length, get_or, drop, List, [], ◌∷◌, ℤ, Option, Result, Ok, Err, refl, ap}
use Rattle.std.proofs.lemmas.Bool.Decides.{nat_tests}
use Rattle.jiff_core.specs.declared.civil.date.Date.{Date}
use Rattle.jiff_core.specs.declared.civil.iso_week_date.ISOWeekDate.{ISOWeekDate}
use Rattle.jiff_core.specs.declared.error.Error.{Error}
use Rattle.jiff_core.specs.declared.error.Error.TheVariants.{Missing}
use Rattle.jiff_core.specs.declared.error.Part.TheVariants as Part
use Rattle.jiff_strtime.specs.Directive.{read_extension, read_width}
use Rattle.jiff_strtime.specs.Number.{match_result}
use Rattle.jiff_strtime.specs.Show.{Context, Shown, then_show, second_of, text_of, items_from, directive_text, shown_then, show_f, show_letter, percent_text, step_text, show_steps, show_format}
use Rattle.jiff_strtime.specs.Text.{Parts}
use Rattle.tera_errors.specs.Site.{Text}
use Rattle.tera_filters.specs.Clocks.{Day, Time}
use Rattle.tera_filters.specs.Dates.{parts_on, strict}

-- the same, or the instant of the first was not found, which Q allows
abbrev pub Lost : Type 0 → {A : Type 0} → Result A Error → Result A Error → Type 0
Lost Q a b = (a ≡ b) ⊎ (Q × (a ≡ Err (Missing Part.Instant)))

module _ (Q : Type 0) where
  cond-lost : {A : Type 0} (b : Bool) (x y z w : Result A Error) → Lost Q x y → Lost Q z w → Lost Q (cond b x z) (cond b y w)
  cond-lost true x y z w p q = p
  cond-lost false x y z w p q = q

  then_show-lost : {A B : Type 0} (a b : Result A Error) (f g : A → Result B Error) → Lost Q a b → ((x : A) → Lost Q (f x) (g x)) →
      Lost Q (then_show a f) (then_show b g)
  then_show-lost a b f g (inr (q, e)) k = rw e (inr (q, refl))
  then_show-lost (Ok x) b f g (inl e) k = rw (← e) (k x)
  then_show-lost (Err x) b f g (inl e) k = rw (← e) (inl refl)

  match_result-lost : {A B : Type 0} (a b : Result A Error) (f g : A → Result B Error) → Lost Q a b → ((x : A) → Lost Q (f x) (g x)) →
      Lost Q (match_result a f (λ e. Err e)) (match_result b g (λ e. Err e))
  match_result-lost a b f g (inr (q, e)) k = rw e (inr (q, refl))
  match_result-lost (Ok x) b f g (inl e) k = rw (← e) (k x)
  match_result-lost (Err x) b f g (inl e) k = rw (← e) (inl refl)

  shown_then-lost : (after : List ℕ) (a b : Shown) → Lost Q a b → Lost Q (shown_then after a) (shown_then after b)
  shown_then-lost after a b (inl e) = inl (ap (shown_then after) e)
  shown_then-lost after a b (inr (q, e)) = inr (q, ap (shown_then after) e)

  module _ (d : Day) (t : Time) (number : ℤ) (offset timestamp : Option ℤ) (name : Option Text)
      (found date : Result Date Error) (week iso : Result ISOWeekDate Error) (read second : Result ℤ Error) where
    abbrev parts : Parts
    parts = record (parts_on d t number) { offset = offset; timestamp = timestamp; tz_abbreviation = name }

    abbrev one : Context
    one = record { parts = parts; date = found; iso = week; second = read }

    abbrev other : Context
    other = record { parts = parts; date = date; iso = iso; second = second }

    module _ (h : Lost Q (second_of one) (second_of other)) where
      text_of-lost : (letter : ℕ) (ext : _) → Lost Q (text_of letter ext one) (text_of letter ext other)
      unfolding text_of
      text_of-lost letter ext = elim (same_or_not letter 115) [
        | inl is ↦ rw is (then_show-lost _ _ _ _ h (λ x. inl refl))
        | inr apart ↦ rw apart (inl refl)
      ]
        where
          same_or_not : (a b : ℕ) → (a ≡ b) ⊎ ((a == b) ≡ false)
          same_or_not a b = grind (arith, nat_tests)

      directive_text-lost : (letter : ℕ) (ext : _) → Lost Q (directive_text strict letter ext one) (directive_text strict letter ext other)
      unfolding directive_text items_from text_of
      directive_text-lost letter ext =
          cond-lost (letter == 99) _ _ _ _ (inl refl)
          (cond-lost (letter == 68) _ _ _ _ (inl refl)
          (cond-lost (letter == 70) _ _ _ _ (inl refl)
          (cond-lost (letter == 82) _ _ _ _ (inl refl)
          (cond-lost (letter == 114) _ _ _ _ (inl refl)
          (cond-lost (letter == 84) _ _ _ _ (inl refl)
          (cond-lost (letter == 88) _ _ _ _ (inl refl)
          (cond-lost (letter == 120) _ _ _ _ (inl refl) (text_of-lost letter ext))))))))

      show_letter-lost : (ext : _) (fmt : List ℕ) → Lost Q (show_letter strict ext fmt one) (show_letter strict ext fmt other)
      show_letter-lost ext [] = inl refl
      show_letter-lost ext (letter ∷ after) =
          cond-lost (letter == 46) _ _ _ _ (match_result-lost (read_width after) _ _ _ (inl refl) (λ w. show_f-lost w.0 w.1))
          (shown_then-lost after _ _ (directive_text-lost letter ext))
        where
          show_f-lost : (width : Option ℕ) (s : List ℕ) → Lost Q (show_f width s one) (show_f width s other)
          show_f-lost width [] = inl refl
          show_f-lost width (f ∷ rest) = inl refl

      percent_text-lost : (fmt : List ℕ) → Lost Q (percent_text strict fmt one) (percent_text strict fmt other)
      percent_text-lost fmt = match_result-lost (read_extension fmt) _ _ _ (inl refl) (λ e. show_letter-lost e.0 e.1)

      step_text-lost : (fmt : List ℕ) → Lost Q (step_text strict fmt one) (step_text strict fmt other)
      step_text-lost fmt =
          cond-lost (length fmt == 0) _ _ _ _ (inl refl)
          (cond-lost (get_or fmt 0 0 == 37) _ _ _ _
          (cond-lost (length (drop 1 fmt) == 0) _ _ _ _ (inl refl) (percent_text-lost (drop 1 fmt))) (inl refl))

      show_steps-lost : (fuel : ℕ) (fmt text : List ℕ) → Lost Q (show_steps fuel strict fmt one text) (show_steps fuel strict fmt other text)
      unfolding show_steps
      show_steps-lost zero fmt text = inl refl
      show_steps-lost (suc fuel) fmt text =
          match_result-lost _ _ _ _ (step_text-lost fmt) (λ t. show_steps-lost fuel t.1 (text ++ t.0))

      pub show_format-lost : (format : List ℕ) → Lost Q (show_format strict format one) (show_format strict format other)
      show_format-lost format = show_steps-lost (length format) format []
