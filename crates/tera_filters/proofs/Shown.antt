-- What the library shows of a moment is what its parts come to.
use Rattle.std.proofs.Common.{◌≡◌, inl, inr, ℕ, ℤ, pos, ◌+ℤ◌, List, Some, None, option_map, Result, Ok, Err, refl, sym, ap, ◌∙◌, subst}
use Rattle.std.specs.Int.{int_div_euclid}
use Rattle.jiff_core.specs.declared.error.Error.{Error}
use Rattle.jiff_core.specs.declared.error.Error.TheVariants.{Missing}
use Rattle.jiff_core.specs.declared.error.Part.TheVariants as Part
use Rattle.jiff_strtime.specs.Number.{match_result}
use Rattle.jiff_strtime.specs.Show.{Context, Shown, show_format, SecondResult, IsShownAs}
use Rattle.jiff_strtime.specs.Text.{Parts, parts_of}
use Rattle.jiff_strtime.specs.declared.tm.BrokenDownTime.{BrokenDownTime}
use Rattle.jiff_core.specs.Timestamp.{nanos_of_seconds}
use Rattle.tera_filters.specs.Clocks.{date_on, time_on}
use Rattle.tera_filters.specs.Dates.{Moment, civil, placed, number_on, name_of_offset, moment_parts, IsPlaced, context_of, strict}
use Rattle.tera_filters.proofs.Showing.{Lost, show_format-lost}

abbrev found : Result ℤ Error → Result ℤ Error
found r = match_result r (λ s. Ok s) (λ e. Err (Missing Part.Instant))

-- a clock that stands nowhere shows no instant
found-civil : (tm : BrokenDownTime) (r : Result ℤ Error) → (parts_of tm).offset ≡ None → (parts_of tm).timestamp ≡ None →
    SecondResult tm r → found r ≡ Err (Missing Part.Instant)
found-civil tm (Err e) no_offset no_instant h = refl
found-civil tm (Ok s) no_offset no_instant (t, inl held, is) =
    let some : (parts_of tm).timestamp ≡ Some t.nanosecond = ap (option_map (λ t. t.nanosecond)) held in cc
found-civil tm (Ok s) no_offset no_instant (t, inr at, is) = let some = at.offset in cc

-- an instant that is held is shown, if it is found
found-placed : (tm : BrokenDownTime) (r : Result ℤ Error) (nanos : ℤ) → (parts_of tm).timestamp ≡ Some nanos → SecondResult tm r →
    Lost (Unit {0}) (found r) (Ok (int_div_euclid nanos (pos 1_000_000_000)))
found-placed tm (Err e) nanos held h = inr (tt, refl)
found-placed tm (Ok s) nanos held (t, inl is, second) =
    let some : (parts_of tm).timestamp ≡ Some t.nanosecond = ap (option_map (λ t. t.nanosecond)) is in
    let same : t.nanosecond ≡ nanos = cc in
    inl (ap Ok (second ∙ ap (λ n. int_div_euclid n (pos 1_000_000_000)) same))
found-placed tm (Ok s) nanos held (t, inr at, second) =
    let none : (parts_of tm).timestamp ≡ None = ap (option_map (λ t. t.nanosecond)) at.none in
    let no : Some nanos ≡ None = sym held ∙ none in cc

abbrev with_parts : Context → Parts → Context
with_parts x parts = record { parts = parts; date = x.date; iso = x.iso; second = x.second }

in_context : (m : Moment) (x : Context) (format : List ℕ) → x.parts ≡ moment_parts m →
    Lost (IsPlaced m) (show_format strict format (with_parts x (moment_parts m))) (show_format strict format (context_of m)) →
    Lost (IsPlaced m) (show_format strict format x) (show_format strict format (context_of m))
in_context m x format is h =
    let P : Parts → Type 0 = λ parts. Lost (IsPlaced m) (show_format strict format (with_parts x parts)) (show_format strict format (context_of m)) in
    subst P (sym is) h

pub shown_lost : (m : Moment) (tm : BrokenDownTime) (format : List ℕ) (r : Shown) → parts_of tm ≡ moment_parts m →
    IsShownAs strict format tm r → Lost (IsPlaced m) r (show_format strict format (context_of m))
shown_lost (civil clock) tm format r parts shown =
    let x = shown.context in
    let is : x.parts ≡ moment_parts (civil clock) = shown.is_context.parts ∙ parts in
    let second = found-civil tm x.second (ap (λ (p : Parts). p.offset) parts) (ap (λ (p : Parts). p.timestamp) parts) shown.is_context.second in
    rw (← shown.shown_is) (in_context (civil clock) x format is
    (show_format-lost (IsPlaced (civil clock)) (date_on clock) (time_on clock) (number_on clock) None None None
    x.date _ x.iso _ x.second _ (inl second) format))
shown_lost (placed nanos seconds) tm format r parts shown =
    let x = shown.context in
    let clock : ℤ = nanos +ℤ nanos_of_seconds seconds in
    let is : x.parts ≡ moment_parts (placed nanos seconds) = shown.is_context.parts ∙ parts in
    let second = found-placed tm x.second nanos (ap (λ (p : Parts). p.timestamp) parts) shown.is_context.second in
    rw (← shown.shown_is) (in_context (placed nanos seconds) x format is
    (show_format-lost (IsPlaced (placed nanos seconds)) (date_on clock) (time_on clock) (number_on clock) (Some seconds) (Some nanos)
    (name_of_offset seconds) x.date _ x.iso _ x.second _ second format))
