use Rattle.std.proofs.Common.{◌≡◌, ◌++◌, ◌∷◌, [], false, None, sym, ap, ◌∙◌}
use Rattle.tera_filters.specs.Clocks.{instant_text}
use Rattle.tera_filters.proofs.Calendars.{clock_text-is}
use Rattle.tera_filters.proofs.clocks.instant_value.Goals as goal

pub returns : goal.returns
returns c =
    let made = c.timestamp_text.ensures in
    let lowercase : c.new.result.lowercase ≡ false = ap (λ o. o.0) c.new.ensures in
    let separator : c.new.result.separator ≡ 84 = ap (λ o. o.1) c.new.ensures in
    let precision : c.new.result.precision ≡ None = ap (λ o. o.2) c.new.ensures in
    let is : c.as_str.result.now ≡ instant_text c.args.instant.nanosecond =
    c.as_str.ensures.value ∙ (rw (lowercase, separator, precision) at made.2)
    ∙ ap (λ t. t ++ 90 ∷ []) (sym (clock_text-is made.0 c.args.instant.nanosecond made.1)) in
    rw (← is) c.string.ensures
