use Rattle.std.proofs.Common.{◌≡◌, string_bytes}
use Rattle.std.proofs.lemmas.Str.{IsUtf8-string_bytes}
use Rattle.tera_filters.specs.Dates.{strict}
use Rattle.tera_filters.specs.Moments.{moment_view}
use Rattle.tera_filters.proofs.Telling.{strict-is, told_text, told_error}
use Rattle.tera_filters.proofs.dates.show.Goals as goal

pub returns-in-Ok : goal.returns-in-Ok
returns-in-Ok c =
    let is_strict : c.new.result ≡ strict = strict-is c.new.result c.new.ensures.locale c.new.ensures.strict in
    told_text (moment_view c.args.moment) c.moment_parts-parts.result c.args.format.now c.moment_parts-parts.ensures
    (string_bytes c.in-Ok.text) (IsUtf8-string_bytes c.in-Ok.text) (rw (is_strict, c.as_bytes.ensures.value) at c.in-Ok.ensures.ok)

pub returns-in-Err : goal.returns-in-Err
returns-in-Err c =
    let is_strict : c.new.result ≡ strict = strict-is c.new.result c.new.ensures.locale c.new.ensures.strict in
    let said = c.format_error.ensures in
    told_error (moment_view c.args.moment) c.moment_parts-parts.result c.args.format.now c.moment_parts-parts.ensures
    c.in-Err.error c.format_error.result (rw (is_strict, c.as_bytes.ensures.value) at c.in-Err.ensures.err) said.refused said.memory said.lost
