use Rattle.std.proofs.Common.{rules, ◌≡◌, [], string_bytes, ◌∙◌}
use Rattle.tera_filters.specs.Urls.{urlencoded}
use Rattle.tera_filters.proofs.Encoded.{strict-is}
use Rattle.tera_filters.proofs.urls.urlencode_strict.Goals as goal

-- src/urls.rt
pub returns : goal.returns
returns c =
    let meant : string_bytes c.in_ok-encoded.encoded ≡ urlencoded [] c.in_ok-given.given.text.now = c.in_ok-encoded.ensures ∙ strict-is c.in_ok-given.given.text.now in
    search (rules, meant)
