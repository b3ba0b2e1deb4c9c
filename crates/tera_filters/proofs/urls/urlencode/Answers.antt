use Rattle.std.proofs.Common.{rules, ◌≡◌, codes, string_bytes, ◌∙◌}
use Rattle.tera_filters.specs.Urls.{urlencoded}
use Rattle.tera_filters.proofs.Encoded.{in_path-is}
use Rattle.tera_filters.proofs.urls.urlencode.Goals as goal

-- src/urls.rt
pub returns : goal.returns
returns c =
    let meant : string_bytes c.in_ok-encoded.encoded ≡ urlencoded (codes "/-_.~") c.in_ok-given.given.text.now = c.in_ok-encoded.ensures ∙ in_path-is c.in_ok-given.given.text.now in
    search (rules, meant)
