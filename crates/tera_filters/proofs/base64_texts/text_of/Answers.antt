use Rattle.std.proofs.Common.{rules, ◌≡◌, string_bytes, ap}
use Rattle.std.proofs.lemmas.Str.{IsUtf8-string_bytes}
use Rattle.tera_filters.proofs.Decoded.{unsafe_text-utf8, unsafe_text-refused}
use Rattle.tera_filters.proofs.base64_texts.text_of.Goals as goal

-- src/base64_texts.rt
pub returns-in-Ok : goal.returns-in-Ok
returns-in-Ok c =
    let same : string_bytes c.in-Ok.text ≡ c.args.bytes.items = ap (λ v. v.items) c.in-Ok.ensures.ok in
    let meant = unsafe_text-utf8 (string_bytes c.in-Ok.text) (IsUtf8-string_bytes c.in-Ok.text) in
    search (rules, same, meant)

pub returns : goal.returns
returns c =
    let meant = unsafe_text-refused c.args.bytes.items c.in-Err.ensures.succeeds in
    search (rules, meant)
