-- Texts in Base64.
use Rattle.std.specs.Prelude.{ℕ, Bool, true, false, cond, List, Result, Ok, Err, codes}
use Rattle.std.specs.Str.{is_utf8}
use Rattle.base64.specs.Engines.{standard, url_safe}
use Rattle.base64.specs.GeneralPurpose.{encode_of, decode_of}
use Rattle.base64.specs.declared.engine.general_purpose.GeneralPurpose.{GeneralPurpose}
use Rattle.tera_errors.specs.Fault.{Fault, message}
use Rattle.tera_values.specs.Val.{Val, text}
use Rattle.tera_values.specs.Named.{Named}
use Rattle.tera_built_ins.specs.Arguments.{◌▸◌, as_text, as_bool, or_default}

abbrev pub engine : Bool → GeneralPurpose
engine true = url_safe
engine false = standard

-- why it is refused is told in words alone
abbrev pub or_message : {A E : Type 0} → Result A E → Result A Fault
or_message (Ok a) = Ok a
or_message (Err e) = Err message

-- Base64 has no markup, so that it keeps the mark
abbrev pub b64encode_of : Val → Named Val → Result Val Fault
b64encode_of v given =
    as_text v ▸ λ g.
    or_default false as_bool (codes "url_safe") given ▸ λ for_url.
    Ok (text (encode_of (engine for_url) g.text) g.safe)

-- what is no UTF-8 is no text, and what is decoded may be markup
abbrev pub unsafe_text : List ℕ → Result Val Fault
unsafe_text t = cond (is_utf8 t) (Ok (text t false)) (Err message)

abbrev pub b64decode_of : Val → Named Val → Result Val Fault
b64decode_of v given =
    as_text v ▸ λ g.
    or_default false as_bool (codes "url_safe") given ▸ λ for_url.
    or_message (decode_of (engine for_url) g.text) ▸ λ t.
    unsafe_text t
