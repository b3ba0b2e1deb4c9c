-- Texts written as markup.
use Rattle.std.specs.Prelude.{false, codes, Result, Ok}
use Rattle.tera_errors.specs.Site.{Text}
use Rattle.tera_errors.specs.Fault.{Fault}
use Rattle.tera_values.specs.Alphabet.{Alphabet, plain, made}
use Rattle.tera_values.specs.Val.{ValOf, text}
use Rattle.tera_values.specs.Escape.{escape_html, escape_xml}
use Rattle.tera_built_ins.specs.declared.markup_filters.Markup.{Markup}
use Rattle.tera_built_ins.specs.declared.markup_filters.Markup.TheVariants.{Html, Xml}
use Rattle.tera_built_ins.specs.Arguments.{◌▸◌, as_text}
use Rattle.tera_built_ins.specs.Replace.{replaced}

abbrev pub escape_of : Markup → Text → Text
escape_of Html = escape_html
escape_of Xml = escape_xml

-- the escape of a text, safe or not, and not marked safe itself
abbrev pub escaped_by : (Text → Text) → {C : Type 0} → Alphabet C → ValOf C → Result (ValOf C) Fault
escaped_by escape alphabet v =
    as_text v ▸ λ g.
    Ok (text (alphabet.spelled made (escape (alphabet.seen g.text))) false)

abbrev pub escape_html_of : {C : Type 0} → Alphabet C → ValOf C → Result (ValOf C) Fault
escape_html_of = escaped_by escape_html

abbrev pub escape_xml_of : {C : Type 0} → Alphabet C → ValOf C → Result (ValOf C) Fault
escape_xml_of = escaped_by escape_xml

-- `<br>` for each CRLF, and then for each LF and each CR
abbrev pub with_breaks : Text → Text
with_breaks t =
    let put = λ (from : Text) (t : Text). replaced plain.code from (codes "<br>") t in
    put (codes "\r") (put (codes "\n") (put (codes "\r\n") t))

-- the ends of lines as markup; nothing is escaped, and the answer is not marked safe
abbrev pub newlines_to_br_of : {C : Type 0} → Alphabet C → ValOf C → Result (ValOf C) Fault
newlines_to_br_of alphabet v =
    as_text v ▸ λ g.
    Ok (text (alphabet.spelled made (with_breaks (alphabet.seen g.text))) false)
