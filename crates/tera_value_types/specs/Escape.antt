-- The escapes of markup.
use Rattle.std.specs.Prelude.{ℕ, List, [], ◌∷◌, cond, nat_eq, codes}
use Rattle.std.specs.Str.{byte}
use Rattle.tera_value_types.specs.Growth.{by_byte, form_in}

-- what stands for one byte
abbrev pub escape_byte : ℕ → List ℕ
escape_byte =
    form_in (
    (byte "&", codes "&amp;")
    ∷ (byte "<", codes "&lt;")
    ∷ (byte ">", codes "&gt;")
    ∷ (byte "\"", codes "&quot;")
    ∷ (byte "'", codes "&#x27;")
    ∷ [])

abbrev pub escape_html : List ℕ → List ℕ
escape_html = by_byte escape_byte

-- what stands for one byte in XML, where the apostrophe has a name
abbrev pub escape_xml_byte : ℕ → List ℕ
escape_xml_byte b = cond (nat_eq b (byte "'")) (codes "&apos;") (escape_byte b)

abbrev pub escape_xml : List ℕ → List ℕ
escape_xml = by_byte escape_xml_byte
