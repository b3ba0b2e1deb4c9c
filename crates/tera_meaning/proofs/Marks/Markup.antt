-- Marked texts written as markup.
use Rattle.std.proofs.Common.{ℕ}
use Rattle.tera_values.specs.Alphabet.{Marked, plain, marking}
use Rattle.tera_values.specs.Escape.{escape_html, escape_xml}
use Rattle.tera_values.specs.Val.{ValOf}
use Rattle.tera_built_ins.specs.Markup.{escape_html_of, escape_xml_of, with_breaks, newlines_to_br_of}
use Rattle.tera_meaning.proofs.Marks.Claim.{Claim}
use Rattle.tera_meaning.proofs.Marks.Standing.{Stands, ResultStands, answers}
use Rattle.tera_meaning.proofs.Marks.Given.{after-stands, as_text-stands}
use Rattle.tera_meaning.proofs.Marks.Made.{made_from-stands}

module _ {K : Claim} where
  pub escape_html-stands : {v : ValOf Marked} {w : ValOf ℕ} → Stands K v w → ResultStands (Stands K) (escape_html_of marking v) (escape_html_of plain w)
  escape_html-stands s = after-stands (as_text-stands s) (λ g h k. answers (made_from-stands escape_html k))

  pub escape_xml-stands : {v : ValOf Marked} {w : ValOf ℕ} → Stands K v w → ResultStands (Stands K) (escape_xml_of marking v) (escape_xml_of plain w)
  escape_xml-stands s = after-stands (as_text-stands s) (λ g h k. answers (made_from-stands escape_xml k))

  pub newlines_to_br-stands : {v : ValOf Marked} {w : ValOf ℕ} → Stands K v w → ResultStands (Stands K) (newlines_to_br_of marking v) (newlines_to_br_of plain w)
  newlines_to_br-stands s = after-stands (as_text-stands s) (λ g h k. answers (made_from-stands with_breaks k))
