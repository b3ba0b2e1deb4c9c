-- The lines of a text as paragraphs of markup.
use Rattle.std.specs.Prelude.{true, not, if◌then◌else◌, List, ◌++◌, ◌==◌, filter, codes, Result, Ok}
use Rattle.std.specs.List.{slice_split, join_by}
use Rattle.std.specs.Str.{byte}
use Rattle.tera_errors.specs.Prelude.{Text, Fault}
use Rattle.tera_values.specs.Prelude.{Val, text, plain, escape_html}
use Rattle.tera_built_ins.specs.Arguments.{◌▸◌, Given, as_text}
use Rattle.tera_built_ins.specs.Replace.{replaced}
use Rattle.tera_built_ins.specs.Words.{has_some}

-- the text with a line feed at the end of each line, be it CRLF, CR or LF
abbrev pub with_feeds : Text → Text
with_feeds t =
    let put = λ (from : Text) (t : Text). replaced plain.code from (codes "\n") t in
    put (codes "\r") (put (codes "\r\n") t)

-- what stands between line feeds
abbrev pub lines_of : Text → List Text
lines_of t = slice_split (λ b. b == byte "\n") t

-- the runs of lines that are not empty
abbrev pub runs_of : List Text → List (List Text)
runs_of lines = filter has_some (slice_split (λ l. not (has_some l)) lines)

-- a paragraph of such lines
abbrev pub paragraph : List Text → Text
paragraph lines = codes "<p>" ++ (join_by (λ l. l) (codes "<br>") lines ++ codes "</p>")

abbrev pub paragraphs : List Text → Text
paragraphs lines = join_by paragraph (codes "\n\n") (runs_of lines)

-- the escape of a text that is not safe
abbrev pub markup_of : Given → Text
markup_of g = if g.safe then g.text else escape_html g.text

-- what came from outside is escaped, so the answer is safe
abbrev pub linebreaks_of : Val → Result Val Fault
linebreaks_of v =
    as_text v ▸ λ g. Ok (text (paragraphs (lines_of (with_feeds (markup_of g)))) true)
