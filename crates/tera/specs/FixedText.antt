-- What a text beside the registry renders to, as a function of the text: of one that is written out
-- it computes.
use Rattle.std.specs.Prelude.{Bool, true, Option, Result, Ok, option_map, IsSomeAnd}
use Rattle.tera_errors.specs.Site.{Text}
use Rattle.tera_errors.specs.Fault.{Fault}
use Rattle.tera_values.specs.Val.{Val}
use Rattle.tera_values.specs.Named.{Named}
use Rattle.tera_syntax.specs.TreeRead.{tree_read}
use Rattle.tera_meaning.specs.Registry.{Registry}
use Rattle.tera_meaning.specs.Rendering.{render_str}
use Rattle.tera_meaning.specs.Marks.Renderings.{Rendering, of_text, sources}
use Rattle.tera_meaning.specs.Marks.Foreign.{HasOwnMarkup, MarksNoneSafe}

-- the answer that its tree means, if the text spells one
abbrev pub text_rendered : Registry → Text → Named Val → Bool → Option (Result Text Fault)
text_rendered r text context autoescape =
    option_map (λ tree. render_str r (Ok tree) context autoescape) (tree_read r.delimiters text)

-- its rendering where texts are escaped, if the text spells a tree
abbrev pub text_call : Registry → Text → Named Val → Option Rendering
text_call r text context =
    option_map (λ tree. of_text (Ok tree) context true) (tree_read r.delimiters text)

-- the text spells a tree, and nothing that its rendering is made of is marked safe
abbrev pub TextMarksNoneSafe : Registry → Text → Named Val → Type 0
TextMarksNoneSafe r text context =
    IsSomeAnd (text_call r text context) (λ call. MarksNoneSafe (sources r call))

-- a page is what the text renders to where texts are escaped, and all its markup is the text's own,
-- or that of templates which it takes in
abbrev pub TextHasOwnMarkup : Registry → Text → Named Val → Text → Type 0
TextHasOwnMarkup r text context page =
    IsSomeAnd (text_call r text context) (λ call. HasOwnMarkup r call page)
