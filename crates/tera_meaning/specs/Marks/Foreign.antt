-- Renderings whose markup is all text of templates.
use Rattle.std.specs.Prelude.{◌≡◌, ℕ, Bool, true, false, IsTrue, List, [], filter, flat_map, Ok}
use Rattle.std.specs.List.{AllByRecursion}
use Rattle.tera_errors.specs.Site.{Text}
use Rattle.tera_values.specs.Alphabet.{Mark, template, Marked, plain, marking, bytes_of}
use Rattle.tera_values.specs.Escape.{escape_html}
use Rattle.tera_meaning.specs.Registry.{Registry}
use Rattle.tera_meaning.specs.Marks.Origin.{is_markup}
use Rattle.tera_meaning.specs.Marks.Sources.{safe_texts, Sources, IsAnswered, applies_safe}
use Rattle.tera_meaning.specs.Marks.Renderings.{Rendering, answered_in, escapes, sources}

-- not from the text of a template
abbrev pub is_foreign : Mark → Bool
is_foreign template = false
is_foreign other = true

-- the characters of a marked text that are no text of a template
abbrev pub foreign : List Marked → Text
foreign t = bytes_of (filter (λ c. is_foreign c.1) t)

-- none of < > " ' is in it
abbrev pub HoldsNoMarkup : Text → Type 0
HoldsNoMarkup t = AllByRecursion (λ b. is_markup b ≡ false) t

-- A page is what a rendering answers, and all its markup is text of templates: `marked` is the page
-- as it is meant, each character with where it comes from, and what of it is no text of a template
-- holds no markup.
pub record HasOwnMarkup (r : Registry) (call : Rendering) (page : Text) : Type 0 where
  pub marked : List Marked
  pub is_meant : answered_in marking r call ≡ Ok marked
  pub is_page : bytes_of marked ≡ page
  pub foreign_holds_none : HoldsNoMarkup (foreign marked)

-- Nothing is marked safe: no text of a value of the caller, none that an object of the caller
-- answers, and none by the filter `safe`, which is applied nowhere.
pub record MarksNoneSafe (s : Sources) : Type 0 where
  pub values_are_unsafe : flat_map safe_texts s.values ≡ []
  pub answers_are_unsafe : (b : ℕ) → IsAnswered s.engine b → ⊥
  pub none_applies_safe : applies_safe s ≡ false

-- Where texts are escaped, and by `escape_html`, and nothing is marked safe, all markup of a page is
-- text of templates.
abbrev pub MarkupIsTheTemplates : Type 0
MarkupIsTheTemplates =
    (r : Registry) (call : Rendering) (page : Text)
    → r.engine.escape ≡ escape_html → IsTrue (escapes r call) → MarksNoneSafe (sources r call)
    → answered_in plain r call ≡ Ok page
    → HasOwnMarkup r call page
