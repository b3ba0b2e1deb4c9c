-- What pages are.
use Rattle.std.specs.Prelude.{◌≡◌, ◌⊎◌, Bool, true, false, not, ◌&&◌, List, [], ◌∷◌, ◌++◌, map, filter, Result, Ok, Err, string_bytes}
use Rattle.std.specs.List.{list_all}
use Rattle.tera.specs.Site.{Name, Text}
use Rattle.tera.specs.Fault.{Fault, message}
use Rattle.tera.specs.Val.{Val}
use Rattle.tera.specs.Named.{Named, is_one_of}
use Rattle.tera.specs.MeaningRegistry.{Registry}
use Rattle.tera.specs.Rendering.{ByName}
use Rattle.tera_job.specs.Paths.{is_page, output_path, stays_inside}
use Rattle.tera_job.specs.declared.page.Page.{Page}

-- a page as a contract sees it: its path and its text
abbrev pub SeenPage : Type 0
SeenPage = Text × Text

abbrev pub page_seen : Page → SeenPage
page_seen page = (string_bytes page.path, string_bytes page.text)

abbrev pub pages_seen : List Page → List SeenPage
pages_seen = map page_seen

-- a text at its path; a fault stays
abbrev pub at_path : Text → Result Text Fault → Result SeenPage Fault
at_path path (Ok text) = Ok (path, text)
at_path path (Err fault) = Err fault

-- what the page of a template may be: what the template renders to, at the template's path
pub record IsPage (r : Registry) (context : Named Val) (name : Name)
    (answer : Result SeenPage Fault) : Type 0 where
  pub rendered : Result Text Fault
  pub means : ByName r name context rendered
  pub is : answer ≡ at_path (output_path name) rendered

-- the templates that make pages of their own, in byte order of their names
abbrev pub page_names : Registry → List Name
page_names r = filter is_page (map (λ t. t.0) r.templates)

-- no two are equal
abbrev pub are_distinct : List Text → Bool
are_distinct [] = true
are_distinct (path ∷ paths) = not (is_one_of paths path) && are_distinct paths

-- each path leads to a file below the folder of pages, and no two are equal
abbrev pub have_places : List Text → Bool
have_places paths = list_all stays_inside paths && are_distinct paths

-- a page for each name, in their order
abbrev pub AreMade : Registry → Named Val → List Name → List SeenPage → Type 0
AreMade r context [] [] = Unit {0}
AreMade r context [] (page ∷ pages) = ⊥
AreMade r context (name ∷ names) [] = ⊥
AreMade r context (name ∷ names) (page ∷ pages) =
    IsPage r context name (Ok page) × AreMade r context names pages

-- a fault, and the first name whose page has it
pub record StopsAt (r : Registry) (context : Named Val) (names : List Name) (fault : Fault)
    : Type 0 where
  pub before : List Name
  pub name : Name
  pub rest : List Name
  pub are_all : names ≡ before ++ name ∷ rest
  pub pages : List SeenPage
  pub made : AreMade r context before pages
  pub stops : IsPage r context name (Err fault)

-- what the pages of these templates may be: all of them, or the fault of the first that fails
abbrev pub PagesOf : Registry → Named Val → List Name → Result (List SeenPage) Fault → Type 0
PagesOf r context names (Ok pages) = AreMade r context names pages
PagesOf r context names (Err fault) = StopsAt r context names fault

-- What the pages of a folder of templates may be. Where two of them have one place, or one leads out
-- of the folder, none is made.
abbrev pub ArePages : Registry → Named Val → Result (List SeenPage) Fault → Type 0
ArePages r context answer =
    let names = page_names r in
    ((have_places (map output_path names) ≡ true) × PagesOf r context names answer)
    ⊎ ((have_places (map output_path names) ≡ false) × (answer ≡ Err message))
