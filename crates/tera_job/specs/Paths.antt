-- Where the page of a template goes.
use Rattle.std.specs.Prelude.{Bool, not, cond, ◌||◌, nat_eq, ◌-◌, List, [], ◌∷◌, take, length, codes, Option, Some, None, unwrap_or}
use Rattle.std.specs.List.{list_any, slice_split, starts_with, ends_with}
use Rattle.std.specs.Str.{byte, bytes_eq}
use Rattle.tera.specs.Site.{Name, Text}

-- the parts of a path, between which `/` stands
abbrev pub parts_of : Text → List Text
parts_of path = slice_split (λ b. nat_eq b (byte "/")) path

abbrev pub is_hidden : Text → Bool
is_hidden part = starts_with nat_eq part (codes "_")

-- no part of the name begins with `_`
abbrev pub is_page : Name → Bool
is_page name = not (list_any is_hidden (parts_of name))

-- the name without this suffix, if it has that
abbrev pub stem : Text → Name → Option Text
stem suffix name =
    cond (ends_with nat_eq name suffix) (Some (take (length name - length suffix) name)) None

-- without the first of these suffixes that it has
abbrev pub without_one_of : List Text → Name → Text
without_one_of [] name = name
without_one_of (suffix ∷ suffixes) name =
    unwrap_or (stem suffix name) (without_one_of suffixes name)

-- the template's name, without a last suffix that says that it is a template
abbrev pub output_path : Name → Text
output_path name = without_one_of (codes ".tera" ∷ codes ".j2" ∷ codes ".jinja" ∷ []) name

-- a part that names no file of its folder
abbrev pub is_step : Text → Bool
is_step part = bytes_eq part [] || (bytes_eq part (codes ".") || bytes_eq part (codes ".."))

-- each part of the path is a name, so that it leads to a file below the folder where it starts
abbrev pub stays_inside : Text → Bool
stays_inside path = not (list_any is_step (parts_of path))
