-- The templates that bytes and sizes spell.
use Rattle.std.specs.Prelude.{ℕ, suc, List, [], ◌∷◌, take, drop, bytes_eq, cond}
use Rattle.tera.specs.Site.{Name, Text}
use Rattle.tera_page.specs.declared.templates.TemplateSize.{TemplateSize}

-- the names and the texts, which lie one behind the other; where bytes lack, they are shorter
abbrev pub templates_in : List TemplateSize → Text → List (Name × Text)
templates_in [] bytes = []
templates_in (size ∷ more) bytes = let behind = drop size.name bytes in
    (take size.name bytes, take size.text behind) ∷ templates_in more (drop size.text behind)

-- all names and texts
abbrev pub pieces_of : List (Name × Text) → List Text
pieces_of [] = []
pieces_of (t ∷ more) = t.0 ∷ t.1 ∷ pieces_of more

-- the place of the first template of this name, or their number
abbrev pub place_among : List (Name × Text) → Name → ℕ
place_among [] name = 0
place_among (t ∷ more) name = cond (bytes_eq t.0 name) 0 (suc (place_among more name))
