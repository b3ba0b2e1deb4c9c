-- What bytes are that are cut into names and texts, one template after another.
use Rattle.std.proofs.Common.{◌≡◌, ℕ, ◌+◌, ◌<◌, suc, List, [], ◌∷◌, ◌++◌, length, get_or, take, drop, refl, sym, ap, subst, ◌∙◌, append_assoc, add-one}
use Rattle.std.specs.Prelude.{IsUtf8}
use Rattle.std.proofs.Math.Seq.{drop-cons}
use Rattle.tera.specs.Site.{Name, Text}
use Rattle.tera_renderer.specs.Calls.{AreTexts}
use Rattle.tera_page.specs.Templates.{pieces_of, templates_in}
use Rattle.tera_page.specs.declared.templates.TemplateSize.{TemplateSize}

-- of texts those in front are texts
pub texts_in_front : (front more : List Text) → AreTexts (front ++ more) → AreTexts front
texts_in_front [] more texts = tt
texts_in_front (t ∷ front) more texts = (texts.0, texts_in_front front more texts.1)

-- names and texts of all templates are texts, so those of one are
pub name_among : (front more : List (Name × Text)) (name text : Text) → AreTexts (pieces_of (front ++ (name, text) ∷ more)) → IsUtf8 name
name_among [] more name text texts = texts.0
name_among (t ∷ front) more name text texts = name_among front more name text texts.1.1

pub text_among : (front more : List (Name × Text)) (name text : Text) → AreTexts (pieces_of (front ++ (name, text) ∷ more)) → IsUtf8 text
text_among [] more name text texts = texts.1.0
text_among (t ∷ front) more name text texts = text_among front more name text texts.1.1

-- and with one template more they still are
pub texts_of_more : (front : List (Name × Text)) (name text : Text) → AreTexts (pieces_of front) → IsUtf8 name → IsUtf8 text → AreTexts (pieces_of (front ++ (name, text) ∷ []))
texts_of_more [] name text texts is_name is_text = (is_name, (is_text, tt))
texts_of_more (t ∷ front) name text texts is_name is_text = (texts.0, (texts.1.0, texts_of_more front name text texts.1.1 is_name is_text))

-- there are as many templates as sizes
pub length_templates_in : (sizes : List TemplateSize) (bytes : Text) → length (templates_in sizes bytes) ≡ length sizes
length_templates_in [] bytes = refl
length_templates_in (size ∷ sizes) bytes = ap suc (length_templates_in sizes (drop size.text (drop size.name bytes)))

abbrev pub size_at : List TemplateSize → ℕ → TemplateSize
size_at sizes i = get_or sizes i (record { name = 0; text = 0 })

-- all templates, where these are cut off in front, and the next one has this size
module _ (sizes : List TemplateSize) (i : ℕ) (rest : Text) (front all : List (Name × Text)) (within : i < length sizes) (together : front ++ templates_in (drop i sizes) rest ≡ all) where
  abbrev pub next_name : Text
  next_name = take (size_at sizes i).name rest

  abbrev pub behind_name : Text
  behind_name = drop (size_at sizes i).name rest

  abbrev pub next_text : Text
  next_text = take (size_at sizes i).text behind_name

  abbrev pub those_behind : List (Name × Text)
  those_behind = templates_in (drop (suc i) sizes) (drop (size_at sizes i).text behind_name)

  pub next_of_all : front ++ (next_name, next_text) ∷ those_behind ≡ all
  next_of_all = subst (λ left. front ++ templates_in left rest ≡ all) (drop-cons sizes i (record { name = 0; text = 0 }) within) together

  pub next_name_among : AreTexts (pieces_of all) → IsUtf8 next_name
  next_name_among texts = name_among front those_behind next_name next_text (subst (λ l. AreTexts (pieces_of l)) (sym next_of_all) texts)

  pub next_text_among : AreTexts (pieces_of all) → IsUtf8 next_text
  next_text_among texts = text_among front those_behind next_name next_text (subst (λ l. AreTexts (pieces_of l)) (sym next_of_all) texts)

  -- the next one is cut off too
  pub one_more : (new : List (Name × Text)) (name text behind : Text) → new ≡ front ++ (name, text) ∷ [] → name ≡ next_name → text ≡ next_text → behind ≡ drop (size_at sizes i).text behind_name → new ++ templates_in (drop (i + 1) sizes) behind ≡ all
  one_more new name text behind is_new is_name is_text is_behind =
      ap (λ l. l ++ templates_in (drop (i + 1) sizes) behind) is_new
      ∙ append_assoc front ((name, text) ∷ []) (templates_in (drop (i + 1) sizes) behind)
      ∙ rw (is_name, is_text, is_behind, add-one) next_of_all
