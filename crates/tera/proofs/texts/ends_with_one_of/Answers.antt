use Rattle.std.proofs.Common.{◌≡◌, Bool, List, [], ◌∷◌, ◌||◌, map, string_bytes, nat_eq, refl, ap, ◌∙◌, rules}
use Rattle.std.specs.List.{list_any, ends_with}
use Rattle.std.proofs.lemmas.Iterator.{YieldsList-from_slice}
use Rattle.std.proofs.lemmas.Iterator.Search.{any_from_yields_List}
use Rattle.std.proofs.lemmas.Str.Pattern.{ends_text}
use Rattle.tera.proofs.texts.ends_with_one_of.Goals as goal

list_any-map : {X Y : Type 0} (p : Y → Bool) (f : X → Y) (xs : List X) → list_any (λ x. p (f x)) xs ≡ list_any p (map f xs)
list_any-map p f [] = refl
list_any-map p f (x ∷ xs) = ap (λ b. p (f x) || b) (list_any-map p f xs)

pub returns : goal.returns
returns c =
    let h = any_from_yields_List (λ s. ends_with nat_eq c.args.name.now (string_bytes s)) _ _ c.any.result c.any.ensures.ran (YieldsList-from_slice c.args.suffixes.now c.iter.ensures.rest) (λ x b q k. search (rules, ends_text)) in
    h ∙ list_any-map (λ s. ends_with nat_eq c.args.name.now s) string_bytes c.args.suffixes.now
