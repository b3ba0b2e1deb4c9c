-- Texts with a text between each two.
use Rattle.std.proofs.Common.{◌≡◌, List, [], ◌∷◌, ◌++◌, map, refl, sym, ap, ◌∙◌}
use Rattle.std.proofs.lemmas.List.Folds.{flat_map-map}
use Rattle.std.specs.List.{join_by}

-- a function of what v reads, joined over the items, is the function joined over what was read
pub join_by-map : {X Y A : Type 0} (g : Y → List A) (v : X → Y) (between : List A) (xs : List X) → join_by g between (map v xs) ≡ join_by (λ x. g (v x)) between xs
join_by-map g v between [] = refl
join_by-map g v between (x ∷ xs) = ap (λ (rest : List _). g (v x) ++ rest) (flat_map-map (λ y. between ++ g y) v xs)

-- what is joined counts, and not what it is read from
pub join_by-same : {X Y A : Type 0} (f : X → List A) (g : Y → List A) (between : List A) (xs : List X) (ys : List Y) → map f xs ≡ map g ys → join_by f between xs ≡ join_by g between ys
join_by-same f g between xs ys h =
    sym (join_by-map (λ (t : List _). t) f between xs)
    ∙ ap (join_by (λ (t : List _). t) between) h
    ∙ join_by-map (λ (t : List _). t) g between ys
