-- Arguments by name, among the entries of a map.
use Rattle.std.proofs.Common.{◌≡◌, Bool, true, false, ◌||◌, cond, List, [], ◌∷◌, ◌++◌, Some, None, is_some, Result, Ok, refl, sym, ap, ◌∙◌, map as map_list}
use Rattle.std.specs.Str.{bytes_eq}
use Rattle.std.proofs.lemmas.List.{map-append}
use Rattle.std.proofs.lemmas.List.Folds.{list_any-append}
use Rattle.std.proofs.lemmas.Map.Text.{is_eq-slice_cmp}
use Rattle.tera_errors.specs.Fault.{Fault}
use Rattle.tera_errors.specs.Site.{Name}
use Rattle.tera_syntax_tree.specs.Blocks.{is_among}
use Rattle.tera_values.specs.Val.{Val, KeyVal, kbool, kint, ktext}
use Rattle.tera_values.specs.Access.{key_eq, find, insert_pair}
use Rattle.tera_value_types.proofs.Keys.{key_exact, is_eq_true}
use Rattle.tera_values.specs.Named.{Named, at_name, text_keys}
use Rattle.tera_components.specs.Definition.{Formal, AreNames, named_arguments}

-- a text key finds what its name does
pub find_ktext : (n : Name) (es : List (KeyVal × Val)) → find (ktext n) es ≡ at_name n (named_arguments es)
find_ktext n [] = refl
find_ktext n ((kbool b, v) ∷ es) = find_ktext n es
find_ktext n ((kint z, v) ∷ es) = find_ktext n es
find_ktext n ((ktext m, v) ∷ es) =
    ap (λ (b : Bool). cond b (Some v) (find (ktext n) es)) (is_eq-slice_cmp n m)
    ∙ ap (λ o. cond (bytes_eq n m) (Some v) o) (find_ktext n es)

-- what stands at text keys is named as it was
pub named_arguments-text_keys : (es : Named Val) → named_arguments (text_keys es) ≡ es
named_arguments-text_keys [] = refl
named_arguments-text_keys (e ∷ es) = ap (λ rest. e ∷ rest) (named_arguments-text_keys es)

found_insert : (j k : KeyVal) (v : Val) (es : List (KeyVal × Val)) → is_some (find j (insert_pair es k v)) ≡ (key_eq j k || is_some (find j es))
found_insert j k v [] = by (key_eq j k)
  where
    by : (b : Bool) → is_some (cond b (Some v) None) ≡ (b || false)
    by true = refl
    by false = refl
found_insert j k v (e ∷ es) = by (key_eq k e.0) refl (key_eq j k) (key_eq j e.0) refl refl (found_insert j k v es)
  where
    by : (same : Bool) → key_eq k e.0 ≡ same → (a b : Bool) → key_eq j k ≡ a → key_eq j e.0 ≡ b → is_some (find j (insert_pair es k v)) ≡ (key_eq j k || is_some (find j es)) →
        is_some (find j (cond same ((e.0, v) ∷ es) (e ∷ insert_pair es k v))) ≡ (a || is_some (cond b (Some e.1) (find j es)))
    by true t true true u w h = ap (λ c. is_some (cond c (Some v) (find j es))) w
    by true t false false u w h = ap (λ c. is_some (cond c (Some v) (find j es))) w
    by true t true false u w h =
        let tie : k ≡ e.0 = key_exact k e.0 (is_eq_true _ t) in
        let other : key_eq j e.0 ≡ true = ap (key_eq j) (sym tie) ∙ u in
        absurd (cc)
    by true t false true u w h =
        let tie : k ≡ e.0 = key_exact k e.0 (is_eq_true _ t) in
        let other : key_eq j e.0 ≡ false = ap (key_eq j) (sym tie) ∙ u in
        absurd (cc)
    by false t true true u w h = ap (λ c. is_some (cond c (Some e.1) (find j (insert_pair es k v)))) w
    by false t false true u w h = ap (λ c. is_some (cond c (Some e.1) (find j (insert_pair es k v)))) w
    by false t true false u w h = ap (λ c. is_some (cond c (Some e.1) (find j (insert_pair es k v)))) w ∙ h ∙ ap (λ c. c || is_some (find j es)) u
    by false t false false u w h = ap (λ c. is_some (cond c (Some e.1) (find j (insert_pair es k v)))) w ∙ h ∙ ap (λ c. c || is_some (find j es)) u

or_swap : (a b : Bool) → (a || b) ≡ (b || (a || false))
or_swap true true = refl
or_swap true false = refl
or_swap false true = refl
or_swap false false = refl

-- one more parameter, and its name
pub are_names_more : (names new : List (KeyVal × Val)) (name : Name) (v : Val) (fs more : List Formal) (f : Formal) → AreNames names fs → new ≡ insert_pair names (ktext name) v → name ≡ f.name → more ≡ fs ++ f ∷ [] → AreNames new more
are_names_more names new name v fs more f h is named longer n =
    ap (λ es. is_some (find (ktext n) es)) is
    ∙ found_insert (ktext n) (ktext name) v names
    ∙ ap (λ b. b || is_some (find (ktext n) names)) (is_eq-slice_cmp n name ∙ ap (bytes_eq n) named)
    ∙ ap (λ b. bytes_eq n f.name || b) (h n)
    ∙ or_swap (bytes_eq n f.name) (is_among n (map_list (λ (g : Formal). g.name) fs))
    ∙ sym (list_any-append (bytes_eq n) (map_list (λ (g : Formal). g.name) fs) (f.name ∷ []))
    ∙ ap (is_among n) (sym (map-append (λ (g : Formal). g.name) fs (f ∷ [])))
    ∙ ap (λ gs. is_among n (map_list (λ (g : Formal). g.name) gs)) (sym longer)

-- those of a map of values by name
pub named_arguments-map : (m : Named Val) (es : List (KeyVal × Val)) → ◌≡◌ {A = Result (List (KeyVal × Val)) Fault} (Ok (text_keys m)) (Ok es) → named_arguments es ≡ m
named_arguments-map m es made =
    let all : es ≡ text_keys m = cc in
    ap named_arguments all ∙ named_arguments-text_keys m
