-- What is kept of the parameters, one by one.
use Rattle.std.proofs.Common.{◌≡◌, ℕ, ◌+◌, ◌<◌, List, [], ◌∷◌, ◌++◌, Result, Ok, sym, ap, ◌∙◌, map as map_list, length, take, get_or}
use Rattle.std.proofs.lemmas.List.{take_more, map-append}
use Rattle.tera_errors.specs.Fault.{Fault}
use Rattle.tera_syntax_tree.specs.declared.component.Parameter as declared
use Rattle.tera_syntax_tree.specs.View.{parameter_of}
use Rattle.tera_components.specs.Definition.{Formal, formal_of}

abbrev pub kept_of : List declared.Parameter → List Formal
kept_of ps = map_list formal_of (map_list parameter_of ps)

pub kept_is : (p : declared.Parameter) (f : Formal) → ◌≡◌ {A = Result Formal Fault} (Ok (formal_of (parameter_of p))) (Ok f) → f ≡ formal_of (parameter_of p)
kept_is p f made = cc

pub kept_more : (ps : List declared.Parameter) (i : ℕ) (p : declared.Parameter) (fs more : List Formal) (f : Formal) → i < length ps → p ≡ get_or ps i p → fs ≡ kept_of (take i ps) → f ≡ formal_of (parameter_of p) → more ≡ fs ++ f ∷ [] → more ≡ kept_of (take (i + 1) ps)
kept_more ps i p fs more f h at before is longer =
    longer
    ∙ ap (λ gs. gs ++ f ∷ []) before
    ∙ ap (λ g. kept_of (take i ps) ++ g ∷ []) (is ∙ ap (λ q. formal_of (parameter_of q)) at)
    ∙ sym (ap kept_of (take_more ps i p h) ∙ ap (map_list formal_of) (map-append parameter_of (take i ps) (get_or ps i p ∷ [])) ∙ map-append formal_of (map_list parameter_of (take i ps)) (map_list parameter_of (get_or ps i p ∷ [])))
