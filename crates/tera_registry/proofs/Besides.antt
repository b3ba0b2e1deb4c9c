-- A text beside the templates, whose own components are there as well.
use Rattle.std.proofs.Common.{◌≡◌, Bool, true, false, ◌||◌, is_some, bytes_eq, if◌then◌else◌, List, [], ◌∷◌, map, Option, Some, None, Global, String, refl, sym, ap, ap₂, ◌∙◌}
use Rattle.std.specs.declared.collections.BTreeMap.{BTreeMap}
use Rattle.std.specs.List.{list_any}
use mathlib.Core.Path.{fun_ext}
use Rattle.std.specs.Option.{option_or}
use Rattle.tera_errors.specs.Site.{Name}
use Rattle.tera_syntax_tree.specs.Tree.{Tree, Signature, Nodes}
use Rattle.tera_syntax_tree.specs.Blocks as in_tree
use Rattle.tera_code.specs.Listing.{Listing}
use Rattle.tera_code.specs.Code.{nodes_code}
use Rattle.tera_state.specs.Engine.{Engine}
use Rattle.tera_meaning.specs.Registry.{Registry}
use Rattle.tera_meaning.specs.Known.{is_known, lacks_a_callee}
use Rattle.tera_meaning.specs.Accepted.{is_template}
use Rattle.tera_meaning.specs.Components.{Component, component_named, component, one_off_name}
use Rattle.tera_meaning.specs.Rendering.{beside, is_component_in, knows_beside}
use Rattle.tera_registry.specs.declared.components.Component.{Component as Kept}
use Rattle.tera_registry.specs.declared.component_table.ComponentAt.{ComponentAt}
use Rattle.tera_registry.specs.Known.{is_there, code_lacks}
use Rattle.tera_registry.specs.Components.{kept_of, kept_all, kept_names}
use Rattle.tera_registry.specs.Choices.{chosen, chosen_of, AreChosen}
use Rattle.tera_registry.proofs.Definitions.{component-none, component-position}
use Rattle.tera_registry.proofs.Choosing.{kept-names-are}
use Rattle.tera_registry.proofs.Lacking.{codes_lack_as_tree}

taken-there : (r : Registry) (n : Name) (c : Option ComponentAt) → chosen_of r n ≡ c → is_some c ≡ is_some (component r n)
taken-there r n None e = sym (ap is_some (component-none r n None (sym e) refl))
taken-there r n (Some c) e = sym (ap is_some (component-position r n c e).is)

by-name : (file n : Name) (d : Signature × Nodes) (ds : List (Signature × Nodes)) (b : Bool) → list_any (λ m. bytes_eq n m) (map (λ d. d.0.name) ds) ≡ is_some (component_named file n ds) → (b || list_any (λ m. bytes_eq n m) (map (λ d. d.0.name) ds)) ≡ is_some (if b then Some (record { file = file; signature = d.0; body = d.1 }) else component_named file n ds)
by-name file n d ds true rest = refl
by-name file n d ds false rest = rest

named-there : (file n : Name) (ds : List (Signature × Nodes)) → list_any (λ m. bytes_eq n m) (map (λ d. d.0.name) ds) ≡ is_some (component_named file n ds)
named-there file n [] = refl
named-there file n (d ∷ ds) = by-name file n d ds (bytes_eq n d.0.name) (named-there file n ds)

own-there : (n : Name) (own : List Kept) → list_any (λ c. bytes_eq n c.definition.name) own ≡ list_any (λ m. bytes_eq n m) (kept_names own)
own-there n [] = refl
own-there n (c ∷ own) = ap (λ b. bytes_eq n c.definition.name || b) (own-there n own)

either-there : (a b : Option Component) → is_some (option_or a b) ≡ (is_some a || is_some b)
either-there None b = refl
either-there (Some c) b = refl

there-beside : (r : Registry) (tree : Tree) (file : Name) (choices : BTreeMap (String Global) ComponentAt Global) (own : List Kept) → AreChosen r choices → map kept_of own ≡ kept_all file tree.definitions → (n : Name) → is_there choices own n ≡ is_component_in (beside r tree) n
there-beside r tree file choices own known kept n =
    let of_all : is_some (chosen choices n) ≡ is_some (component r n) = ap is_some (known n) ∙ taken-there r n (chosen_of r n) refl in
    let of_own = own-there n own ∙ ap (list_any (λ m. bytes_eq n m)) (kept-names-are file tree.definitions own kept) ∙ named-there one_off_name n tree.definitions in
    ap₂ (λ x y. x || y) of_all of_own ∙ sym (either-there (component r n) (component_named one_off_name n tree.definitions))

pub beside-lacks : (r : Registry) (engine : Engine) (template : Name → Bool) (tree : Tree) (file : Name) (choices : BTreeMap (String Global) ComponentAt Global) (own : List Kept) (body : Listing) → AreChosen r choices → r.engine ≡ engine → template ≡ is_template r → body.code ≡ nodes_code tree.nodes 0 → map kept_of own ≡ kept_all file tree.definitions → in_tree.blocks tree.nodes ≡ []
    → (code_lacks (is_known engine (is_there choices own) template) body.code || list_any (λ c. code_lacks (is_known engine (is_there choices own) template) c.code.value.chunk.code) own) ≡ lacks_a_callee (knows_beside r tree) tree
beside-lacks r engine template tree file choices own body known of resolves code kept none =
    let there : is_there choices own ≡ is_component_in (beside r tree) = fun_ext (there-beside r tree file choices own known kept) in
    codes_lack_as_tree (is_known engine (is_there choices own) template) file body own tree code kept none
    ∙ ap₂ (λ e f. lacks_a_callee (is_known e f template) tree) (sym of) there
    ∙ ap (λ f. lacks_a_callee (is_known r.engine (is_component_in (beside r tree)) f) tree) resolves
