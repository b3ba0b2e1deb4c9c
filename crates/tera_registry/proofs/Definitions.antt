-- The component of a name, found by position.
use Rattle.std.proofs.Common.{◌≡◌, ℕ, ◌<◌, is_some, List, [], length, map, get_or, Option, Some, None, option_map, option_and_then, Global, String, refl, sym, ap, ◌∙◌, arith, slice_get}
use Rattle.std.specs.declared.collections.BTreeMap.{BTreeMap}
use Rattle.std.specs.declared.rc.Rc.{Rc}
use Rattle.std.specs.List.{list_any}
use mathlib.Core.Path.{fun_ext}
use Rattle.std.proofs.lemmas.List.{length-map}
use Rattle.std.proofs.lemmas.Option.{slice_get_read, slice_get-map, slice_get_within}
use Rattle.tera_errors.specs.Site.{Name}
use Rattle.tera_syntax_tree.specs.Tree.{Signature, Nodes, Definitions, Tree}
use Rattle.tera_state.specs.Engine.{Engine}
use Rattle.tera_meaning.specs.Registry.{Entry, Registry}
use Rattle.tera_meaning.specs.Known.{is_known, lacks_a_callee}
use Rattle.tera_meaning.specs.Accepted.{is_component, is_template, knows}
use Rattle.tera_meaning.specs.Components.{component_in, component, definer_of}
use Rattle.tera_registry.specs.declared.components.Component.{Component as Kept}
use Rattle.tera_registry.specs.declared.component_table.ComponentAt.{ComponentAt}
use Rattle.tera_registry.specs.declared.outside_calls.OutsideCall.{OutsideCall}
use Rattle.tera_registry.specs.declared.template.Template.{Template as Stored}
use Rattle.tera_registry.specs.Components.{kept_of, kept_as, kept_all}
use Rattle.tera_registry.specs.Kept.{seen, seen_by}
use Rattle.tera_registry.specs.Known.{is_there}
use Rattle.tera_registry.specs.OutsideCalls.{needs_of, is_missing_call}
use Rattle.tera_registry.specs.Choices.{chosen, chosen_of, AreChosen}
use Rattle.tera_registry.proofs.Needing.{or-false, lacks-needs}
use Rattle.tera_registry.proofs.Chosen.{IsChosen, chosen-is}

pub component-there : (r : Registry) (n : Name) → is_some (chosen_of r n) ≡ is_component r n
component-there r n = by_choice (chosen_of r n) (chosen-is r n)
  where
    by_choice : (c : Option ComponentAt) → IsChosen r n c (definer_of r n) → is_some c ≡ is_component r n
    by_choice None is = sym (ap is_some is)
    by_choice (Some c) is = sym (ap is_some is.taken)

pub component-none : (r : Registry) (n : Name) (c : Option ComponentAt) → c ≡ chosen_of r n → c ≡ None → component r n ≡ None
component-none r n c e none =
    let is : IsChosen r n None (definer_of r n) = rw (sym e ∙ none) at (chosen-is r n) in
    ap (option_and_then (component_in n)) is

-- where the definition stands that is taken
pub record ChosenAt (r : Registry) (n : Name) (c : ComponentAt) : Type 0 where
  pub template : Entry
  pub definition : Signature × Nodes
  pub template_at : slice_get r.templates c.template ≡ Some template
  pub at : slice_get template.1.tree.definitions c.component ≡ Some definition
  pub is : component r n ≡ Some (record { file = template.0; signature = definition.0; body = definition.1 })

pub component-position : (r : Registry) (n : Name) (c : ComponentAt) → chosen_of r n ≡ Some c → ChosenAt r n c
component-position r n c e =
    let is : IsChosen r n (Some c) (definer_of r n) = rw e at (chosen-is r n) in
    record {
      template = is.template;
      definition = is.there.definition;
      template_at = is.at;
      at = is.there.at;
      is = ap (option_and_then (component_in n)) is.taken ∙ is.there.is;
    }

pub kept-within : (file : Name) (definitions : Definitions) (cs : List Kept) (k : ℕ) (d : Signature × Nodes) → map kept_of cs ≡ kept_all file definitions → slice_get definitions k ≡ Some d → k < length cs
kept-within file definitions cs k d e at =
    omega (arith, slice_get_within definitions k d at, length-map definitions (kept_as file), length-map cs kept_of, ap length e)

pub kept-at : (file : Name) (definitions : Definitions) (cs : List Kept) (k : ℕ) (d : Signature × Nodes) (c : Kept) → map kept_of cs ≡ kept_all file definitions → slice_get definitions k ≡ Some d → c ≡ get_or cs k c → kept_of c ≡ kept_as file d
kept-at file definitions cs k d c e at is =
    let q : Some (kept_of c) ≡ Some (kept_as file d) = sym (slice_get-map kept_of cs k ∙ ap (option_map kept_of) (slice_get_read cs (length cs) k c refl (kept-within file definitions cs k d e at) is)) ∙ ap (λ l. slice_get l k) e ∙ slice_get-map (kept_as file) definitions k ∙ ap (option_map (kept_as file)) at in
    cc

-- what a template calls is there or not
pub misses-callee : (r : Registry) (engine : Engine) (ts : List (Rc Stored Global)) (ps : List (String Global)) (tree : Tree) (choices : BTreeMap (String Global) ComponentAt Global) (needs : List OutsideCall) → AreChosen r choices → r ≡ seen_by engine ts ps → needs ≡ needs_of tree → list_any (is_missing_call (is_known engine (is_there choices []) (is_template (seen ts ps)))) needs ≡ lacks_a_callee (knows r) tree
misses-callee r engine ts ps tree choices needs known of those =
    let template = is_template (seen ts ps) in
    let there : is_there choices [] ≡ is_component r = fun_ext (λ n. sym (or-false (is_some (chosen choices n))) ∙ ap is_some (known n) ∙ component-there r n) in
    ap (list_any (is_missing_call (is_known engine (is_there choices []) template))) those
    ∙ sym (lacks-needs engine (is_there choices []) template tree)
    ∙ ap (λ f. lacks_a_callee (is_known engine f template) tree) there
    ∙ ap (λ (q : Registry). lacks_a_callee (is_known q.engine (is_component r) (is_template q)) tree) (sym of)
