-- What templates and prefixes alone decide on is the same with any engine.
use Rattle.std.proofs.Common.{◌≡◌, ℕ, List, length, Option, Some, None, String, Global, ap, subst, ◌∙◌}
use Rattle.std.specs.declared.rc.Rc.{Rc}
use Rattle.std.specs.declared.collections.BTreeMap.{BTreeMap}
use Rattle.tera_state.specs.Engine.{Engine}
use Rattle.tera_meaning.specs.Registry.{Entry, Registry}
use Rattle.tera_meaning.specs.Accepted.{leads_into_a_circle}
use Rattle.tera_registry.specs.declared.component_table.ComponentAt.{ComponentAt}
use Rattle.tera_registry.specs.declared.roots.Parent.{Parent}
use Rattle.tera_registry.specs.declared.template.Template.{Template as Stored}
use Rattle.tera_registry.specs.Choices.{AreChosen, IsFirstTie}
use Rattle.tera_registry.specs.Definers.{Grounded, Climbable}
use Rattle.tera_registry.specs.Edges.{AreEdges, IsFirstCircle}
use Rattle.tera_registry.specs.Kept.{Rises, entries_of, seen, seen_by}
use Rattle.tera_registry.specs.Links.{AreUps}
use Rattle.tera_registry.proofs.Adds.{walks-same}
use Rattle.tera_registry.proofs.Listed.{chosen-in-all}

module _ (engine : Engine) (ts : List (Rc Stored Global)) (ps : List (String Global)) where
  pub ups-served : (ups : List Parent) (many : ℕ) → AreUps (seen ts ps) ups many → AreUps (seen_by engine ts ps) ups many
  ups-served ups many a = record { as_many = a.as_many; those = a.those }

  -- parents are looked for along what each extends
  pub climbable-served : (r : Registry) (ups : List Parent) → seen_by engine ts ps ≡ r → Rises (entries_of ts) → AreUps (seen ts ps) ups (length (entries_of ts)) → Grounded r → Climbable r ts ups
  climbable-served r ups here rises a all = record {
    same = ap (λ (q : Registry). q.templates) here;
    rises = subst (λ (q : Registry). Rises q.templates) here rises;
    above = subst (λ (q : Registry). AreUps q ups (length q.templates)) here (ups-served ups _ a);
    grounded = all;
  }

  pub edges-served : (edges : List (List ℕ)) (many : ℕ) → AreEdges (seen ts ps) edges many → AreEdges (seen_by engine ts ps) edges many
  edges-served edges many a = record { as_many = a.as_many; inside = a.inside; those = a.those }

  same-circles : (t : Entry) → leads_into_a_circle (seen_by engine ts ps) t ≡ leads_into_a_circle (seen ts ps) t
  same-circles t = walks-same (seen_by engine ts ps) (length (entries_of ts)) t

  pub circle-served : (circle : Option ℕ) → IsFirstCircle (seen ts ps) circle → IsFirstCircle (seen_by engine ts ps) circle
  circle-served None none = λ i t at. same-circles t ∙ none i t at
  circle-served (Some c) is =
      (λ i t lt at. same-circles t ∙ is.0 i t lt at, λ t at. same-circles t ∙ is.1 t at)

  pub tie-served : (tie : Option ℕ) → IsFirstTie (seen ts ps) tie → IsFirstTie (seen_by engine ts ps) tie
  tie-served None none = none
  tie-served (Some c) is = is

  pub chosen-served : (choices : BTreeMap (String Global) ComponentAt Global) → AreChosen (seen ts ps) choices → AreChosen (seen_by engine ts ps) choices
  chosen-served choices known = chosen-in-all (seen_by engine ts ps) choices known
