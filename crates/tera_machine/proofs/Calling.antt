-- Components that are called follow the pure machine.
use Rattle.std.proofs.Common.{◌≡◌, suc, ◌<◌, ◌≤◌, Bool, true, false, List, [], ◌∷◌, Option, Some, None, Result, Ok, Err, refl, sym, ap, ap₂, ◌∙◌, subst}
use Rattle.std.specs.Prelude.{nat_lt, option_map, map, bytes_eq, if◌then◌else◌}
use Rattle.std.specs.Option.{option_or}
use Rattle.std.proofs.lemmas.Bool.{lt-ltb, le-ltb}
use Rattle.tera_errors.specs.Site.{Name}
use Rattle.tera_errors.specs.declared.span.Span.{Span}
use Rattle.tera_errors.specs.Fault.{Fault, message}
use Rattle.tera_errors.specs.Answer.{SeenError, Says, Tells}
use Rattle.tera_syntax_tree.specs.Tree.{Signature, Nodes}
use Rattle.tera_values.specs.Alphabet.{plain}
use Rattle.tera_values.specs.Val.{Val}
use Rattle.tera_values.specs.Named.{Named}
use Rattle.tera_operators.specs.Operand.{Retells}
use Rattle.tera_state.specs.Scope.{Variables, nothing_set, look_implicit, in_component}
use Rattle.tera_state.specs.Scopes.{variables_of, around_of}
use Rattle.tera_components.specs.Context.{component_context}
use Rattle.tera_components.specs.Definition.{Definition, definition_of, or_message}
use Rattle.tera_meaning.specs.Components.{Component, component_named, one_off_name}
use Rattle.tera_meaning.specs.Run.{Request, AComponent}
use Rattle.tera_meaning.specs.Whole.{World, Place, Refuses, Takes, component_at, place_of_component, takes_context, takes_component, fault_in, way}
use Rattle.tera_code.specs.Listing.{Listing}
use Rattle.tera_registry.specs.Components.{kept_as, first_kept}
use Rattle.tera_registry.specs.HandedOut.{code_of, found_of}
use Rattle.tera_registry.specs.Templates.{definers_of, IsKept, IsDefined}
use Rattle.tera_registry.specs.declared.templates.Defined.{Defined}
use Rattle.tera_registry.specs.declared.templates.FoundTemplate.{FoundTemplate}
use Rattle.tera_machine.specs.declared.block_bodies.SavedBody.{SavedBody}
use Rattle.tera_machine.specs.declared.open_bodies.OpenBodies.{OpenBodies}
use Rattle.tera_machine.specs.declared.components.ComponentBody.{ComponentBody}
use Rattle.tera_machine.specs.declared.configuration.Configuration.{Configuration}
use Rattle.tera_machine.specs.declared.machine.VirtualMachine.{VirtualMachine}
use Rattle.tera_machine.specs.Config.{config_of}
use Rattle.tera_machine.specs.Flow.{Use}
use Rattle.tera_machine.specs.Included.{names_in, names_opened}
use Rattle.tera_machine.specs.Subject.{IsLinked, IsOf, kept_beside, template_of, place_at}
use Rattle.tera_machine.specs.Bodies.{Entered}
use Rattle.tera_machine.specs.Apart.{Begins}
use Rattle.tera_machine.specs.Components.{kept_meant, IsCalled, Calls}

-- Which component a name leads to.

-- the first of a name among those that a text defines is the component that is meant
first_meant : (file name : Name) (ds : List (Signature × Nodes)) → first_kept name (map (kept_as file) ds) ≡ option_map kept_meant (component_named file name ds)
first_meant file name [] = refl
first_meant file name (d ∷ ds) = by (bytes_eq name d.0.name) (first_meant file name ds)
  where
    by : (b : Bool) → first_kept name (map (kept_as file) ds) ≡ option_map kept_meant (component_named file name ds) → (if b then Some (kept_as file d) else first_kept name (map (kept_as file) ds)) ≡ option_map kept_meant (if b then Some (record { file = file; signature = d.0; body = d.1 }) else component_named file name ds)
    by true rest = refl
    by false rest = rest

abbrev given_or : Definition → Option (Definition × Listing) → Definition
given_or other None = other
given_or other (Some k) = k.0

abbrev code_or : Listing → Option (Definition × Listing) → Listing
code_or other None = other
code_or other (Some k) = k.1

defined_by : (o : Option Component) (r : Option Defined) → option_map found_of r ≡ option_map kept_meant o → IsDefined o r
defined_by None None e = refl
defined_by None (Some d) e = absurd (no_some e)
  where
    no_some : Some (found_of d) ≡ None → ⊥
    no_some e = cc
defined_by (Some c) None e = absurd (no_none e)
  where
    no_none : None ≡ Some (kept_meant c) → ⊥
    no_none e = cc
defined_by (Some c) (Some d) e =
    record { given = ap (given_or d.definition.now) e; code = ap (code_or (code_of d.body)) e }

pub defined_beside : {O : Type 0} (m : VirtualMachine O) (w : World) (name : Name) (r : Option Defined) → IsLinked m w → option_map found_of r ≡ first_kept name (kept_beside m.beside) → IsDefined (component_named one_off_name name w.beside) r
defined_beside m w name r linked e =
    defined_by (component_named one_off_name name w.beside) r (e ∙ ap (first_kept name) linked.components ∙ first_meant one_off_name name w.beside)

pub defined_first : (a b : Option Component) (d : Defined) → IsDefined a (Some d) → IsDefined (option_or a b) (Some d)
defined_first None b d h = absurd h
defined_first (Some c) b d h = h

pub defined_else : (a b : Option Component) (r : Option Defined) → IsDefined a None → IsDefined b r → IsDefined (option_or a b) r
defined_else a b r e h = subst (λ x. IsDefined (option_or x b) r) (sym e) h

there : (o : Option Component) (d : Defined) → IsDefined o (Some d) → (c : Component) × (o ≡ Some c) × IsKept c d
there None d h = absurd h
there (Some c) d h = (c, refl, h)

-- How a call is answered.

module _ (w : World) (p : Place) (name : Name) (given : List (Name × Val)) (body : Option Val) (span : Span) (v : Variables) where
  abbrev q : Request
  q = AComponent name given body span

  abbrev look : Name → Val
  look n = look_implicit n p.around v

  way_is : (o : Option Component) → component_at w name ≡ o → way w p q v ≡ takes_component plain p v given body (fault_in p span) o
  way_is o e = ap (takes_component plain p v given body (fault_in p span)) e

  told_refused : (told : SeenError) (fault : Fault) → way w p q v ≡ Refuses fault → Tells told fault → Calls w p q v (Err told)
  told_refused None fault e h = tt
  told_refused (Some t) fault e h = e ∙ ap Refuses (sym h)

  -- a name that leads nowhere
  pub nobody_called : (told : SeenError) → IsDefined (component_at w name) None → Tells told (fault_in p span) → Calls w p q v (Err told)
  nobody_called told e h = told_refused told (fault_in p span) (way_is None e) h

  module _ (found : Defined) (is : IsDefined (component_at w name) (Some found)) where
    abbrev c : Component
    c = (there (component_at w name) found is).0

    kept : IsKept c found
    kept = (there (component_at w name) found is).2

    in_context : (o : Option (Named Val)) → component_context c.signature given body look ≡ o → way w p q v ≡ takes_context p v c (fault_in p span) o
    in_context o e =
        way_is (Some c) (there (component_at w name) found is).1 ∙ ap (takes_context p v c (fault_in p span)) e

    no_context : (o : Option (Named Val)) (fault : Fault) → or_message o ≡ Err fault → o ≡ None
    no_context None fault e = refl
    no_context (Some context) fault e = absurd (no_err e)
      where
        no_err : Ok context ≡ Err fault → ⊥
        no_err e = cc

    the_context : (o : Option (Named Val)) (context : Named Val) → or_message o ≡ Ok context → o ≡ Some context
    the_context (Some other) context e = ok_some e
      where
        ok_some : ◌≡◌ {A = Result (Named Val) Fault} (Ok other) (Ok context) → Some other ≡ Some context
        ok_some e = cc
    the_context None context e = absurd (no_ok e)
      where
        no_ok : ◌≡◌ {A = Result (Named Val) Fault} (Err message) (Ok context) → ⊥
        no_ok e = cc

    -- arguments that do not fit
    pub unfit : (refusal told : SeenError) → ((s : Signature) → found.definition.now ≡ definition_of s → Says refusal (or_message (component_context s given body look))) → Retells refusal told (fault_in p span) → Calls w p q v (Err told)
    unfit None told says h = subst (λ x. Calls w p q v (Err x)) (sym h) tt
    unfit (Some fault) told says h =
        told_refused told (fault_in p span) (in_context None (no_context (component_context c.signature given body look) fault (says c.signature kept.given))) h

    module _ (context : Named Val) (made : (s : Signature) → found.definition.now ≡ definition_of s → or_message (component_context s given body look) ≡ Ok context) where
      deep : (b : Bool) → nat_lt p.depth 20 ≡ b → way w p q v ≡ (if b then Takes (place_of_component (in_component context p.around v) p.autoescape (suc p.depth) c.file) nothing_set c.body else Refuses message)
      deep b e =
          in_context (Some context) (the_context (component_context c.signature given body look) context (made c.signature kept.given))
          ∙ ap (λ x. if x then Takes (place_of_component (in_component context p.around v) p.autoescape (suc p.depth) c.file) nothing_set c.body else Refuses message) e

      -- components that are open too deep
      pub too_deep : (told : SeenError) → 20 ≤ p.depth → Tells told message → Calls w p q v (Err told)
      too_deep told l h = told_refused told message (deep false (le-ltb p.depth 20 l)) h

      -- and else it runs
      pub is_called : (called : ComponentBody) → p.depth < 20 → called.context ≡ context → called.body ≡ found.body → called.depth ≡ suc p.depth → IsOf w.registry found.body → IsCalled w p q v called
      is_called called l x y z of = record {
        file = c.file;
        body = c.body;
        takes = deep true (lt-ltb p.depth 20 l) ∙ ap (λ k. Takes (place_of_component (in_component k p.around v) p.autoescape (suc p.depth) c.file) nothing_set c.body) (sym x);
        code = ap code_of y ∙ kept.code;
        linked = subst (IsOf w.registry) (sym y) of;
        depth = z;
      }

-- A component's body that is taken.

module _ (w : World) {O : Type 0} (m : VirtualMachine O) (file : Name) (q : Request) (u : Use) (b0 : OpenBodies) (c0 : Configuration) where
  module _ {called : ComponentBody} (is : IsCalled w (place_at m file b0 c0) q (config_of c0).run.vars called) (m1 : VirtualMachine O) (b1 : OpenBodies) {outer : SavedBody} {c1 : Configuration} (template : m1.template ≡ None) (escapes : m1.autoescape ≡ m.autoescape) (depth : m1.depth ≡ called.depth) (names : names_opened b1.opened.inner ≡ []) (above : definers_of b1.above ≡ []) (included : names_in b1.included.inner ≡ []) (begins : Begins (in_component called.context (around_of c0.scopes) (variables_of c0.scopes)) c0 outer c1) where
    same_place : place_of_component (in_component called.context (around_of c0.scopes) (variables_of c0.scopes)) m.autoescape (suc m.depth) is.file ≡ place_at m1 (code_of called.body).file b1 c1
    same_place =
        let x = in_component called.context (around_of c0.scopes) (variables_of c0.scopes) in
        ap₂ (λ f d. record { template = None; file = f; around = x; autoescape = m.autoescape; depth = d; included = []; opened = []; above = [] }) (sym (ap (λ (l : Listing). l.file) is.code)) (sym (depth ∙ is.depth))
        ∙ ap₂ (λ o a. record { template = o; file = (code_of called.body).file; around = a; autoescape = m.autoescape; depth = m1.depth; included = []; opened = []; above = [] }) (sym (ap (λ o. option_map (λ (f : FoundTemplate). f.name.now) o) template)) (sym begins.around)
        ∙ ap₂ (λ e i. record { template = template_of m1; file = (code_of called.body).file; around = around_of c1.scopes; autoescape = e; depth = m1.depth; included = i; opened = []; above = [] }) (sym escapes) (sym included)
        ∙ ap₂ (λ ns ds. record { template = template_of m1; file = (code_of called.body).file; around = around_of c1.scopes; autoescape = m1.autoescape; depth = m1.depth; included = names_in b1.included.inner; opened = ns; above = ds }) (sym names) (sym above)

    pub call_entered : Entered w (place_at m file b0 c0) q (config_of c0) (place_at m1 (code_of called.body).file b1 c1) (code_of called.body).code (config_of c1)
    call_entered = record {
      vars = nothing_set;
      body = is.body;
      takes = is.takes ∙ ap (λ p. Takes p nothing_set is.body) same_place;
      is = ap (λ (l : Listing). l.code) is.code;
      config = begins.config;
    }
