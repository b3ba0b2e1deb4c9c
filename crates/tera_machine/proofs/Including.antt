-- Templates that are included follow the pure machine.
use Rattle.std.proofs.Common.{◌≡◌, Bool, true, false, ◌||◌, List, [], ◌∷◌, ◌++◌, map, Option, Some, None, Err, refl, sym, ap, ap₂, ◌∙◌}
use Rattle.std.specs.Prelude.{option_map, if◌then◌else◌}
use Rattle.tera_errors.specs.Site.{Name}
use Rattle.tera_errors.specs.Answer.{SeenError, Tells}
use Rattle.tera_errors.specs.declared.span.Span.{Span}
use Rattle.tera_syntax_tree.specs.Blocks.{is_among}
use Rattle.tera_state.specs.Scope.{Variables, nothing_set, in_include}
use Rattle.tera_state.specs.Scopes.{variables_of, around_of}
use Rattle.tera_meaning.specs.Registry.{Entry, Registry}
use Rattle.tera_meaning.specs.Resolve.{resolve, entry_at}
use Rattle.tera_meaning.specs.Run.{AnInclude}
use Rattle.tera_meaning.specs.Whole.{World, Place, Refuses, Takes, takes_template, place_of_include, fault_in, way}
use Rattle.tera_code.specs.Listing.{Listing}
use Rattle.tera_code.specs.Code.{listing_of}
use Rattle.tera_registry.proofs.Resolved.{first-there-own}
use Rattle.tera_registry.proofs.Standing.{same-template}
use Rattle.tera_registry.specs.Templates.{definers_of, Finds}
use Rattle.tera_registry.specs.declared.templates.FoundTemplate.{FoundTemplate}
use Rattle.tera_machine.specs.declared.block_bodies.SavedBody.{SavedBody}
use Rattle.tera_machine.specs.declared.open_bodies.OpenBodies.{OpenBodies}
use Rattle.tera_machine.specs.declared.configuration.Configuration.{Configuration}
use Rattle.tera_machine.specs.declared.machine.VirtualMachine.{VirtualMachine}
use Rattle.tera_machine.specs.Config.{config_of}
use Rattle.tera_machine.specs.Included.{names_in, names_opened}
use Rattle.tera_machine.specs.OpenThings.{has_number}
use Rattle.tera_machine.specs.Subject.{AreOf, AreFrom, template_of, place_at}
use Rattle.tera_machine.specs.Bodies.{Entered}
use Rattle.tera_machine.specs.Includes.{IsTemplate, FindsTemplate}
use Rattle.tera_machine.specs.Apart.{Begins}

-- a template is among those that are open by its position as by its name
pub among_by_position : {r : Registry} (found : FoundTemplate) → AreOf r found.templates.now → (all : List FoundTemplate) → AreFrom all r → has_number (λ (f : FoundTemplate). f.position) found.position all ≡ is_among found.name.now (names_in all)
among_by_position found of [] from = refl
among_by_position found of (f ∷ all) from =
    ap₂ (λ a b. a || b) (same-template found f of from.0) (among_by_position found of all from.1)

-- Which template an include takes.

module _ (w : World) (p : Place) (name : Name) (span : Span) (v : Variables) where
  way_is : (o : Option Entry) → resolve w.registry name ≡ o → way w p (AnInclude name span) v ≡ takes_template p v (fault_in p span) o
  way_is o e = ap (takes_template p v (fault_in p span)) e

  told_refused : (told : SeenError) → way w p (AnInclude name span) v ≡ Refuses (fault_in p span) → Tells told (fault_in p span) → FindsTemplate w p (AnInclude name span) v (Err told)
  told_refused None e h = tt
  told_refused (Some t) e h = e ∙ ap Refuses (sym h)

  -- a name that leads nowhere is refused
  pub is_nowhere : (told : SeenError) → Finds w.registry name None → Tells told (fault_in p span) → FindsTemplate w p (AnInclude name span) v (Err told)
  is_nowhere told e h = told_refused told (way_is None e) h

  chosen : (t : Entry) (b : Bool) → is_among t.0 p.included ≡ b → takes_template p v (fault_in p span) (Some t) ≡ (if b then Refuses (fault_in p span) else Takes (place_of_include p v t.0) nothing_set t.1.tree.nodes)
  chosen t b e = ap (λ x. if x then Refuses (fault_in p span) else Takes (place_of_include p v t.0) nothing_set t.1.tree.nodes) e

  module _ (found : FoundTemplate) (leads : Finds w.registry name (Some found)) where
    among_is : (b : Bool) → is_among found.name.now p.included ≡ b → is_among leads.entry.0 p.included ≡ b
    among_is b e = ap (λ n. is_among n p.included) (sym leads.named) ∙ e

    -- so is a template that is included and open
    pub is_open : (told : SeenError) → is_among found.name.now p.included ≡ true → Tells told (fault_in p span) → FindsTemplate w p (AnInclude name span) v (Err told)
    is_open told e h =
        told_refused told (way_is (Some leads.entry) leads.resolves ∙ chosen leads.entry true (among_is true e)) h

    -- and else it is taken
    pub is_template : is_among found.name.now p.included ≡ false → IsTemplate w p (AnInclude name span) v found
    is_template e = record {
      entry = leads.entry;
      takes = way_is (Some leads.entry) leads.resolves ∙ chosen leads.entry false (among_is false e);
      named = leads.named;
      own = ap (λ n. entry_at n w.registry.templates) leads.named ∙ first-there-own w.registry.templates (name ∷ map (λ p. p ++ name) w.registry.prefixes) leads.entry leads.resolves;
      among = leads.among;
    }

-- A body of a template that is taken.

module _ (w : World) {O : Type 0} (m : VirtualMachine O) (file : Name) (name : Name) (span : Span) (b0 : OpenBodies) (c0 : Configuration) where
  module _ {found : FoundTemplate} (is : IsTemplate w (place_at m file b0 c0) (AnInclude name span) (config_of c0).run.vars found) {code : Listing} (own : code ≡ listing_of is.entry.0 is.entry.1.tree.nodes) (m1 : VirtualMachine O) (b1 : OpenBodies) {outer : SavedBody} {c1 : Configuration} (template : m1.template ≡ Some found) (escapes : m1.autoescape ≡ m.autoescape) (depth : m1.depth ≡ m.depth) (names : names_opened b1.opened.inner ≡ []) (above : definers_of b1.above ≡ []) (included : names_in b1.included.inner ≡ found.name.now ∷ names_in b0.included.inner) (begins : Begins (in_include (around_of c0.scopes) (variables_of c0.scopes)) c0 outer c1) where
    same_place : place_of_include (place_at m file b0 c0) (config_of c0).run.vars is.entry.0 ≡ place_at m1 code.file b1 c1
    same_place =
        let x = in_include (around_of c0.scopes) (variables_of c0.scopes) in
        let t = ap (λ o. option_map (λ (f : FoundTemplate). f.name.now) o) template in
        ap₂ (λ n f. record { template = Some n; file = f; around = x; autoescape = m.autoescape; depth = m.depth; included = n ∷ names_in b0.included.inner; opened = []; above = [] }) (sym is.named) (sym (ap (λ (l : Listing). l.file) own))
        ∙ ap₂ (λ o a. record { template = o; file = code.file; around = a; autoescape = m.autoescape; depth = m.depth; included = found.name.now ∷ names_in b0.included.inner; opened = []; above = [] }) (sym t) (sym begins.around)
        ∙ ap₂ (λ e i. record { template = template_of m1; file = code.file; around = around_of c1.scopes; autoescape = e; depth = m.depth; included = i; opened = []; above = [] }) (sym escapes) (sym included)
        ∙ ap₂ (λ ns ds. record { template = template_of m1; file = code.file; around = around_of c1.scopes; autoescape = m1.autoescape; depth = m.depth; included = names_in b1.included.inner; opened = ns; above = ds }) (sym names) (sym above)
        ∙ ap (λ d. record { template = template_of m1; file = code.file; around = around_of c1.scopes; autoescape = m1.autoescape; depth = d; included = names_in b1.included.inner; opened = names_opened b1.opened.inner; above = definers_of b1.above }) (sym depth)

    pub include_entered : Entered w (place_at m file b0 c0) (AnInclude name span) (config_of c0) (place_at m1 code.file b1 c1) code.code (config_of c1)
    include_entered = record {
      vars = nothing_set;
      body = is.entry.1.tree.nodes;
      takes = is.takes ∙ ap (λ p. Takes p nothing_set is.entry.1.tree.nodes) same_place;
      is = ap (λ (l : Listing). l.code) own;
      config = begins.config;
    }
