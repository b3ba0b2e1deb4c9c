-- Who defines a block for the template that is rendered, and which template a name leads to.
use Rattle.std.proofs.Common.{◌≡◌, ℕ, ◌-◌, Option, Some, sym, ap, ap₂, ◌∙◌, subst, arith}
use Rattle.std.specs.Prelude.{option_map}
use Rattle.tera_errors.specs.Site.{Name}
use Rattle.tera_meaning.specs.Lineage.{definers}
use Rattle.tera_meaning.specs.Registry.{Registry}
use Rattle.tera_meaning.specs.Whole.{World}
use Rattle.tera_code.specs.Targets.{Target}
use Rattle.tera_registry.specs.HandedOut.{Takes}
use Rattle.tera_meaning.specs.Components.{component}
use Rattle.tera_registry.specs.Numbers.{first_number}
use Rattle.tera_registry.specs.Templates.{with_templates, definers_of, first_number_of, AreAmong, Finds, IsDefined}
use Rattle.tera_registry.specs.declared.body.Body.{Body}
use Rattle.tera_registry.specs.declared.templates.Defined.{Defined}
use Rattle.tera_registry.specs.declared.templates.FoundTemplate.{FoundTemplate}
use Rattle.tera_registry.specs.declared.templates.Definers.{Definers}
use Rattle.tera_machine.specs.declared.machine.VirtualMachine.{VirtualMachine}
use Rattle.tera_machine.specs.Open.{TakesBefore}
use Rattle.tera_machine.specs.Subject.{IsLinked, AreOf, IsOf, first_number_for, is_from, template_of}

-- those who define a block for the template that is rendered
pub of_template : {O : Type 0} (m : VirtualMachine O) (w : World) (found : FoundTemplate) (name : Name) (ds : Definers) (text : Name) → IsLinked m w → m.template ≡ Some found → text ≡ name → ((s : Registry) → definers_of ds ≡ definers (with_templates s found.templates.now) (Some found.name.now) text) → definers_of ds ≡ definers w.registry (template_of m) name
of_template m w found name ds text linked is e h =
    let r = w.registry in
    let among : with_templates r found.templates.now ≡ r = subst (λ o. is_from o r) is linked.template in
    h r
    ∙ ap₂ (λ s n. definers s (Some found.name.now) n) among e
    ∙ ap (λ t. definers r t name) (sym (ap (λ o. option_map (λ (f : FoundTemplate). f.name.now) o) is))

-- and the number of the body of the first of them
pub number_of_template : {O : Type 0} (m : VirtualMachine O) (w : World) (found : FoundTemplate) (name : Name) (ds : Definers) (text : Name) → IsLinked m w → m.template ≡ Some found → text ≡ name → ((s : Registry) → first_number_of ds ≡ first_number (with_templates s found.templates.now) found.name.now text) → first_number_of ds ≡ first_number_for w.registry (template_of m) name
number_of_template m w found name ds text linked is e h =
    let r = w.registry in
    let among : with_templates r found.templates.now ≡ r = subst (λ o. is_from o r) is linked.template in
    h r
    ∙ ap₂ (λ s t. first_number s found.name.now t) among e
    ∙ sym (ap (λ o. first_number_for r (option_map (λ (f : FoundTemplate). f.name.now) o) name) is)

-- they are among its templates
pub those_among : {O : Type 0} (m : VirtualMachine O) (w : World) (found : FoundTemplate) (ds : Definers) → IsLinked m w → m.template ≡ Some found → ((r : Registry) → with_templates r found.templates.now ≡ r → AreAmong r ds) → AreAmong w.registry ds
those_among m w found ds linked is h = h w.registry (subst (λ o. is_from o w.registry) is linked.template)

-- what a name leads to from a body that is linked to these templates
pub found_in : (w : World) (here : Body) (name : Name) (found : Option FoundTemplate) → IsOf w.registry here → Finds (with_templates w.registry here.templates.now) name found → Finds w.registry name found
found_in w here name found of h = subst (λ r. Finds r name found) of h

pub defined_in : (w : World) (here : Body) (name : Name) (found : Option Defined) → IsOf w.registry here → IsDefined (component (with_templates w.registry here.templates.now) name) found → IsDefined (component w.registry name) found
defined_in w here name found of h = subst (λ r. IsDefined (component r name) found) of h

-- what is found there is linked to them too
pub found_there : (w : World) (here there : Body) → IsOf w.registry here → there.templates.now ≡ here.templates.now → IsOf w.registry there
found_there w here there of e = subst (AreOf w.registry) (sym e) of

-- what the instruction before a position takes
pub taken_before : {here : Body} {next : ℕ} {target : Target} → TakesBefore here next target → Takes here (next - 1) target
taken_before {here} {next} {target} t =
    let is = t.is in
    let e : t.at ≡ next - 1 = omega arith in
    subst (λ n. Takes here n target) e t.takes
