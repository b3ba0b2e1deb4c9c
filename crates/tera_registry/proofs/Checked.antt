-- The first fault of templates, one after another.
use Rattle.std.proofs.Common.{◌≡◌, ℕ, ◌+◌, ◌≤◌, Bool, true, false, if◌then◌else◌, List, [], length, take, drop, Option, Some, None, Result, Ok, Err, refl, sym, ap, ap₂, ◌∙◌, slice_get}
use Rattle.std.specs.Option.{option_or}
use Rattle.std.specs.List.{list_any}
use Rattle.std.proofs.lemmas.List.{drop_all}
use Rattle.tera_errors.specs.Fault.{Fault, message, circular_include}
use Rattle.tera_errors.specs.Answer.{SeenError, Says, Tells}
use Rattle.tera_meaning.specs.Registry.{Registry, Entry}
use Rattle.tera_meaning.specs.Resolve.{parents}
use Rattle.tera_meaning.specs.Accepted.{fault_of_parents, fault_if, leads_into_a_circle, template_fault, first_fault, lacks_something, missing, fault}
use Rattle.tera_meaning.specs.Components.{has_a_tie}
use Rattle.tera_meaning.specs.Adding.{unless_faulty, accepted}
use Rattle.tera_registry.specs.Choices.{ties_at}
use Rattle.tera_registry.specs.Links.{climbed}
use Rattle.tera_registry.proofs.Rows.{drop-at, take-more}

-- The templates before a position have no fault.
pub record Checked (r : Registry) (i : ℕ) : Type 0 where
  pub is : first_fault r [] r.templates ≡ first_fault r (take i r.templates) (drop i r.templates)

pub checked-begins : (r : Registry) → Checked r 0
checked-begins r = record { is = refl }

next : (r : Registry) (i : ℕ) (t : Entry) → Checked r i → slice_get r.templates i ≡ Some t → first_fault r [] r.templates ≡ option_or (template_fault r (take i r.templates) t) (first_fault r (take (i + 1) r.templates) (drop (i + 1) r.templates))
unfolding first_fault
next r i t c at =
    let before = take i r.templates in
    c.is ∙ ap (first_fault r before) (drop-at r.templates i t at) ∙ ap (λ b. option_or (template_fault r before t) (first_fault r b (drop (i + 1) r.templates))) (take-more r.templates i t at)

-- a template has the fault of its parents, else that of its includes, and else that of its components
parents-fault : (r : Registry) (before : List Entry) (t : Entry) (f : Fault) → parents r t ≡ Err f → template_fault r before t ≡ Some f
unfolding template_fault
parents-fault r before t f e =
    ap (λ o. option_or (fault_of_parents o) (option_or (fault_if (leads_into_a_circle r t) circular_include) (fault_if (has_a_tie r before t) message))) e

later-fault : (r : Registry) (before : List Entry) (t : Entry) (ps : List Entry) (leads ties : Bool) → parents r t ≡ Ok ps → leads_into_a_circle r t ≡ leads → has_a_tie r before t ≡ ties → template_fault r before t ≡ option_or (fault_if leads circular_include) (fault_if ties message)
unfolding template_fault
later-fault r before t ps leads ties e l b =
    ap (λ o. option_or (fault_of_parents o) (option_or (fault_if (leads_into_a_circle r t) circular_include) (fault_if (has_a_tie r before t) message))) e ∙ ap₂ (λ x y. option_or (fault_if x circular_include) (fault_if y message)) l b

pub checked-on : (r : Registry) (i : ℕ) (t : Entry) (ps : List Entry) → Checked r i → slice_get r.templates i ≡ Some t → parents r t ≡ Ok ps → leads_into_a_circle r t ≡ false → ties_at r i t ≡ false → Checked r (i + 1)
checked-on r i t ps c at e leads ties = record {
  is = next r i t c at ∙ ap (λ o. option_or o (first_fault r (take (i + 1) r.templates) (drop (i + 1) r.templates))) (later-fault r (take i r.templates) t ps false false e leads ties);
}

checked-fault : (r : Registry) (i : ℕ) (t : Entry) (f : Fault) → Checked r i → slice_get r.templates i ≡ Some t → template_fault r (take i r.templates) t ≡ Some f → climbed r ≡ Err f
checked-fault r i t f c at e =
    ap (unless_faulty r) (next r i t c at ∙ ap (λ o. option_or o (first_fault r (take (i + 1) r.templates) (drop (i + 1) r.templates))) e)

pub checked-says : (e : SeenError) (r : Registry) (i : ℕ) (t : Entry) → Checked r i → slice_get r.templates i ≡ Some t → Says e (parents r t) → Says e (climbed r)
checked-says None r i t c at says = tt
checked-says (Some f) r i t c at says =
    checked-fault r i t f c at (parents-fault r (take i r.templates) t f says)

pub checked-circle : (r : Registry) (i : ℕ) (t : Entry) (ps : List Entry) → Checked r i → slice_get r.templates i ≡ Some t → parents r t ≡ Ok ps → leads_into_a_circle r t ≡ true → climbed r ≡ Err circular_include
checked-circle r i t ps c at e leads =
    checked-fault r i t circular_include c at (later-fault r (take i r.templates) t ps true (ties_at r i t) e leads refl)

pub checked-tie : (r : Registry) (i : ℕ) (t : Entry) (ps : List Entry) → Checked r i → slice_get r.templates i ≡ Some t → parents r t ≡ Ok ps → leads_into_a_circle r t ≡ false → ties_at r i t ≡ true → climbed r ≡ Err message
checked-tie r i t ps c at e leads ties =
    checked-fault r i t message c at (later-fault r (take i r.templates) t ps false true e leads ties)

-- a message is the fault where the answer is one
pub told : {A : Type 0} (e : SeenError) (answer : Result A Fault) → Tells e message → answer ≡ Err message → Says e answer
told None answer tells is = tt
told (Some f) answer tells is = is ∙ ap Err (sym tells)

pub checked-all : (r : Registry) (i : ℕ) → Checked r i → length r.templates ≤ i → climbed r ≡ Ok r
unfolding first_fault
checked-all r i c over =
    ap (unless_faulty r) (c.is ∙ ap (first_fault r (take i r.templates)) (drop_all i r.templates over))

faultless-by : (r : Registry) (o : Option Fault) → unless_faulty r o ≡ Ok r → o ≡ None
faultless-by r None e = refl
faultless-by r (Some f) e = (let q : Err f ≡ Ok r = e in cc)

pub faultless : (r : Registry) → accepted r ≡ Ok r → fault r ≡ None
faultless r e = faultless-by r (fault r) e

faulty-by : (r : Registry) (o : Option Fault) (f : Fault) → unless_faulty r o ≡ Err f → o ≡ Some f
faulty-by r None f e = (let q : Ok r ≡ Err f = e in cc)
faulty-by r (Some g) f e = (let q : Err g ≡ Err f = e in let s : g ≡ f = cc in ap Some s)

pub faulty : (r : Registry) (f : Fault) → accepted r ≡ Err f → fault r ≡ Some f
faulty r f e = faulty-by r (fault r) f e

-- Parents first, and then what is missing.

pub climbed-faultless : (r : Registry) → climbed r ≡ Ok r → first_fault r [] r.templates ≡ None
climbed-faultless r e = faultless-by r (first_fault r [] r.templates) e

pub climbed-says : (e : SeenError) (r : Registry) → Says e (climbed r) → Says e (accepted r)
unfolding fault
climbed-says None r says = tt
climbed-says (Some f) r says =
    ap (λ o. unless_faulty r (option_or o (missing r))) (faulty-by r (first_fault r [] r.templates) f says)

missing-is : (r : Registry) (b : Bool) (o : Option Fault) → (if b then Some message else None) ≡ o → list_any (lacks_something r) r.templates ≡ b → missing r ≡ o
unfolding missing
missing-is r b o e is = ap (λ x. if x then Some message else None) is ∙ e

after-climbed : (r : Registry) (o : Option Fault) → climbed r ≡ Ok r → missing r ≡ o → accepted r ≡ unless_faulty r o
unfolding fault
after-climbed r o ok is =
    ap (λ f. unless_faulty r (option_or f (missing r))) (climbed-faultless r ok) ∙ ap (unless_faulty r) is

pub lacks-says : (r : Registry) → climbed r ≡ Ok r → list_any (lacks_something r) r.templates ≡ true → accepted r ≡ Err message
lacks-says r ok any = after-climbed r (Some message) ok (missing-is r true (Some message) refl any)

pub keeps-all : (r : Registry) → climbed r ≡ Ok r → list_any (lacks_something r) r.templates ≡ false → accepted r ≡ Ok r
keeps-all r ok any = after-climbed r None ok (missing-is r false None refl any)

none-first : (o p : Option Fault) → option_or o p ≡ None → o ≡ None
none-first None p e = refl
none-first (Some f) p e = (let q : Some f ≡ None = e in cc)

-- where the whole has no fault, no template has one
pub no-first-fault : (r : Registry) → fault r ≡ None → first_fault r [] r.templates ≡ None
unfolding fault
no-first-fault r none = none-first (first_fault r [] r.templates) (missing r) none
