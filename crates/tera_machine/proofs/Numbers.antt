-- Blocks by the numbers of their bodies, and how a request for one is answered.
use Rattle.std.proofs.Common.{◌≡◌, ℕ, Bool, true, false, ◌||◌, List, [], ◌∷◌, Option, Some, None, Err, refl, sym, ap, ap₂, ◌∙◌}
use Rattle.std.specs.Prelude.{nat_eq, bytes_eq, if◌then◌else◌}
use Rattle.std.specs.Bool.{one_answer}
use Rattle.std.proofs.lemmas.Bool.Decides.{Decides-eqb}
use Rattle.std.proofs.lemmas.Slice.Eq.{bytes_eq-Decides}
use Rattle.tera_errors.specs.Answer.{SeenError, Tells}
use Rattle.tera_errors.specs.Fault.{Fault}
use Rattle.tera_errors.specs.Site.{Name}
use Rattle.tera_errors.specs.declared.span.Span.{Span}
use Rattle.tera_syntax_tree.specs.Blocks.{is_among}
use Rattle.tera_state.specs.Scope.{Variables}
use Rattle.tera_meaning.specs.Lineage.{Definer, definers}
use Rattle.tera_meaning.specs.Registry.{Registry}
use Rattle.tera_meaning.specs.Run.{ABlock}
use Rattle.tera_meaning.specs.Whole.{World, Place, Way, Refuses, Takes, takes_definer, fault_in, way}
use Rattle.tera_registry.proofs.Numbered.{same-number-same-name}
use Rattle.tera_registry.specs.Numbers.{first_number}
use Rattle.tera_machine.specs.declared.requests.BlockRequest.{BlockRequest}
use Rattle.tera_machine.specs.declared.requests.BlockRequest.TheVariants as asked
use Rattle.tera_machine.specs.declared.open_bodies.OpenBlock.{OpenBlock}
use Rattle.tera_machine.specs.Bodies.{FindsBody, IsNumbered, blocks_opened_by}
use Rattle.tera_machine.specs.Flow.{block_request}
use Rattle.tera_machine.specs.Included.{names_opened}
use Rattle.tera_machine.specs.OpenThings.{Nested, has_number}
use Rattle.tera_machine.specs.Subject.{AreNumbered, first_number_for}

same_block : (r : Registry) (template : Option Name) (a b : Name) (n m : ℕ) → first_number_for r template a ≡ Some n → first_number_for r template b ≡ Some m → nat_eq n m ≡ bytes_eq a b
same_block r None a b n m is of = (let q : None ≡ Some n = is in cc)
same_block r (Some t) a b n m is of =
    let named = bytes_eq-Decides a b in
    one_answer (nat_eq n m) (bytes_eq a b) (Decides-eqb n m) (
      (λ e. let q : Some n ≡ Some m = sym is ∙ ap (first_number r t) (named.0 e) ∙ of in cc),
      (λ same. named.1 (same-number-same-name r t t a b n is (of ∙ ap Some (sym same)))),
    )

-- a block is among those that are open by its number as by its name
pub among_by_number : (r : Registry) (template : Option Name) (name : Name) (number : ℕ) → first_number_for r template name ≡ Some number → (opened : List OpenBlock) → AreNumbered r template opened → has_number (λ (b : OpenBlock). b.number) number opened ≡ is_among name (names_opened opened)
among_by_number r template name number is [] are = refl
among_by_number r template name number is (b ∷ opened) are =
    ap₂ (λ x y. x || y) (same_block r template name b.name number b.number is are.0) (among_by_number r template name number is opened are.1)

-- those that are open in a body are open by their numbers
pub numbered_by : (r : Registry) (template : Option Name) (a : BlockRequest) (number : ℕ) (o : Nested OpenBlock) → IsNumbered r template a number → AreNumbered r template o.inner → AreNumbered r template (blocks_opened_by a number o).inner
numbered_by r template (asked.Block name span) number o is are = (is, are)
numbered_by r template (asked.Super span) number o is are = are

-- How a block is answered.

module _ (w : World) (p : Place) (name : Name) (span : Span) (v : Variables) where
  abbrev answer : Bool → List Definer → Way
  answer b ds = if b then Refuses (fault_in p span) else takes_definer p (name ∷ p.opened) v (fault_in p span) ds

  -- where nobody defines it, whatever is open
  pub nobody_defines : definers w.registry p.template name ≡ [] → way w p (ABlock name span) v ≡ Refuses (fault_in p span)
  nobody_defines e = ap (answer (is_among name p.opened)) e ∙ by (is_among name p.opened)
    where
      by : (b : Bool) → answer b [] ≡ Refuses (fault_in p span)
      by true = refl
      by false = refl

  pub open_already : is_among name p.opened ≡ true → way w p (ABlock name span) v ≡ Refuses (fault_in p span)
  open_already e = ap (λ b. answer b (definers w.registry p.template name)) e

  -- the first of them is taken, where it is not open
  pub takes_first : {d : Definer} {ds : List Definer} → is_among name p.opened ≡ false → definers w.registry p.template name ≡ d ∷ ds → way w p (ABlock name span) v ≡ Takes (record p { file = d.file; opened = name ∷ p.opened; above = ds }) v d.body
  takes_first e f = ap₂ answer e f

-- what is told of a request that is refused
pub told_body : (w : World) (p : Place) (a : BlockRequest) (v : Variables) (told : SeenError) (fault : Fault) → way w p (block_request a) v ≡ Refuses fault → Tells told fault → FindsBody w p a v (Err told)
told_body w p a v None fault e h = tt
told_body w p a v (Some t) fault e h = e ∙ ap Refuses (sym h)
