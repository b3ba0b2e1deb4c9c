-- What the code of a body that is handed out takes.
use Rattle.std.proofs.Common.{◌≡◌, ℕ, ◌<◌, true, false, List, length, get_or, Some, None, String, Global, refl, sym, ap, ◌∙◌, slice_get, arith}
use Rattle.std.specs.declared.collections.BTreeMap.{BTreeMap}
use Rattle.std.proofs.lemmas.Option.{slice_get_within, slice_get-get_or}
use Rattle.tera_errors.specs.Site.{Name}
use Rattle.tera_code.specs.Targets.{Target, TemplateNamed, ComponentNamed}
use Rattle.tera_meaning.specs.Registry.{Registry}
use Rattle.tera_meaning.specs.Resolve.{resolve}
use Rattle.tera_registry.specs.declared.body.Body.{Body}
use Rattle.tera_registry.specs.declared.component_table.ComponentAt.{ComponentAt}
use Rattle.tera_registry.specs.declared.code.Take.{Take}
use Rattle.tera_registry.specs.declared.body_table.Link.{Link}
use Rattle.tera_registry.specs.declared.body_table.Link.TheVariants as link
use Rattle.tera_registry.specs.Choices.{chosen, IsTaken}
use Rattle.tera_registry.specs.HandedOut.{code_of, Takes, LeadsFrom, IsLink, Leading}
use Rattle.tera_registry.specs.Order.{Rises}
use Rattle.tera_registry.specs.Positions.{IsPosition}
use Rattle.tera_registry.specs.References.{LeadsTo, place_of, choice_of}
use Rattle.tera_registry.specs.Takes.{take_of, takes_of, IsRank}
use Rattle.tera_registry.proofs.Leading.{is-place}
use Rattle.tera_registry.proofs.Taking.{rank-is}

module _ (b : Body) where
  abbrev takes : List Take
  takes = b.code.now.takes.items

  abbrev links : List Link
  links = b.entry.now.links.items

  of_entry : b.entry.now.code.value.takes.items ≡ takes
  of_entry = b.listed

  as-many : length links ≡ length takes
  as-many = b.right.as_many ∙ ap length of_entry

  there : (k : ℕ) (l : Link) (t : Take) → slice_get takes k ≡ Some t → slice_get links k ≡ Some l → LeadsFrom b t l
  there k l t at got = b.right.those k l t got (ap (λ ts. slice_get ts k) of_entry ∙ at)

  pub rank-within : (lent : List Take) (at k : ℕ) → lent ≡ takes → IsRank lent at (Some k) → k < length links
  rank-within lent at k e is = omega (arith, slice_get_within lent k is.0 is.1, ap length e, as-many)

  got : (k : ℕ) (l d : Link) → k < length links → l ≡ get_or links k d → slice_get links k ≡ Some l
  got k l d lt is = slice_get-get_or links k d lt ∙ ap Some (sym is)

  pub link-some : (lent : List Take) (at k : ℕ) (l d : Link) → lent ≡ takes → IsRank lent at (Some k) → l ≡ get_or links k d → IsLink b l
  link-some lent at k l d e is l_is =
      (is.0, there k l is.0 (ap (λ ts. slice_get ts k) (sym e) ∙ is.1) (got k l d (rank-within lent at k e is) l_is))

  pub link-exact : (lent : List Take) (at k : ℕ) (l d : Link) → lent ≡ takes → IsRank lent at (Some k) → l ≡ get_or links k d → Leading b at (Some l)
  link-exact lent at k l d e is l_is = λ target taken.
      let same : lent ≡ takes_of (code_of b).code = e ∙ b.code.now.taken in
      let q = rank-is (code_of b).code at target (Some k) (rw same at is) taken in
      let j : k ≡ q.0 = (let s : Some k ≡ Some q.0 = q.1 in cc) in
      (l, refl, there k l (take_of at target) (ap (λ ts. slice_get ts k) b.code.now.taken ∙ ap (slice_get (takes_of (code_of b).code)) j ∙ q.2) (got k l d (rank-within lent at k e is) l_is))

  pub link-none : (lent : List Take) (at : ℕ) → lent ≡ takes → IsRank lent at None → Leading b at None
  link-none lent at e is = λ target taken.
      let same : lent ≡ takes_of (code_of b).code = e ∙ b.code.now.taken in
      let q = rank-is (code_of b).code at target None (rw same at is) taken in
      absurd (let s : None ≡ Some q.0 = q.1 in cc)

  -- where nothing is found, nothing is taken
  pub nothing-taken : (at : ℕ) (target : Target) → Leading b at None → Takes b at target → ⊥
  nothing-taken at target leads taken =
      (let l = leads target taken in let s : None ≡ Some l.0 = l.1 in cc)

  pub leads-so : (at : ℕ) (target : Target) (l : Link) → Leading b at (Some l) → Takes b at target → LeadsFrom b (take_of at target) l
  leads-so at target l leads taken =
      (let q = leads target taken in
      let s : Some l ≡ Some q.0 = q.1 in
      let e : l ≡ q.0 = cc in
      rw e q.2)

module _ (r : Registry) (choices : BTreeMap (String Global) ComponentAt Global) where
  -- what an include leads to
  pub include-leads : (at : ℕ) (name : Name) (l : Link) → LeadsTo r choices (take_of at (TemplateNamed name)) l → Rises r.templates → IsPosition r.templates (place_of l) (resolve r name)
  include-leads at name (link.Template position) leads rises = is-place r name position rises leads.1
  include-leads at name (link.Component taken) leads rises = absurd (let q : false ≡ true = leads.0 in cc)

  -- what a call leads to
  pub call-leads : (at : ℕ) (name : Name) (l : Link) → LeadsTo r choices (take_of at (ComponentNamed name)) l → chosen choices name ≡ choice_of l
  call-leads at name (link.Template position) leads = absurd (let q : true ≡ false = leads.0 in cc)
  call-leads at name (link.Component taken) leads = leads.1

  pub place-within : (t : Take) (l : Link) (position : ℕ) → LeadsTo r choices t l → Some position ≡ place_of l → position < length r.templates
  place-within t (link.Template None) position leads e = absurd (let q : Some position ≡ None = e in cc)
  place-within t (link.Template (Some p)) position leads e =
      (let q : Some position ≡ Some p = e in
      let s : position ≡ p = cc in
      let lt = leads.1.1 in
      omega (arith, s, lt))
  place-within t (link.Component taken) position leads e = absurd (let q : Some position ≡ None = e in cc)

  pub choice-taken : (t : Take) (l : Link) (choice : ComponentAt) → LeadsTo r choices t l → Some choice ≡ choice_of l → IsTaken choices choice
  choice-taken t (link.Template position) choice leads e = absurd (let q : Some choice ≡ None = e in cc)
  choice-taken t (link.Component taken) choice leads e = record { name = t.name; is = leads.1 ∙ sym e }
