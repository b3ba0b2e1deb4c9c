-- A claim holds of each body that a template takes.
use Rattle.std.proofs.Common.{ℕ, zero, suc, Bool, true, false, cond, List, [], ◌∷◌, ◌++◌, length, map, filter, filter_map, Option, Some, None, option_and_then, option_map, Result, Ok, Err, if◌then◌else◌}
use Rattle.std.specs.Str.{bytes_eq}
use Rattle.std.specs.List.{AllByRecursion, cons_option}
use Rattle.std.specs.Option.{option_or}
use Rattle.tera_errors.specs.Site.{Name}
use Rattle.tera_errors.specs.Fault.{Fault}
use Rattle.tera_syntax_tree.specs.Tree.{Signature, Nodes, Tree}
use Rattle.tera_syntax_tree.specs.Blocks.{blocks}
use Rattle.tera_values.specs.Named.{Named}
use Rattle.tera_state.specs.Engine.{Engine}
use Rattle.tera_meaning.specs.Registry.{Entry, Registry}
use Rattle.tera_meaning.specs.Resolve.{entry_at, first_there, resolve, onto, or_missing, up, parents, or_none, last_of, root}
use Rattle.tera_meaning.specs.Known.{bodies}
use Rattle.tera_meaning.specs.Components.{Component, component_named, component_in, defines, is_better, better, best_from, definer_of, component, one_off_name}
use Rattle.tera_meaning.specs.Lineage.{Definer, definer_in, ancestors, definers_from, definers}
use Rattle.tera_meaning.specs.Whole.{World, component_at}
use Rattle.tera_meaning.proofs.Marks.All.{all-left, all-right, all-map}
use Rattle.tera_meaning.proofs.Marks.Claim.{Claim, BodyHolds}

-- of what is there
abbrev pub OptionHolds : {A : Type 0} → (A → Type 0) → Option A → Type 0
OptionHolds P None = Unit {0}
OptionHolds P (Some x) = P x

-- of each that was answered
abbrev ResultHolds : {A : Type 0} → (A → Type 0) → Result (List A) Fault → Type 0
ResultHolds P (Ok xs) = AllByRecursion P xs
ResultHolds P (Err fault) = Unit {0}

module _ {A : Type 0} (P : A → Type 0) where
  one_of : (b : Bool) (x y : Option A) → OptionHolds P x → OptionHolds P y → OptionHolds P (cond b x y)
  one_of true x y h k = h
  one_of false x y h k = k

  or-holds : (x y : Option A) → OptionHolds P x → OptionHolds P y → OptionHolds P (option_or x y)
  or-holds None y h k = k
  or-holds (Some x) y h k = h

  onto-holds : (x : A) → P x → (xs : Result (List A) Fault) → ResultHolds P xs → ResultHolds P (onto x xs)
  onto-holds x h (Ok xs) k = (h, k)
  onto-holds x h (Err fault) k = tt

  filter-holds : (f : A → Bool) (xs : List A) → AllByRecursion P xs → AllByRecursion P (filter f xs)
  filter-holds f [] h = tt
  filter-holds f (x ∷ xs) h = go (f x) (filter-holds f xs h.1)
    where
      go : (b : Bool) → AllByRecursion P (filter f xs) → AllByRecursion P (if b then x ∷ filter f xs else filter f xs)
      go true rest = (h.0, rest)
      go false rest = rest

  filter_map-holds : {B : Type 0} (f : B → Option A) (ys : List B) → AllByRecursion (λ y. OptionHolds P (f y)) ys → AllByRecursion P (filter_map f ys)
  filter_map-holds f [] h = tt
  filter_map-holds f (y ∷ ys) h = go (f y) h.0 (filter_map-holds f ys h.1)
    where
      go : (o : Option A) → OptionHolds P o → AllByRecursion P (filter_map f ys) → AllByRecursion P (cons_option o (filter_map f ys))
      go None k rest = rest
      go (Some x) k rest = (k, rest)

entry_at-holds : {A : Type 0} (P : Name × A → Type 0) (n : Name) (es : Named A) → AllByRecursion P es → OptionHolds P (entry_at n es)
entry_at-holds P n [] h = tt
entry_at-holds P n (e ∷ es) h = one_of P (bytes_eq n e.0) (Some e) (entry_at n es) h.0 (entry_at-holds P n es h.1)

-- what holds of each template holds of those to which names lead
module _ (P : Entry → Type 0) (r : Registry) (h : AllByRecursion P r.templates) where
  first_there-holds : (ns : List Name) → OptionHolds P (first_there r.templates ns)
  first_there-holds [] = tt
  first_there-holds (n ∷ ns) = or-holds P (entry_at n r.templates) (first_there r.templates ns) (entry_at-holds P n r.templates h) (first_there-holds ns)

  pub resolve-holds : (n : Name) → OptionHolds P (resolve r n)
  resolve-holds n = first_there-holds (n ∷ map (λ p. p ++ n) r.prefixes)

  missing-holds : (o : Option Entry) → OptionHolds P o → (go : Entry → Result (List Entry) Fault) → ((t : Entry) → P t → ResultHolds P (go t)) → ResultHolds P (or_missing o go)
  missing-holds None k go each = tt
  missing-holds (Some t) k go each = each t k

  up-holds : (left : ℕ) (o : Option Name) → ResultHolds P (up (resolve r) left o)
  up-holds zero None = tt
  up-holds (suc left) None = tt
  up-holds zero (Some n) = tt
  up-holds (suc left) (Some n) =
      missing-holds (resolve r n) (resolve-holds n) (λ t. onto t (up (resolve r) left t.1.tree.parent)) (λ t k. onto-holds P t k (up (resolve r) left t.1.tree.parent) (up-holds left t.1.tree.parent))

  none-holds : (ts : Result (List Entry) Fault) → ResultHolds P ts → AllByRecursion P (or_none ts)
  none-holds (Ok ts) k = k
  none-holds (Err fault) k = tt

  ancestors-hold : (t : Entry) → AllByRecursion P (ancestors r t)
  ancestors-hold t = none-holds (parents r t) (up-holds (length r.templates) t.1.tree.parent)

  last_of-holds : (t : Entry) (ts : List Entry) → P t → AllByRecursion P ts → P (last_of t ts)
  last_of-holds t [] k ks = k
  last_of-holds t (s ∷ ts) k ks = last_of-holds s ts ks.0 ks.1

  pub root-holds : (t : Entry) → P t → P (root r t)
  root-holds t k = last_of-holds t (or_none (parents r t)) k (ancestors-hold t)

  better-holds : (best : Option Entry) (t : Entry) → OptionHolds P best → P t → OptionHolds P (better r best t)
  better-holds None t k l = l
  better-holds (Some s) t k l = go (is_better r t s)
    where
      go : (b : Bool) → OptionHolds P (if b then Some t else Some s)
      go true = l
      go false = k

  best_from-holds : (best : Option Entry) (ts : List Entry) → OptionHolds P best → AllByRecursion P ts → OptionHolds P (best_from r best ts)
  best_from-holds best [] k ks = k
  best_from-holds best (t ∷ ts) k ks = best_from-holds (better r best t) ts (better-holds best t k ks.0) ks.1

  definer_of-holds : (name : Name) → OptionHolds P (definer_of r name)
  definer_of-holds name = best_from-holds None (filter (defines name) r.templates) tt (filter-holds P (defines name) r.templates h)

-- of each body of a template
abbrev pub TemplateHolds : Claim → Engine → Entry → Type 0
TemplateHolds K engine t = AllByRecursion (BodyHolds K engine) (bodies t.1.tree)

abbrev pub DefinerHolds : Claim → Engine → Definer → Type 0
DefinerHolds K engine d = BodyHolds K engine d.body

abbrev pub ComponentHolds : Claim → Engine → Component → Type 0
ComponentHolds K engine c = BodyHolds K engine c.body

-- of all on which a rendering stands
pub record WorldHolds (K : Claim) (w : World) : Type 0 where
  pub templates : AllByRecursion (TemplateHolds K w.registry.engine) w.registry.templates
  pub beside : AllByRecursion (λ d. BodyHolds K w.registry.engine d.1) w.beside

module _ (K : Claim) (engine : Engine) where
  blocks-hold : (tree : Tree) → AllByRecursion (BodyHolds K engine) (bodies tree) → AllByRecursion (λ (b : Name × Nodes). BodyHolds K engine b.1) (blocks tree.nodes)
  blocks-hold tree h = all-map (BodyHolds K engine) (λ b. b.1) (blocks tree.nodes) (all-left (BodyHolds K engine) (map (λ b. b.1) (blocks tree.nodes)) (map (λ d. d.1) tree.definitions) h.1)

  pub definitions-hold : (tree : Tree) → AllByRecursion (BodyHolds K engine) (bodies tree) → AllByRecursion (λ (d : Signature × Nodes). BodyHolds K engine d.1) tree.definitions
  definitions-hold tree h = all-map (BodyHolds K engine) (λ d. d.1) tree.definitions (all-right (BodyHolds K engine) (map (λ b. b.1) (blocks tree.nodes)) (map (λ d. d.1) tree.definitions) h.1)

  definer_in-holds : (block : Name) (t : Entry) → TemplateHolds K engine t → OptionHolds (DefinerHolds K engine) (definer_in block t)
  definer_in-holds block t h = go (entry_at block (blocks t.1.tree.nodes)) (entry_at-holds (λ (b : Name × Nodes). BodyHolds K engine b.1) block (blocks t.1.tree.nodes) (blocks-hold t.1.tree h))
    where
      go : (o : Option (Name × Nodes)) → OptionHolds (λ (b : Name × Nodes). BodyHolds K engine b.1) o → OptionHolds (DefinerHolds K engine) (option_map (λ b. record { file = t.0; body = b.1 }) o)
      go None k = tt
      go (Some b) k = k

  each_definer_in : (block : Name) (ts : List Entry) → AllByRecursion (TemplateHolds K engine) ts → AllByRecursion (λ t. OptionHolds (DefinerHolds K engine) (definer_in block t)) ts
  each_definer_in block [] h = tt
  each_definer_in block (t ∷ ts) h = (definer_in-holds block t h.0, each_definer_in block ts h.1)

  component_named-holds : (file name : Name) (ds : List (Signature × Nodes)) → AllByRecursion (λ (d : Signature × Nodes). BodyHolds K engine d.1) ds → OptionHolds (ComponentHolds K engine) (component_named file name ds)
  component_named-holds file name [] h = tt
  component_named-holds file name (d ∷ ds) h = go (bytes_eq name d.0.name) (component_named-holds file name ds h.1)
    where
      go : (b : Bool) → OptionHolds (ComponentHolds K engine) (component_named file name ds) → OptionHolds (ComponentHolds K engine) (if b then Some (record { file = file; signature = d.0; body = d.1 }) else component_named file name ds)
      go true rest = h.0
      go false rest = rest

  component_in-holds : (name : Name) (o : Option Entry) → OptionHolds (TemplateHolds K engine) o → OptionHolds (ComponentHolds K engine) (option_and_then (component_in name) o)
  component_in-holds name None h = tt
  component_in-holds name (Some t) h = component_named-holds t.0 name t.1.tree.definitions (definitions-hold t.1.tree h)

-- so of those who define a block, and of components
module _ (K : Claim) (r : Registry) (h : AllByRecursion (TemplateHolds K r.engine) r.templates) where
  definers_from-hold : (block : Name) (o : Option Entry) → OptionHolds (TemplateHolds K r.engine) o → AllByRecursion (DefinerHolds K r.engine) (definers_from r block o)
  definers_from-hold block None k = tt
  definers_from-hold block (Some t) k =
      filter_map-holds (DefinerHolds K r.engine) (definer_in block) (t ∷ ancestors r t) (each_definer_in K r.engine block (t ∷ ancestors r t) (k, ancestors-hold (TemplateHolds K r.engine) r h t))

  pub definers-hold : (template : Option Name) (block : Name) → AllByRecursion (DefinerHolds K r.engine) (definers r template block)
  definers-hold None block = tt
  definers-hold (Some name) block = definers_from-hold block (entry_at name r.templates) (entry_at-holds (TemplateHolds K r.engine) name r.templates h)

  pub component-holds : (name : Name) → OptionHolds (ComponentHolds K r.engine) (component r name)
  component-holds name = component_in-holds K r.engine name (definer_of r name) (definer_of-holds (TemplateHolds K r.engine) r h name)

pub component_at-holds : (K : Claim) (w : World) → WorldHolds K w → (name : Name) → OptionHolds (ComponentHolds K w.registry.engine) (component_at w name)
component_at-holds K w h name =
    or-holds (ComponentHolds K w.registry.engine) (component w.registry name) (component_named one_off_name name w.beside) (component-holds K w.registry h.templates name)
    (component_named-holds K w.registry.engine one_off_name name w.beside h.beside)
