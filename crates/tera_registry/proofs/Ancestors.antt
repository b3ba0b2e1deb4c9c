-- The parents of a template and those of the one that it extends, and who defines a block among them.
use Rattle.std.proofs.Common.{◌≡◌, ℕ, zero, suc, ◌<◌, List, [], ◌∷◌, ◌++◌, length, get_or, map, Option, Some, None, Result, Ok, Err, refl, sym, ap, ◌∙◌, arith, slice_get, option_map, String, Global}
use Rattle.std.specs.declared.rc.Rc.{Rc}
use Rattle.std.specs.List.{cons_option}
use Rattle.std.specs.Option.{option_or}
use Rattle.std.proofs.lemmas.Option.{slice_get-get_or}
use Rattle.tera_errors.specs.Fault.{Fault, message, circular_extend, circular_include}
use Rattle.tera_errors.specs.Site.{Name}
use Rattle.tera_syntax_tree.specs.Tree.{Nodes}
use Rattle.tera_meaning.specs.Registry.{Registry, Entry}
use Rattle.tera_meaning.specs.Resolve.{entry_at, onto, or_missing, or_none, up, resolve, parents}
use Rattle.tera_meaning.specs.Lineage.{definers_in, ancestors}
use Rattle.tera_meaning.specs.Accepted.{fault_of_parents, fault_if, leads_into_a_circle, template_fault, first_fault}
use Rattle.tera_meaning.specs.Components.{has_a_tie}
use Rattle.tera_code.specs.Blocks.{block_listings}
use Rattle.tera_registry.specs.declared.code.TemplateBlock.{TemplateBlock}
use Rattle.tera_registry.specs.Components.{kept_block}
use Rattle.tera_registry.specs.declared.template.Template.{Template as Stored}
use Rattle.tera_registry.specs.declared.roots.Parent.{Parent}
use Rattle.tera_registry.specs.declared.roots.Parent.TheVariants as which
use Rattle.tera_registry.specs.Links.{IsUp, ArePlaced}
use Rattle.tera_registry.specs.Order.{Rises}
use Rattle.tera_registry.specs.Kept.{entries_of, seen}
use Rattle.tera_registry.proofs.Linked.{found-placed}
use Rattle.tera_registry.specs.Definers.{blocks_of, Grounded, Climbable, ancestors_at}
use Rattle.tera_registry.proofs.Element.{element}
use Rattle.tera_registry.proofs.Kept.{length-entries}

-- A way up that ends within some steps ends so within more.

onto-more : (t : Entry) (p q : Result (List Entry) Fault) (qs : List Entry) → ((rs : List Entry) → p ≡ Ok rs → q ≡ Ok rs) → onto t p ≡ Ok qs → onto t q ≡ Ok qs
onto-more t (Ok rs) q qs ih e = ap (onto t) (ih rs refl) ∙ e
onto-more t (Err f) q qs ih e = (let x : Err f ≡ Ok qs = e in cc)

found-more : (o : Option Entry) (g h : Entry → Result (List Entry) Fault) (qs : List Entry) → ((t : Entry) → g t ≡ Ok qs → h t ≡ Ok qs) → or_missing o g ≡ Ok qs → or_missing o h ≡ Ok qs
found-more None g h qs ih e = e
found-more (Some t) g h qs ih e = ih t e

pub up-more : (find : Name → Option Entry) (k : ℕ) (o : Option Name) (qs : List Entry) → up find k o ≡ Ok qs → up find (suc k) o ≡ Ok qs
up-more find k None qs e = e
up-more find zero (Some n) qs e =
    (let x : Err circular_extend ≡ Ok qs = e in cc)
up-more find (suc k) (Some n) qs e =
    found-more (find n) (λ t. onto t (up find k t.1.tree.parent)) (λ t. onto t (up find (suc k) t.1.tree.parent)) qs (λ t h. onto-more t (up find k t.1.tree.parent) (up find (suc k) t.1.tree.parent) qs (λ rs i. up-more find k t.1.tree.parent rs i) h) e

onto-ok : (t : Entry) (q : Result (List Entry) Fault) (ps : List Entry) → onto t q ≡ Ok ps → (qs : List Entry) × (q ≡ Ok qs)
onto-ok t (Ok qs) ps e = (qs, refl)
onto-ok t (Err f) ps e = (let x : Err f ≡ Ok ps = e in cc)

one-step : (find : Name → Option Entry) (k : ℕ) (o : Option Name) (n : Name) (v : Entry) (ps : List Entry) → up find k o ≡ Ok ps → o ≡ Some n → find n ≡ Some v → or_none (up find k o) ≡ v ∷ or_none (up find k v.1.tree.parent)
one-step find zero o n v ps e is there =
    (let x : Err circular_extend ≡ Ok ps = sym (ap (up find 0) is) ∙ e in cc)
one-step find (suc k) o n v ps e is there =
    let opened : up find (suc k) o ≡ onto v (up find k v.1.tree.parent) = ap (up find (suc k)) is ∙ ap (λ x. or_missing x (λ t. onto t (up find k t.1.tree.parent))) there in
    let rest = onto-ok v (up find k v.1.tree.parent) ps (sym opened ∙ e) in
    ap or_none opened ∙ ap (λ q. or_none (onto v q)) rest.1 ∙ sym (ap (λ q. v ∷ or_none q) (up-more find k v.1.tree.parent rest.0 rest.1))

no-step : (find : Name → Option Entry) (k : ℕ) (o : Option Name) (n : Name) (ps : List Entry) → up find k o ≡ Ok ps → o ≡ Some n → find n ≡ None → ⊥
no-step find zero o n ps e is none =
    (let x : Err circular_extend ≡ Ok ps = sym (ap (up find 0) is) ∙ e in cc)
no-step find (suc k) o n ps e is none =
    (let x : or_missing None (λ t. onto t (up find k t.1.tree.parent)) ≡ Ok ps = sym (ap (up find (suc k)) is ∙ ap (λ x. or_missing x (λ t. onto t (up find k t.1.tree.parent))) none) ∙ e in cc)

-- what a template extends stands first among its parents, with its own behind it
pub next-above : (r : Registry) (t v : Entry) (n : Name) → parents r t ≡ Ok (ancestors r t) → t.1.tree.parent ≡ Some n → resolve r n ≡ Some v → ancestors r t ≡ v ∷ ancestors r v
next-above r t v n ok is there =
    one-step (resolve r) (length r.templates) t.1.tree.parent n v (ancestors r t) ok is there

pub none-above : (r : Registry) (t : Entry) → t.1.tree.parent ≡ None → ancestors r t ≡ []
none-above r t none = ap (λ o. or_none (up (resolve r) (length r.templates) o)) none

pub not-missing : (r : Registry) (t : Entry) (n : Name) → parents r t ≡ Ok (ancestors r t) → t.1.tree.parent ≡ Some n → resolve r n ≡ None → ⊥
not-missing r t n ok is none =
    no-step (resolve r) (length r.templates) t.1.tree.parent n (ancestors r t) ok is none

pub next-ancestors : (r : Registry) (t v : Entry) (next : ℕ) → parents r t ≡ Ok (ancestors r t) → IsUp r (which.At next) t.1.tree.parent → slice_get r.templates next ≡ Some v → ancestors r t ≡ v ∷ ancestors r v
next-ancestors r t v next ok above at = next-above r t v above.0 ok above.1 (above.2.0 ∙ at)

-- it has one parent less
pub fewer : (r : Registry) (t : Entry) (last next : ℕ) → slice_get r.templates last ≡ Some t → parents r t ≡ Ok (ancestors r t) → IsUp r (which.At next) t.1.tree.parent → length (ancestors_at r (slice_get r.templates next)) < length (ancestors_at r (slice_get r.templates last))
fewer r t last next t_at ok above =
    let v = element r.templates next above.2.1 in
    let a : length (ancestors_at r (slice_get r.templates next)) ≡ length (ancestors r v.0) = ap (λ o. length (ancestors_at r o)) v.1 in
    let b : length (ancestors_at r (slice_get r.templates last)) ≡ length (ancestors r t) = ap (λ o. length (ancestors_at r o)) t_at in
    let c : length (ancestors r t) ≡ suc (length (ancestors r v.0)) = ap length (next-ancestors r t v.0 next ok above v.1) in
    omega (arith, a, b, c)

-- Templates without a fault have all their parents.

none-each : (o p : Option Fault) → option_or o p ≡ None → (o ≡ None) × (p ≡ None)
none-each None p e = (refl, e)
none-each (Some f) p e = (let x : Some f ≡ None = e in cc)

faultless-parents : (o : Result (List Entry) Fault) → fault_of_parents o ≡ None → o ≡ Ok (or_none o)
faultless-parents (Ok ps) e = refl
faultless-parents (Err g) e = (let x : Some g ≡ None = e in cc)

one-grounded : (r : Registry) (before : List Entry) (t : Entry) → template_fault r before t ≡ None → parents r t ≡ Ok (ancestors r t)
unfolding template_fault
one-grounded r before t none =
    faultless-parents (parents r t) (none-each (fault_of_parents (parents r t)) (option_or (fault_if (leads_into_a_circle r t) circular_include) (fault_if (has_a_tie r before t) message)) none).0

each-grounded : (r : Registry) (before es : List Entry) (i : ℕ) (t : Entry) → first_fault r before es ≡ None → slice_get es i ≡ Some t → parents r t ≡ Ok (ancestors r t)
unfolding first_fault
each-grounded r before [] i t none at = (let x : None ≡ Some t = at in cc)
each-grounded r before (e ∷ es) zero t none at =
    (let x : e ≡ t = (let q : Some e ≡ Some t = at in cc) in
    let ok : parents r e ≡ Ok (ancestors r e) = one-grounded r before e (none-each (template_fault r before e) (first_fault r (before ++ e ∷ []) es) none).0 in rw (← x) ok)
each-grounded r before (e ∷ es) (suc i) t none at =
    each-grounded r (before ++ e ∷ []) es i t (none-each (template_fault r before e) (first_fault r (before ++ e ∷ []) es) none).1 at

pub grounded : (r : Registry) → first_fault r [] r.templates ≡ None → Grounded r
grounded r none = record { each = λ i t at. each-grounded r [] r.templates i t none at }

-- Who defines a block, from a template on.

pub own-first : (block : Name) (t : Entry) (ts : List Entry) (b : Name × Nodes) → entry_at block (blocks_of t) ≡ Some b → definers_in block (t ∷ ts) ≡ record { file = t.0; body = b.1 } ∷ definers_in block ts
own-first block t ts b at =
    ap (λ o. cons_option (option_map (λ (b : Name × Nodes). record { file = t.0; body = b.1 }) o) (definers_in block ts)) at

pub none-own : (block : Name) (t : Entry) (ts : List Entry) → entry_at block (blocks_of t) ≡ None → definers_in block (t ∷ ts) ≡ definers_in block ts
none-own block t ts none =
    ap (λ o. cons_option (option_map (λ (b : Name × Nodes). record { file = t.0; body = b.1 }) o) (definers_in block ts)) none

-- The blocks of a template as they are kept, and those of its tree.
pub length-kept : (bs : List TemplateBlock) (file : Name) (ns : List (Name × Nodes)) → map kept_block bs ≡ block_listings file ns → length bs ≡ length ns
length-kept bs file ns same = sym (length-map-of bs) ∙ ap length same ∙ length-listings file ns
  where
    length-map-of : (bs : List TemplateBlock) → length (map kept_block bs) ≡ length bs
    length-map-of [] = refl
    length-map-of (b ∷ bs) = ap suc (length-map-of bs)

    length-listings : (file : Name) (ns : List (Name × Nodes)) → length (block_listings file ns) ≡ length ns
    length-listings file [] = refl
    length-listings file (n ∷ ns) = ap suc (length-listings file ns)

-- What each template extends stands at its position.

pub listed : (r : Registry) (ts : List (Rc Stored Global)) (ups : List Parent) (i : ℕ) → Climbable r ts ups → i < length ts → i < length ups
listed r ts ups i c lt = omega (arith, c.above.as_many, ap length c.same, length-entries ts)

pub among : (r : Registry) (ts : List (Rc Stored Global)) (ups : List Parent) (i : ℕ) → Climbable r ts ups → i < length r.templates → i < length ts
among r ts ups i c lt = omega (arith, ap length c.same, length-entries ts)

pub up-at : (r : Registry) (ts : List (Rc Stored Global)) (ups : List Parent) (i : ℕ) (u : Parent) (t : Entry) → Climbable r ts ups → i < length ts → get_or ups i which.None ≡ u → slice_get r.templates i ≡ Some t → IsUp r u t.1.tree.parent
up-at r ts ups i u t c lt is at =
    c.above.those i u t (slice_get-get_or ups i which.None (listed r ts ups i c lt) ∙ ap Some is) at

pub entry-there : (r : Registry) (ts : List (Rc Stored Global)) (ups : List Parent) (i : ℕ) → Climbable r ts ups → i < length ts → (t : Entry) × (slice_get r.templates i ≡ Some t)
entry-there r ts ups i c lt =
    element r.templates i (omega (arith, ap length c.same, length-entries ts))

-- Templates that are accepted, where it is known what each extends.
pub kept-climbable : (r : Registry) (ts lent_ts : List (Rc Stored Global)) (ps : List (String Global)) (ups lent_ups : List Parent) → r ≡ seen ts ps → lent_ts ≡ ts → lent_ups ≡ ups → Rises (entries_of ts) → first_fault (seen ts ps) [] (entries_of ts) ≡ None → ArePlaced (seen ts ps) ups → Climbable r lent_ts lent_ups
kept-climbable r ts lent_ts ps ups lent_ups is e f rises none placed =
    let known = found-placed (seen ts ps) ups rises placed in
    rw (is, e, f) (record {
      same = refl;
      rises = rises;
      above = known;
      grounded = grounded (seen ts ps) none;
    })
