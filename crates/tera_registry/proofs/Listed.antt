-- The components of a whole registry by name, found in the table that templates and prefixes alone make.
use Rattle.std.proofs.Common.{◌≡◌, ℕ, ◌+◌, ◌<◌, Bool, true, false, ◌||◌, cond, is_some, List, [], ◌∷◌, length, map, get_or, Some, None, Less, Global, String, string_bytes, refl, sym, ap, ◌∙◌, arith, slice_get}
use Rattle.std.specs.declared.rc.Rc.{Rc}
use Rattle.std.specs.declared.collections.BTreeMap.{BTreeMap}
use Rattle.std.specs.BTreeMap.{keys, IsOrdered}
use Rattle.std.specs.Map.{keys_of, lookup}
use Rattle.std.specs.Ordering.{is_eq, nat_cmp}
use Rattle.std.specs.Cmp.Lexicographic.{slice_cmp}
use Rattle.std.specs.List.{AllByRecursion}
use Rattle.std.specs.List.Sorted.{IsStrictlySortedBy}
use Rattle.std.specs.Str.{bytes_eq}
use Rattle.std.specs.String.{string_cmp}
use Rattle.std.proofs.lemmas.Map.Text.{is_eq-slice_cmp}
use Rattle.std.proofs.lemmas.Option.{slice_get_within}
use Rattle.tera_errors.specs.Site.{Name}
use Rattle.tera_syntax_tree.specs.Tree.{Signature, Nodes}
use Rattle.tera_syntax_tree.specs.Blocks.{is_among}
use Rattle.tera_syntax_tree.specs.View.{definitions_of}
use Rattle.tera_values.specs.Named.{name_cmp}
use Rattle.tera_code.specs.Listing.{Listing}
use Rattle.tera_components.specs.Definition.{Definition}
use Rattle.tera_meaning.specs.Registry.{Entry, Registry}
use Rattle.tera_meaning.specs.Components.{component, AreComponentNames}
use Rattle.tera_registry.specs.declared.component_table.ComponentAt.{ComponentAt}
use Rattle.tera_registry.specs.declared.components.Component.{Component as Kept}
use Rattle.tera_registry.specs.declared.template.Template.{Template as Stored}
use Rattle.tera_registry.specs.declared.templates.Defined.{Defined}
use Rattle.tera_registry.specs.declared.templates.Templates.{Templates}
use Rattle.tera_registry.specs.Kept.{entry_of, entries_of}
use Rattle.tera_registry.specs.Choices.{chosen, chosen_of, AreChosen, IsTaken}
use Rattle.tera_code.specs.Code.{listing_of}
use Rattle.tera_registry.specs.HandedOut.{code_of}
use Rattle.tera_registry.specs.Bodies.{listings, start}
use Rattle.tera_registry.specs.Definers.{blocks_of}
use Rattle.tera_registry.specs.Templates.{IsDefined, registry_in, templates_of, with_templates}
use Rattle.tera_registry.proofs.Ancestors.{length-kept}
use Rattle.tera_registry.proofs.Tabled.{component-listing-at}
use Rattle.tera_registry.proofs.Adds.{bare, chosen-same}
use Rattle.tera_registry.proofs.Kept.{entry-at-position, length-entries}
use Rattle.tera_registry.proofs.Definitions.{component-there, component-position, kept-within, kept-at}

-- Templates and prefixes alone decide on what is taken.

pub chosen-in-all : (r : Registry) (choices : BTreeMap (String Global) ComponentAt Global) → AreChosen (bare r.templates r.prefixes) choices → AreChosen r choices
chosen-in-all r choices known = λ n. known n ∙ chosen-same r n 0 r.templates None

-- What is taken of a name stands at its position.

taken-within : (r : Registry) (ts : List (Rc Stored Global)) (n : Name) (c : ComponentAt) → r.templates ≡ entries_of ts → chosen_of r n ≡ Some c → c.template < length ts
taken-within r ts n c same e =
    let p = component-position r n c e in
    omega (arith, slice_get_within r.templates c.template p.template p.template_at, ap length same, length-entries ts)

-- a definition of this name in the template that is kept
pub record Taken (r : Registry) (n : Name) (c : ComponentAt) (u : Stored) : Type 0 where
  pub definition : Signature × Nodes
  pub at : slice_get (definitions_of u.meant.definitions) c.component ≡ Some definition
  pub is : component r n ≡ Some (record { file = string_bytes u.name; signature = definition.0; body = definition.1 })

taken-in : (r : Registry) (ts : List (Rc Stored Global)) (n : Name) (c : ComponentAt) (u : Rc Stored Global) → r.templates ≡ entries_of ts → chosen_of r n ≡ Some c → u ≡ get_or ts c.template u → Taken r n c u.value
taken-in r ts n c u same e is =
    let p = component-position r n c e in
    let at = entry-at-position ts c.template u (taken-within r ts n c same e) is in
    let kept : p.template ≡ entry_of u.value = (let q : Some p.template ≡ Some (entry_of u.value) = sym p.template_at ∙ ap (λ es. slice_get es c.template) same ∙ at in cc) in
    record {
      definition = p.definition;
      at = ap (λ (t : Entry). slice_get t.1.tree.definitions c.component) (sym kept) ∙ p.at;
      is = p.is ∙ ap (λ (t : Entry). Some (record { file = t.0; signature = p.definition.0; body = p.definition.1 })) kept;
    }

taken-component-within : (r : Registry) (n : Name) (c : ComponentAt) (u : Stored) → Taken r n c u → c.component < length u.components.items
taken-component-within r n c u t =
    kept-within (string_bytes u.name) (definitions_of u.meant.definitions) u.components.items c.component t.definition u.defined t.at

taken-defined : (r : Registry) (n : Name) (c : ComponentAt) (u : Stored) (k : Kept) (found : Defined) (t : Taken r n c u) → k ≡ get_or u.components.items c.component k → found.definition.now ≡ k.definition → code_of found.body ≡ listing_of (string_bytes u.name) t.definition.1 → IsDefined (component r n) (Some found)
taken-defined r n c u k found t is given code =
    let kept = kept-at (string_bytes u.name) (definitions_of u.meant.definitions) u.components.items c.component t.definition k u.defined t.at is in
    rw t.is (record { given = given ∙ ap (λ (p : Definition × Listing). p.0) kept; code = code })

-- the code of its body, by the number
component-number : (ts : List (Rc Stored Global)) (i k : ℕ) (u : Rc Stored Global) (d : Signature × Nodes) → i < length ts → u ≡ get_or ts i u → slice_get (definitions_of u.value.meant.definitions) k ≡ Some d → slice_get (listings (entries_of ts)) (start (entries_of ts) i + (1 + length u.value.blocks.items + k)) ≡ Some (listing_of (string_bytes u.value.name) d.1)
component-number ts i k u d lt is at =
    let es = entries_of ts in
    let t = entry_of u.value in
    let many = length-kept u.value.blocks.items (string_bytes u.value.name) (blocks_of t) u.value.divided in
    let n : start es i + (1 + length u.value.blocks.items + k) ≡ start es i + 1 + length (blocks_of t) + k = omega (arith, many) in
    ap (slice_get (listings es)) n ∙ component-listing-at t es i k d (entry-at-position ts i u lt is) at

-- the same where templates are linked
module _ (self : Templates) (choice : ComponentAt) (taken : IsTaken self.choices choice) where
  chosen-so : chosen_of (registry_in self) taken.name ≡ Some choice
  chosen-so = sym (self.chosen taken.name) ∙ taken.is

  pub template-within : choice.template < length self.all.items
  template-within = taken-within (registry_in self) self.all.items taken.name choice refl chosen-so

  module _ (u : Rc Stored Global) (v : Stored) (is : u ≡ get_or self.all.items choice.template u) (value : v ≡ u.value) where
    taken-so : Taken (registry_in self) taken.name choice u.value
    taken-so = taken-in (registry_in self) self.all.items taken.name choice u refl chosen-so is

    pub component-within : choice.component < length v.components.items
    component-within = rw value (taken-component-within (registry_in self) taken.name choice u.value taken-so)

    pub body-within : (many : ℕ) → many ≡ length v.blocks.items → start (templates_of self) choice.template + (1 + many + choice.component) < length (listings (templates_of self))
    body-within many same =
        let d = taken-so.definition in
        let at = component-number self.all.items choice.template choice.component u d template-within is taken-so.at in
        omega (arith, slice_get_within (listings (templates_of self)) _ _ at, same, ap (λ (s : Stored). length s.blocks.items) value)

    pub defined-so : (r : Registry) (name : Name) (many : ℕ) (k : Kept) (found : Defined) → chosen self.choices name ≡ Some choice → many ≡ length v.blocks.items → k ≡ get_or v.components.items choice.component k → found.definition.now ≡ k.definition → slice_get (listings (templates_of self)) (start (templates_of self) choice.template + (1 + many + choice.component)) ≡ Some (code_of found.body) → IsDefined (component (with_templates r self) name) (Some found)
    defined-so r name many k found named same k_is given at =
        let q = with_templates r self in
        let so : chosen_of q name ≡ Some choice = sym (chosen-in-all q self.choices self.chosen name) ∙ named in
        let now = taken-in q self.all.items name choice u refl so is in
        let as_many : many ≡ length u.value.blocks.items = same ∙ ap (λ (s : Stored). length s.blocks.items) value in
        let s : Some (code_of found.body) ≡ Some (listing_of (string_bytes u.value.name) now.definition.1) = sym at ∙ ap (λ m. slice_get (listings (templates_of self)) (start (templates_of self) choice.template + (1 + m + choice.component))) as_many ∙ component-number self.all.items choice.template choice.component u now.definition template-within is now.at in
        let code : code_of found.body ≡ listing_of (string_bytes u.value.name) now.definition.1 = cc in
        taken-defined q name choice u.value k found now (rw value at k_is) given code

-- The names, in the order of the table.

pub keys-ascend : (ks : List (String Global)) → IsStrictlySortedBy string_cmp ks → IsStrictlySortedBy name_cmp (map string_bytes ks)
unfolding IsStrictlySortedBy
keys-ascend [] h = tt
keys-ascend (k ∷ ks) h = (below ks h.0, keys-ascend ks h.1)
  where
    below : (js : List (String Global)) → AllByRecursion (λ j. string_cmp k j ≡ Less) js → AllByRecursion (λ n. name_cmp (string_bytes k) n ≡ Less) (map string_bytes js)
    below [] h = tt
    below (j ∷ js) h = (h.0, below js h.1)

among-keys : (n : Name) (es : List (String Global × ComponentAt)) → is_among n (map string_bytes (keys_of es)) ≡ is_some (lookup (λ k. is_eq (slice_cmp nat_cmp n (string_bytes k))) es)
among-keys n [] = refl
among-keys n (e ∷ es) =
    by_name (is_eq (slice_cmp nat_cmp n (string_bytes e.0))) (bytes_eq n (string_bytes e.0)) (is_eq-slice_cmp n (string_bytes e.0)) (among-keys n es)
  where
    by_name : (b d : Bool) → b ≡ d → is_among n (map string_bytes (keys_of es)) ≡ is_some (lookup (λ k. is_eq (slice_cmp nat_cmp n (string_bytes k))) es) → (d || is_among n (map string_bytes (keys_of es))) ≡ is_some (cond b (Some e.1) (lookup (λ k. is_eq (slice_cmp nat_cmp n (string_bytes k))) es))
    by_name true true e rest = refl
    by_name true false e rest = (let q : true ≡ false = e in cc)
    by_name false true e rest = (let q : false ≡ true = e in cc)
    by_name false false e rest = rest

pub names-of-all : (r : Registry) (choices : BTreeMap (String Global) ComponentAt Global) → AreChosen r choices → IsOrdered string_cmp choices → AreComponentNames r (map string_bytes (keys choices))
names-of-all r choices known ordered = record {
  ascending = keys-ascend (keys choices) ordered;
  those = λ n. among-keys n choices.entries ∙ ap is_some (known n) ∙ component-there r n;
}
