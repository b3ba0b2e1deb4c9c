-- What an adding call makes of a whole registry.
use Rattle.std.proofs.Common.{◌≡◌, ℕ, zero, suc, List, [], ◌∷◌, ◌++◌, length, map, Option, Some, None, Result, Ok, Err, String, string_bytes, Global, refl, sym, ap, ap₂, ◌∙◌}
use Rattle.std.specs.declared.rc.Rc.{Rc}
use Rattle.std.specs.List.{AllZip, list_any}
use mathlib.Core.Path.{fun_ext}
use Rattle.std.specs.Option.{option_or}
use Rattle.tera_errors.specs.Site.{Name, Text}
use Rattle.tera_errors.specs.Fault.{Fault, message, circular_include}
use Rattle.tera_errors.specs.Answer.{SeenError, Says, SaysOneOf}
use Rattle.tera_syntax_tree.specs.Delimiters.{Delims}
use Rattle.tera_values.specs.Named.{Named, put_all}
use Rattle.tera_state.specs.Engine.{Engine}
use Rattle.tera_meaning.specs.Registry.{Template, Entry, Registry, new_registry}
use Rattle.tera_meaning.specs.Accepted.{fault_of_parents, includes_of, can_walk, fault_if, template_fault, first_fault, missing, fault}
use Rattle.tera_syntax_tree.specs.Definitions.{component_names}
use Rattle.tera_meaning.specs.Components.{priority, has_a_tie}
use Rattle.tera_meaning.specs.Resolve.{parents}
use Rattle.tera_meaning.specs.Adding.{unless_faulty, accepted}
use Rattle.tera_registry.specs.declared.template.Template.{Template as Stored}
use Rattle.std.specs.declared.collections.BTreeMap.{BTreeMap}
use Rattle.tera_registry.specs.declared.component_table.ComponentAt.{ComponentAt}
use Rattle.tera_registry.specs.declared.roots.Parent.{Parent}
use Rattle.tera_registry.specs.Choices.{chosen_in, chosen_from, AreChosen}
use Rattle.tera_registry.specs.Batch.{ReadsBatch, Adds}
use Rattle.tera_registry.specs.Put.{put_among, Puts}
use Rattle.tera_registry.specs.Order.{Rises}
use Rattle.tera_registry.specs.Bodies.{AreRooted}
use Rattle.tera_registry.specs.Links.{AreUps, ArePlaced, AreRoots}
use Rattle.tera_registry.specs.Kept.{entry_of, entries_of, seen, seen_by}
use Rattle.tera_registry.proofs.Checked.{faultless, faulty, no-first-fault}
use Rattle.tera_registry.proofs.Linked.{placed}
use Rattle.tera_registry.proofs.Tabled.{rooted}

-- Templates and prefixes alone decide on faults.

abbrev pub bare : Named Template → List Text → Registry
bare ts ps = record new_registry { templates = ts; prefixes = ps }

pub walks-same : (r : Registry) (n : ℕ) (t : Entry) → can_walk r n t ≡ can_walk (bare r.templates r.prefixes) n t
unfolding can_walk
walks-same r zero t = refl
walks-same r (suc n) t = ap (λ p. list_any p (includes_of r t)) (fun_ext (walks-same r n))

fault-of-one-same : (r : Registry) (before : List Entry) (t : Entry) → template_fault r before t ≡ template_fault (bare r.templates r.prefixes) before t
unfolding template_fault
fault-of-one-same r before t =
    ap (λ b. option_or (fault_of_parents (parents r t)) (option_or (fault_if b circular_include) (fault_if (has_a_tie r before t) message))) (walks-same r (length r.templates) t)

first-same : (r : Registry) (before es : List Entry) → first_fault r before es ≡ first_fault (bare r.templates r.prefixes) before es
unfolding first_fault
first-same r before [] = refl
first-same r before (t ∷ es) =
    ap₂ option_or (fault-of-one-same r before t) (first-same r (before ++ t ∷ []) es)

pub chosen-same : (r : Registry) (n : Name) (position : ℕ) (ts : List Entry) (old : Option ComponentAt) → chosen_from (bare r.templates r.prefixes) n position ts old ≡ chosen_from r n position ts old
chosen-same r n position [] old = refl
chosen-same r n position (t ∷ ts) old =
    chosen-same r n (suc position) ts (chosen_in n position (priority r t.0) 0 (component_names t.1.tree.definitions) old)

-- With the engine they decide on the rest as well.

abbrev served : Engine → Named Template → List Text → Registry
served engine ts ps = record (bare ts ps) { engine = engine }

fault-same : (r : Registry) → fault r ≡ fault (served r.engine r.templates r.prefixes)
unfolding fault missing
fault-same r =
    ap (λ o. option_or o (missing r)) (first-same r [] r.templates ∙ sym (first-same (served r.engine r.templates r.prefixes) [] r.templates))

accepted-ok : (r : Registry) (q : Registry) → q ≡ served r.engine r.templates r.prefixes → accepted q ≡ Ok q → accepted r ≡ Ok r
accepted-ok r q is e = ap (unless_faulty r) (fault-same r ∙ sym (ap fault is) ∙ faultless q e)

accepted-err : (r : Registry) (q : Registry) (f : Fault) → q ≡ served r.engine r.templates r.prefixes → accepted q ≡ Err f → accepted r ≡ Err f
accepted-err r q f is e = ap (unless_faulty r) (fault-same r ∙ sym (ap fault is) ∙ faulty q f e)

-- A refusal of a text is that of the call.
pub refused-adds : (e : SeenError) (r : Registry) (d : Delims) (batch : List (Name × Text)) → r.delimiters ≡ d → SaysOneOf e (Puts d r.templates batch) → SaysOneOf e (Adds r batch)
refused-adds None r d batch same p = tt
refused-adds (Some f) r d batch same p = by_reading p.reading (rw same p.read) p.is
  where
    by_reading : (reading : Result (Named Template) Fault) → ReadsBatch r.delimiters batch reading → Err f ≡ put_among r.templates reading → Adds r batch (Err f)
    by_reading (Ok es) read is = (let q : Err f ≡ Ok (put_all es r.templates) = is in cc)
    by_reading (Err g) read is =
        (let q : Err f ≡ put_among r.templates (Err g) = is in
        let e : f ≡ g = cc in
        record { reading = Err g; read = read; is = ap Err e })

-- Where the batch reads, the call ends as its registry does.
pub put-adds : (r : Registry) (d : Delims) (batch : List (Name × Text)) (new : Named Template) (answer : Result Registry Fault) → r.delimiters ≡ d → Puts d r.templates batch (Ok new) → accepted (record r { templates = new }) ≡ answer → Adds r batch answer
put-adds r d batch new answer same p ends = by_reading p.reading (rw same p.read) p.is
  where
    by_reading : (reading : Result (Named Template) Fault) → ReadsBatch r.delimiters batch reading → Ok new ≡ put_among r.templates reading → Adds r batch answer
    by_reading (Ok es) read is =
        (let q : Ok new ≡ Ok (put_all es r.templates) = is in
        let e : new ≡ put_all es r.templates = cc in
        record { reading = Ok es; read = read; is = sym ends ∙ ap (λ ts. accepted (record r { templates = ts })) e })
    by_reading (Err g) read is = (let q : Ok new ≡ Err g = is in cc)

linked-adds : (r : Registry) (d : Delims) (batch : List (Name × Text)) (new : Named Template) (q : Registry) → r.delimiters ≡ d → Puts d r.templates batch (Ok new) → q ≡ served r.engine new r.prefixes → accepted q ≡ Ok q → Adds r batch (Ok (record r { templates = new }))
linked-adds r d batch new q same p is ok =
    put-adds r d batch new _ same p (accepted-ok (record r { templates = new }) q is ok)

unlinked-adds : (e : SeenError) (r : Registry) (d : Delims) (batch : List (Name × Text)) (new : Named Template) (q : Registry) → r.delimiters ≡ d → Puts d r.templates batch (Ok new) → q ≡ served r.engine new r.prefixes → Says e (accepted q) → SaysOneOf e (Adds r batch)
unlinked-adds None r d batch new q same p is says = tt
unlinked-adds (Some f) r d batch new q same p is says =
    put-adds r d batch new _ same p (accepted-err (record r { templates = new }) q f is says)

-- Templates as they are kept: a batch is put among copies of the old ones, which are the same.

same-entries : (ts us : List (Rc Stored Global)) → AllZip (λ (t : Rc Stored Global) (u : Rc Stored Global). u.value ≡ t.value) ts us → entries_of us ≡ entries_of ts
same-entries [] [] z = refl
same-entries [] (u ∷ us) z = absurd z
same-entries (t ∷ ts) [] z = absurd z
same-entries (t ∷ ts) (u ∷ us) z =
    ap (λ v. entry_of v ∷ entries_of us) z.0 ∙ ap (λ l. entry_of t.value ∷ l) (same-entries ts us z.1)

abbrev pub Copies : List (Rc Stored Global) → List (Rc Stored Global) → Type 0
Copies = AllZip (λ (t : Rc Stored Global) (u : Rc Stored Global). u.value ≡ t.value)

pub copies-rise : (old all : List (Rc Stored Global)) → Copies old all → Rises (entries_of old) → Rises (entries_of all)
copies-rise old all z h = rw (same-entries old all z) h

module _ (r : Registry) (d : Delims) (batch : List (Name × Text)) (old all : List (Rc Stored Global)) (ps : List (String Global)) (same : r.delimiters ≡ d) (z : Copies old all) where
  abbrev with : List (Rc Stored Global) → Registry
  with ts = record r { templates = entries_of ts; prefixes = map string_bytes ps }

  abbrev PutsTo : Result (Named Template) Fault → Type 0
  PutsTo = Puts d (entries_of all) batch

  pub add-unread : (e : SeenError) → SaysOneOf e PutsTo → SaysOneOf e (Adds (with old) batch)
  add-unread e p =
      let from_old : SaysOneOf e (Puts d (entries_of old) batch) = rw (sym (same-entries old all z)) p in
      refused-adds e (with old) d batch same from_old

  module _ (engine : Engine) (new lent : List (Rc Stored Global)) (lent_ps : List (String Global)) (of : r.engine ≡ engine) (e : lent ≡ new) (f : lent_ps ≡ ps) (p : PutsTo (Ok (entries_of new))) where
    same-seen : seen_by engine lent lent_ps ≡ served r.engine (entries_of new) (map string_bytes ps)
    same-seen = rw (of, e, f) refl

    from_old : Puts d (entries_of old) batch (Ok (entries_of new))
    from_old = rw (sym (same-entries old all z)) p

    pub add-unlinked : (refusal : SeenError) → Says refusal (accepted (seen_by engine lent lent_ps)) → SaysOneOf refusal (Adds (with old) batch)
    add-unlinked refusal says =
        unlinked-adds refusal (with old) d batch (entries_of new) (seen_by engine lent lent_ps) same from_old same-seen says

    pub add-linked : accepted (seen_by engine lent lent_ps) ≡ Ok (seen_by engine lent lent_ps) → Adds (with old) batch (Ok (with new))
    add-linked ok =
        linked-adds (with old) d batch (entries_of new) (seen_by engine lent lent_ps) same from_old same-seen ok

-- What is known of templates that are linked, whatever the engine.
module _ (engine : Engine) (ts lent : List (Rc Stored Global)) (ps lent_ps : List (String Global)) (e : lent ≡ ts) (f : lent_ps ≡ ps) where
  pub kept-faultless : accepted (seen_by engine lent lent_ps) ≡ Ok (seen_by engine lent lent_ps) → first_fault (seen ts ps) [] (entries_of ts) ≡ None
  kept-faultless ok =
      let q = seen_by engine ts ps in
      let meant : accepted q ≡ Ok q = rw (e, f) at ok in
      sym (first-same q [] (entries_of ts)) ∙ no-first-fault q (faultless q meant)

  pub kept-placed : (ups : List Parent) → AreUps (seen_by engine lent lent_ps) ups (length (entries_of lent)) → ArePlaced (seen ts ps) ups
  kept-placed ups a =
      let meant : AreUps (seen_by engine ts ps) ups (length (entries_of ts)) = rw (e, f) at a in
      placed (seen ts ps) ups (record { as_many = meant.as_many; those = meant.those })

  pub kept-rooted : (roots : List ℕ) → AreRoots (seen_by engine lent lent_ps) roots (length (entries_of lent)) → AreRooted (seen ts ps) roots
  kept-rooted roots a =
      let meant : AreRoots (seen_by engine ts ps) roots (length (entries_of ts)) = rw (e, f) at a in
      rooted (seen ts ps) roots (record { as_many = meant.as_many; those = meant.those })

  pub kept-chosen : (choices : BTreeMap (String Global) ComponentAt Global) → AreChosen (seen_by engine lent lent_ps) choices → AreChosen (seen ts ps) choices
  kept-chosen choices a =
      let meant : AreChosen (seen_by engine ts ps) choices = rw (e, f) at a in
      λ n. meant n ∙ sym (chosen-same (seen_by engine ts ps) n 0 (entries_of ts) None)
