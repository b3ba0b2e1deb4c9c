-- Templates as they are kept, and the entries that definitions see.
use Rattle.std.proofs.Common.{◌≡◌, ℕ, ◌<◌, set, sym, suc, List, [], ◌∷◌, length, get_or, map, Option, Some, None, Ok, Err, Equal, Global, option_map, refl, ap, ◌∙◌, slice_get}
use Rattle.std.specs.declared.rc.Rc.{Rc}
use Rattle.std.proofs.lemmas.Option.{slice_get_read, slice_get-map}
use Rattle.tera_registry.specs.declared.template.Template.{Template as Stored}
use Rattle.std.specs.List.{insert}
use Rattle.tera_errors.specs.Site.{Name}
use Rattle.tera_values.specs.Named.{Named, name_cmp, put}
use Rattle.tera_registry.specs.Order.{Rises}
use Rattle.tera_registry.specs.Positions.{IsFound}
use Rattle.tera_meaning.specs.Registry.{Template, Entry, Registry}
use Rattle.tera_meaning.specs.Resolve.{entry_at}
use Rattle.tera_registry.proofs.Placed.{named, entry-found, put-set, put-insert, map-set, map-insert, itself}
use Rattle.tera_registry.proofs.Element.{element}
use Rattle.tera_registry.specs.Kept.{entry_of, entries_of}

pub entry-at-position : (ts : List (Rc Stored Global)) (m : ℕ) (t : Rc Stored Global) → m < length ts → t ≡ get_or ts m t → slice_get (entries_of ts) m ≡ Some (entry_of t.value)
entry-at-position ts m t lt is =
    slice_get-map (λ (u : Rc Stored Global). entry_of u.value) ts m ∙ ap (option_map (λ (u : Rc Stored Global). entry_of u.value)) (slice_get_read ts (length ts) m t refl lt is)

-- the same of a registry whose templates they are
pub entry-among : (r : Registry) (ts : List (Rc Stored Global)) (m : ℕ) (t : Rc Stored Global) (u : Stored) → entries_of ts ≡ r.templates → m < length ts → t ≡ get_or ts m t → u ≡ t.value → slice_get r.templates m ≡ Some (entry_of u)
entry-among r ts m t u same lt is value =
    ap (λ es. slice_get es m) (sym same) ∙ entry-at-position ts m t lt is ∙ ap (λ v. Some (entry_of v)) (sym value)

pub entry-is : (r : Registry) (ts : List (Rc Stored Global)) (m : ℕ) (t : Rc Stored Global) (u : Stored) (e : Entry) → entries_of ts ≡ r.templates → m < length ts → t ≡ get_or ts m t → u ≡ t.value → slice_get r.templates m ≡ Some e → entry_of u ≡ e
entry-is r ts m t u e same lt is value at =
    (let q : Some (entry_of u) ≡ Some e = sym (entry-among r ts m t u same lt is value) ∙ at in cc)

pub length-entries : (ts : List (Rc Stored Global)) → length (entries_of ts) ≡ length ts
length-entries [] = refl
length-entries (t ∷ ts) = ap suc (length-entries ts)

-- the template of the name that stands at a position
pub named-position : (es : Named Template) (position : ℕ) (name : Name) → Rises es → slice_get (map (λ t. t.0) es) position ≡ Some name → (e : Entry) × (slice_get es position ≡ Some e) × (entry_at name es ≡ Some e)
named-position es position name rises is =
    by_position (slice_get es position) refl (sym (slice_get-map (λ (t : Entry). t.0) es position) ∙ is)
  where
    by_position : (o : Option Entry) → slice_get es position ≡ o → option_map (λ (t : Entry). t.0) o ≡ Some name → (e : Entry) × (slice_get es position ≡ Some e) × (entry_at name es ≡ Some e)
    by_position None at q = (let x : None ≡ Some name = q in cc)
    by_position (Some e) at q =
        (let x : Some e.0 ≡ Some name = q in
        let same : e.0 ≡ name = cc in
        (e, at, entry-found es name position e rises at (rw same (itself name))))

-- a template in the place of one of its name
pub put-in-position : (ts : List (Rc Stored Global)) (t : Rc Stored Global) (n : Name) (i : ℕ) → Rises (entries_of ts) → n ≡ (entry_of t.value).0 → IsFound (entries_of ts) n (Ok i) → entries_of (set ts i t) ≡ put (entry_of t.value).0 (entry_of t.value).1 (entries_of ts)
put-in-position ts t n i rises is found =
    let es = entries_of ts in
    let e = element es i found.1 in
    let same : n ≡ (e.0).0 = named es n e.0 (found.0 ∙ e.1) in
    let tie : name_cmp (e.0).0 (entry_of t.value).0 ≡ Equal = rw (← is, ← same) (itself n) in
    map-set (λ (u : Rc Stored Global). entry_of u.value) ts i t ∙ sym (put-set es (entry_of t.value).0 (entry_of t.value).1 i e.0 rises e.1 tie)

-- a template put between those of lesser and greater names
pub put-between : (ts : List (Rc Stored Global)) (t : Rc Stored Global) (n : Name) (i : ℕ) → n ≡ (entry_of t.value).0 → IsFound (entries_of ts) n (Err i) → entries_of (insert ts i t) ≡ put (entry_of t.value).0 (entry_of t.value).1 (entries_of ts)
put-between ts t n i is found =
    let es = entries_of ts in
    map-insert (λ (u : Rc Stored Global). entry_of u.value) ts i t ∙ sym (rw (← is) (put-insert es n (entry_of t.value).1 i found.1 found.2 found.3))
