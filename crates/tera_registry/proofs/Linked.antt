-- What templates are linked to, one more at a time.
use Rattle.std.proofs.Common.{◌≡◌, ℕ, ◌+◌, ◌<◌, List, [], ◌∷◌, ◌++◌, length, map, get_or, option_map, Option, Some, None, String, Global, refl, sym, ap, ◌∙◌, inl, inr, arith, slice_get}
use Rattle.std.specs.declared.rc.Rc.{Rc}
use Rattle.std.proofs.lemmas.Option.{slice_get-get_or, slice_get-map, slice_get_within}
use Rattle.tera_meaning.specs.Registry.{Registry, Entry}
use Rattle.tera_errors.specs.Site.{Name}
use Rattle.tera_meaning.specs.Resolve.{resolve, root}
use Rattle.tera_registry.specs.declared.template.Template.{Template as Stored}
use Rattle.tera_registry.specs.declared.roots.Parent.{Parent}
use Rattle.tera_registry.specs.declared.roots.Parent.TheVariants as up
use Rattle.tera_registry.specs.Links.{IsUp, AreUps, name_at, name_above, ArePlaced, Inside, AreRoots}
use Rattle.tera_registry.specs.Kept.{entry_of, entries_of, seen}
use Rattle.tera_registry.proofs.Element.{element}
use Rattle.tera_registry.specs.Order.{Rises}
use Rattle.tera_registry.proofs.Kept.{length-entries, named-position}
use Rattle.tera_registry.proofs.Resolved.{first-there-own}
use Rattle.tera_registry.proofs.Rows.{get-push, length-push}

-- what is so of what stands at each of so many positions is so of one more
pub more : {X Y : Type 0} (Is : X → Y → Type 0) (ys : List Y) (xs : List X) (x : X) (many : ℕ) (y : Y) → length xs ≡ many → ((i : ℕ) (v : X) (w : Y) → slice_get xs i ≡ Some v → slice_get ys i ≡ Some w → Is v w) → slice_get ys many ≡ Some y → Is x y → (i : ℕ) (v : X) (w : Y) → slice_get (xs ++ x ∷ []) i ≡ Some v → slice_get ys i ≡ Some w → Is v w
more Is ys xs x many y as_many those at is = λ i v w got w_at.
    elim (get-push xs x v i got) [
      | inl before ↦ those i v w before w_at
      | inr last ↦
          (let here : i ≡ many = last.0 ∙ as_many in
          let same : y ≡ w = (let q : Some y ≡ Some w = sym at ∙ ap (slice_get ys) (sym here) ∙ w_at in cc) in
          rw (last.1, ← same) is)
    ]

pub no-ups : (r : Registry) → AreUps r [] 0
no-ups r = record { as_many = refl; those = λ i u t got at. (let q : None ≡ Some u = got in cc) }

pub more-ups : (r : Registry) (ups : List Parent) (u : Parent) (many : ℕ) (t : Entry) → AreUps r ups many → slice_get r.templates many ≡ Some t → IsUp r u t.1.tree.parent → AreUps r (ups ++ u ∷ []) (many + 1)
more-ups r ups u many t a at is = record {
  as_many = length-push ups u ∙ ap (λ n. n + 1) a.as_many;
  those = more (λ u (t : Entry). IsUp r u t.1.tree.parent) r.templates ups u many t a.as_many a.those at is;
}

pub no-roots : (r : Registry) → AreRoots r [] 0
no-roots r = record { as_many = refl; those = λ i k t got at. (let q : None ≡ Some k = got in cc) }

pub more-roots : (r : Registry) (roots : List ℕ) (k many : ℕ) (t : Entry) → AreRoots r roots many → slice_get r.templates many ≡ Some t → slice_get r.templates k ≡ Some (root r t) → AreRoots r (roots ++ k ∷ []) (many + 1)
more-roots r roots k many t a at is = record {
  as_many = length-push roots k ∙ ap (λ n. n + 1) a.as_many;
  those = more (λ k t. slice_get r.templates k ≡ Some (root r t)) r.templates roots k many t a.as_many a.those at is;
}

at-entry : (ts : List (Rc Stored Global)) (k : ℕ) (u : Rc Stored Global) → slice_get ts k ≡ Some u → slice_get (entries_of ts) k ≡ Some (entry_of u.value)
at-entry ts k u at =
    slice_get-map (λ (v : Rc Stored Global). entry_of v.value) ts k ∙ ap (option_map (λ (v : Rc Stored Global). entry_of v.value)) at

pub ups-inside : (r : Registry) (ups : List Parent) → AreUps r ups (length r.templates) → Inside ups
ups-inside r ups a = record {
  inside = λ i j got.
      (let lt = slice_get_within ups i (up.At j) got in
      let t = element r.templates i (omega (arith, a.as_many, lt)) in
      let above = a.those i (up.At j) t.0 got t.1 in
      omega (arith, a.as_many, above.2.1));
}

pub next-inside : (ups : List Parent) (i next : ℕ) → Inside ups → i < length ups → get_or ups i up.None ≡ up.At next → next < length ups
next-inside ups i next a lt is =
    a.inside i next (slice_get-get_or ups i up.None lt ∙ ap Some is)

-- a template, and what it extends
pub up-there : (r : Registry) (ups : List Parent) (i : ℕ) (u : Parent) → AreUps r ups (length r.templates) → i < length ups → get_or ups i up.None ≡ u → (t : Entry) × (slice_get r.templates i ≡ Some t) × IsUp r u t.1.tree.parent
up-there r ups i u a lt is =
    let e = element r.templates i (omega (arith, lt, a.as_many)) in
    (e.0, e.1, a.those i u e.0 (slice_get-get_or ups i up.None lt ∙ ap Some is) e.1)

-- Said by names, they are the same: no two templates share one.

pub placed : (r : Registry) (ups : List Parent) → AreUps r ups (length r.templates) → ArePlaced r ups
placed r ups a = record {
  as_many = a.as_many;
  inside = λ i j got. (let lt = (ups-inside r ups a).inside i j got in omega (arith, a.as_many));
  those = λ i u t got at. by_up u t.1.tree.parent (a.those i u t got at);
}
  where
    by_up : (u : Parent) (parent : Option Name) → IsUp r u parent → name_at r.templates u ≡ name_above r parent
    by_up up.None parent is = ap (name_above r) (sym is)
    by_up up.Missing parent is =
        sym (ap (name_above r) is.1 ∙ ap (λ o. Some (option_map (λ (e : Entry). e.0) o)) is.2)
    by_up (up.At i) parent is =
        sym (ap (name_above r) is.1 ∙ ap (λ o. Some (option_map (λ (e : Entry). e.0) o)) is.2.0 ∙ ap Some (sym (slice_get-map (λ (e : Entry). e.0) r.templates i)))

-- the template that is found, where it has the name of the one at a position
pub at-its-position : (r : Registry) (i : ℕ) (n : Name) (o : Option Entry) → Rises r.templates → i < length r.templates → resolve r n ≡ o → slice_get (map (λ e. e.0) r.templates) i ≡ option_map (λ e. e.0) o → resolve r n ≡ slice_get r.templates i
at-its-position r i n None rises lt found same =
    (let e = element r.templates i lt in
    let q : Some (e.0).0 ≡ None = sym (slice_get-map (λ (e : Entry). e.0) r.templates i ∙ ap (option_map (λ (e : Entry). e.0)) e.1) ∙ same in
    cc)
at-its-position r i n (Some v) rises lt found same =
    let e = named-position r.templates i v.0 rises same in
    let own = first-there-own r.templates (n ∷ map (λ p. p ++ n) r.prefixes) v found in
    found ∙ sym own ∙ e.2 ∙ sym e.1

pub found-placed : (r : Registry) (ups : List Parent) → Rises r.templates → ArePlaced r ups → AreUps r ups (length r.templates)
found-placed r ups rises a = record {
  as_many = a.as_many;
  those = λ i u t got at. by_up u t.1.tree.parent (λ j is. a.inside i j (got ∙ ap Some is)) (a.those i u t got at);
}
  where
    nowhere : (n : Name) (o : Option Entry) → resolve r n ≡ o → Some None ≡ Some (option_map (λ (e : Entry). e.0) o) → resolve r n ≡ None
    nowhere n None found same = found
    nowhere n (Some v) found same = (let q : Some None ≡ Some (Some v.0) = same in cc)

    by_up : (u : Parent) (parent : Option Name) → ((j : ℕ) → u ≡ up.At j → j < length r.templates) → name_at r.templates u ≡ name_above r parent → IsUp r u parent
    by_up up.None None inside same = refl
    by_up up.None (Some n) inside same =
        (let q : None ≡ Some (option_map (λ (e : Entry). e.0) (resolve r n)) = same in cc)
    by_up up.Missing None inside same = (let q : Some None ≡ None = same in cc)
    by_up up.Missing (Some n) inside same = (n, refl, nowhere n (resolve r n) refl same)
    by_up (up.At i) None inside same =
        (let q : Some (slice_get (map (λ (e : Entry). e.0) r.templates) i) ≡ None = same in cc)
    by_up (up.At i) (Some n) inside same =
        (let q : Some (slice_get (map (λ (e : Entry). e.0) r.templates) i) ≡ Some (option_map (λ (e : Entry). e.0) (resolve r n)) = same in
        let e : slice_get (map (λ (e : Entry). e.0) r.templates) i ≡ option_map (λ (e : Entry). e.0) (resolve r n) = cc in
        let lt = inside i refl in
        (n, refl, (at-its-position r i n (resolve r n) rises lt refl e, lt)))

pub all-ups : (ts : List (Rc Stored Global)) (ps : List (String Global)) (ups lent : List Parent) → lent ≡ ups → AreUps (seen ts ps) ups (length ts) → AreUps (seen ts ps) lent (length (entries_of ts))
all-ups ts ps ups lent e a = rw (length-entries ts, e) a
