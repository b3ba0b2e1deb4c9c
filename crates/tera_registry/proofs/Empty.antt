-- No templates.
use Rattle.std.proofs.Common.{◌≡◌, ℕ, List, [], Some, None, Global, String, string_bytes, nat_cmp, refl, ap}
use Rattle.std.specs.declared.rc.Rc.{Rc}
use Rattle.tera_meaning.specs.Accepted.{first_fault}
use Rattle.tera_registry.specs.declared.template.Template.{Template as Stored}
use Rattle.std.specs.declared.collections.BTreeMap.{BTreeMap}
use Rattle.std.specs.Map.{lookup}
use Rattle.std.specs.Ordering.{is_eq}
use Rattle.std.specs.Cmp.Lexicographic.{slice_cmp}
use Rattle.tera_registry.specs.declared.component_table.ComponentAt.{ComponentAt}
use Rattle.tera_registry.specs.declared.roots.Parent.{Parent}
use Rattle.tera_registry.specs.declared.roots.Parent.TheVariants as up
use Rattle.tera_registry.specs.Choices.{chosen, AreChosen}
use Rattle.tera_registry.specs.Order.{Rises}
use Rattle.tera_registry.specs.Links.{ArePlaced}
use Rattle.tera_registry.specs.Bodies.{AreRooted}
use Rattle.tera_registry.specs.Kept.{entries_of, seen}

pub none-rises : (ts : List (Rc Stored Global)) → ts ≡ [] → Rises (entries_of ts)
none-rises ts e = rw e tt

bare-faultless : (ps : List (String Global)) → first_fault (seen [] ps) [] [] ≡ None
unfolding first_fault
bare-faultless ps = refl

pub none-faultless : (ts : List (Rc Stored Global)) (ps : List (String Global)) → ts ≡ [] → first_fault (seen ts ps) [] (entries_of ts) ≡ None
none-faultless ts ps e = rw e (bare-faultless ps)

pub none-rooted : (ts : List (Rc Stored Global)) (ps : List (String Global)) (roots : List ℕ) → ts ≡ [] → roots ≡ [] → AreRooted (seen ts ps) roots
none-rooted ts ps roots e f = rw (e, f) (record {
  as_many = refl;
  inside = λ i k got. (let q : None ≡ Some k = got in cc);
  those = λ i k t got. (let q : None ≡ Some k = got in cc);
})

pub none-placed : (ts : List (Rc Stored Global)) (ps : List (String Global)) (ups : List Parent) → ts ≡ [] → ups ≡ [] → ArePlaced (seen ts ps) ups
none-placed ts ps ups e f = rw (e, f) (record {
  as_many = refl;
  inside = λ i j got. (let q : None ≡ Some (up.At j) = got in cc);
  those = λ i u t got. (let q : None ≡ Some u = got in cc);
})

pub none-chosen : (ts : List (Rc Stored Global)) (ps : List (String Global)) (choices : BTreeMap (String Global) ComponentAt Global) → ts ≡ [] → choices.entries ≡ [] → AreChosen (seen ts ps) choices
none-chosen ts ps choices e f = λ q.
    let none : chosen choices q ≡ None = ap (lookup (λ k. is_eq (slice_cmp nat_cmp q (string_bytes k)))) f in
    rw e none
