-- Links: what code takes leads to, by the position of a template and by its name.
use Rattle.std.proofs.Common.{◌≡◌, ℕ, ◌+◌, List, [], ◌∷◌, ◌++◌, length, map, slice_get, option_map, Option, Some, None, String, Global, refl, sym, ap, subst, ◌∙◌}
use Rattle.std.specs.declared.collections.BTreeMap.{BTreeMap}
use Rattle.std.specs.declared.rc.Rc.{Rc}
use Rattle.std.specs.List.{All}
use Rattle.std.proofs.lemmas.List.Elements.{All-nil}
use Rattle.std.proofs.lemmas.Option.{slice_get-map}
use Rattle.tera_errors.specs.Site.{Name}
use Rattle.tera_meaning.specs.Registry.{Registry, Entry}
use Rattle.tera_meaning.specs.Resolve.{resolve}
use Rattle.tera_registry.specs.declared.component_table.ComponentAt.{ComponentAt}
use Rattle.tera_registry.specs.declared.code.Take.{Take}
use Rattle.tera_registry.specs.declared.body_table.LinkedBody.{LinkedBody as Linked}
use Rattle.tera_registry.specs.declared.body_table.Link.{Link}
use Rattle.tera_registry.specs.declared.template.Template.{Template as Stored}
use Rattle.tera_registry.specs.Bodies.{listings, AreStarts}
use Rattle.tera_registry.specs.Kept.{entries_of, seen}
use Rattle.tera_registry.specs.References.{IsPlace, LeadsTo, AreLinks, IsLinked, chunk_of}
use Rattle.tera_registry.specs.Order.{Rises}
use Rattle.tera_registry.specs.Positions.{IsPosition}
use Rattle.tera_registry.proofs.Linked.{at-its-position, more}
use Rattle.tera_registry.proofs.Rows.{length-push}

module _ (r : Registry) (name : Name) where
  pub place-of : (found : Option ℕ) → IsPosition r.templates found (resolve r name) → IsPlace r name found
  place-of None is = ap (option_map (λ (t : Entry). t.0)) is
  place-of (Some position) is =
      (slice_get-map (λ (t : Entry). t.0) r.templates position ∙ ap (option_map (λ (t : Entry). t.0)) (sym is.0), is.1)

  nowhere : (o : Option Entry) → resolve r name ≡ o → option_map (λ (t : Entry). t.0) o ≡ None → resolve r name ≡ None
  nowhere None e none = e
  nowhere (Some t) e none = (let q : Some t.0 ≡ None = none in cc)

  pub is-place : (found : Option ℕ) → Rises r.templates → IsPlace r name found → IsPosition r.templates found (resolve r name)
  is-place None rises is = nowhere (resolve r name) refl is
  is-place (Some position) rises is =
      (at-its-position r position name (resolve r name) rises is.1 refl is.0, is.1)

-- one link more
pub no-links : (r : Registry) (choices : BTreeMap (String Global) ComponentAt Global) (takes : List Take) → AreLinks r choices takes [] 0
no-links r choices takes = record { as_many = refl; those = λ i l t got. (let q : None ≡ Some l = got in cc) }

pub more-links : (r : Registry) (choices : BTreeMap (String Global) ComponentAt Global) (takes : List Take) (links : List Link) (l : Link) (many : ℕ) (t : Take) → AreLinks r choices takes links many → slice_get takes many ≡ Some t → LeadsTo r choices t l → AreLinks r choices takes (links ++ l ∷ []) (many + 1)
more-links r choices takes links l many t a at is = record {
  as_many = length-push links l ∙ ap (λ n. n + 1) a.as_many;
  those = more (λ l t. LeadsTo r choices t l) takes links l many t a.as_many a.those at is;
}

-- no body
pub none-right : (ts : List (Rc Stored Global)) (ps : List (String Global)) (choices : BTreeMap (String Global) ComponentAt Global) (entries : List Linked) → entries ≡ [] → All (IsLinked (seen ts ps) choices) entries
none-right ts ps choices entries e =
    subst (All (IsLinked (seen ts ps) choices)) (sym e) (All-nil (IsLinked (seen ts ps) choices))

pub none-whole : (ts : List (Rc Stored Global)) (entries : List Linked) → ts ≡ [] → entries ≡ [] → map chunk_of entries ≡ listings (entries_of ts)
none-whole ts entries e f = rw (e, f) refl

pub none-starting : (ts : List (Rc Stored Global)) (starts : List ℕ) → ts ≡ [] → starts ≡ [] → AreStarts (entries_of ts) starts (length ts)
none-starting ts starts e f = rw (e, f) (record {
  as_many = refl;
  those = λ i n got. (let q : None ≡ Some n = got in cc);
})

-- links among templates that are lent
pub kept-right : (ts lent : List (Rc Stored Global)) (ps lent_ps : List (String Global)) (choices : BTreeMap (String Global) ComponentAt Global) (entries : List Linked) → lent ≡ ts → lent_ps ≡ ps → All (IsLinked (seen lent lent_ps) choices) entries → All (IsLinked (seen ts ps) choices) entries
kept-right ts lent ps lent_ps choices entries e f a = rw (e, f) at a

pub kept-whole : (ts lent : List (Rc Stored Global)) (entries : List Linked) → lent ≡ ts → map chunk_of entries ≡ listings (entries_of lent) → map chunk_of entries ≡ listings (entries_of ts)
kept-whole ts lent entries e a = a ∙ ap (λ l. listings (entries_of l)) e

pub kept-starting : (ts lent : List (Rc Stored Global)) (starts : List ℕ) → lent ≡ ts → AreStarts (entries_of lent) starts (length lent) → AreStarts (entries_of ts) starts (length ts)
kept-starting ts lent starts e a = rw e at a
