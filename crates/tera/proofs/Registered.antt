-- What registering leaves of a registry.
use Rattle.std.proofs.Common.{◌≡◌, List, [], Some, None, Result, Ok, Err, OnOk, OnErr, IfErr, refl, sym, ap, subst}
use Rattle.tera_errors.specs.Answer.{SeenError, Gives, Lacks}
use Rattle.tera_errors.specs.Site.{Text}
use Rattle.tera_syntax_tree.specs.Delimiters.{Delims, standard}
use Rattle.tera_values.specs.Val.{Val}
use Rattle.tera_values.specs.Named.{Named}
use Rattle.tera_state.specs.Engine.{Engine, standard_engine}
use Rattle.tera_state.specs.Kept.{Meanings, engine_of}
use Rattle.tera_state.specs.Moving.{with_those_of, MovedInPart}
use Rattle.tera_state.specs.declared.objects.caller_objects.ObjectsOver.{ObjectsOver}
use Rattle.tera_meaning.specs.Registry.{Template, Registry, new_registry, standard_suffixes}
use Rattle.tera.specs.declared.engine.TeraOver.{TeraOver}
use Rattle.tera.specs.Configuring.{Configures}
use Rattle.tera.specs.Registering.{with_engine, new_registry_with, MovesFrom}
use Rattle.tera.specs.Registry.{registry_of}

-- the registry of these parts
abbrev pub parts : Named Template → List Text → List Text → Delims → Named Val → Engine → Registry
parts ts ps ss d global e =
    record { templates = ts; prefixes = ps; suffixes = ss; delimiters = d; global = global; engine = e }

-- the registry with this engine
abbrev at_engine : Registry → Engine → Registry
at_engine r e = record r { engine = e }

module _ (r : Registry) (left : Engine) where
  configures : (change : Engine → Engine) (result : Result (Unit {0}) SeenError) → OnOk result (left ≡ change r.engine) → OnErr result (left ≡ r.engine) → IfErr result Lacks → Configures result (Ok (with_engine change r)) r (at_engine r left)
  configures change (Ok u) ok err lacks = ap (λ e. Ok (at_engine r e)) (sym ok)
  configures change (Err None) ok err lacks = (tt, ap (at_engine r) err)
  configures change (Err (Some fault)) ok err lacks = (let q : Some fault ≡ None = lacks in cc)

  moves : (other : Engine) (result : Result (Unit {0}) SeenError) → OnOk result (left ≡ with_those_of other r.engine) → OnErr result (MovedInPart other r.engine left) → IfErr result Lacks → MovesFrom result other r (at_engine r left)
  moves other (Ok u) ok err lacks = ap (at_engine r) ok
  moves other (Err None) ok err lacks = (err, refl)
  moves other (Err (Some fault)) ok err lacks = (let q : Some fault ≡ None = lacks in cc)

-- an engine whose objects are these from now on, where they mean this
module _ {E F T G : Type 0} (t : TeraOver (ObjectsOver E F T G)) (left : ObjectsOver E F T G) (m : Meanings E F T G) where
  pub escapes-by : (change : Meanings E F T G → Engine → Engine) → ((n : Meanings E F T G) → engine_of n left ≡ change n (engine_of n t.objects)) → registry_of (engine_of m) (record t { objects = left }) ≡ with_engine (change m) (registry_of (engine_of m) t)
  escapes-by change is = ap (at_engine (registry_of (engine_of m) t)) (is m)

  pub registers : (change : Meanings E F T G → Engine → Engine) (result : Result (Unit {0}) SeenError) → ((n : Meanings E F T G) → OnOk result (engine_of n left ≡ change n (engine_of n t.objects)))
      → ((n : Meanings E F T G) → OnErr result (engine_of n left ≡ engine_of n t.objects)) → IfErr result Lacks
      → Configures result (Ok (with_engine (change m) (registry_of (engine_of m) t))) (registry_of (engine_of m) t) (registry_of (engine_of m) (record t { objects = left }))
  registers change result ok err lacks =
      configures (registry_of (engine_of m) t) (engine_of m left) (change m) result (ok m) (err m) lacks

  pub takes-from : (other taken : ObjectsOver E F T G) (result : Result (Unit {0}) SeenError) → taken ≡ other → ((n : Meanings E F T G) → OnOk result (engine_of n left ≡ with_those_of (engine_of n taken) (engine_of n t.objects)))
      → ((n : Meanings E F T G) → OnErr result (MovedInPart (engine_of n taken) (engine_of n t.objects) (engine_of n left))) → IfErr result Lacks
      → MovesFrom result (engine_of m other) (registry_of (engine_of m) t) (registry_of (engine_of m) (record t { objects = left }))
  takes-from other taken result is ok err lacks =
      let P : ObjectsOver E F T G → Type 0 = λ o. MovesFrom result (engine_of m o) (registry_of (engine_of m) t) (registry_of (engine_of m) (record t { objects = left })) in
      subst P is (moves (registry_of (engine_of m) t) (engine_of m left) (engine_of m taken) result (ok m) (err m) lacks)

-- a registry is new where each of its parts is but the engine
pub is-new : (ts : Named Template) (ps ss : List Text) (d : Delims) (global : Named Val) (e : Engine) → ts ≡ [] → ps ≡ [] → ss ≡ standard_suffixes → d ≡ standard → global ≡ [] → new_registry_with e ≡ parts ts ps ss d global e
is-new ts ps ss d global e no_templates no_prefixes html tags empty =
    rw (no_templates, no_prefixes, html, tags, empty) refl

-- and an engine without objects is that of a new registry
pub is-standard : {X : Type 0} (seen : X → Registry) (result : Result X SeenError) (e : Engine) → e ≡ standard_engine → Gives seen result (Ok (new_registry_with e)) → Gives seen result (Ok new_registry)
is-standard seen result e none = subst (λ e. Gives seen result (Ok (new_registry_with e))) none
