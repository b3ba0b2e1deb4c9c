-- What registering makes of a registry.
use Rattle.std.specs.Prelude.{◌≡◌, Some, None, Result, Ok, Err}
use Rattle.tera_errors.specs.Answer.{SeenError}
use Rattle.tera_state.specs.Engine.{Engine}
use Rattle.tera_state.specs.Kept.{Meanings, engine_of}
use Rattle.tera_state.specs.Moving.{with_those_of, MovedInPart}
use Rattle.tera_state.specs.declared.objects.caller_objects.ObjectsOver.{ObjectsOver}
use Rattle.tera_meaning.specs.Registry.{Registry, new_registry}
use Rattle.tera.specs.Configuring.{Configures}
use Rattle.tera.specs.Registry.{registry_of}
use Rattle.tera.specs.declared.engine.TeraOver.{TeraOver}

-- the registry with what this makes of its engine
abbrev pub with_engine : (Engine → Engine) → Registry → Registry
with_engine change r = record r { engine = change r.engine }

-- the registry of a new engine with these objects
abbrev pub new_registry_with : Engine → Registry
new_registry_with engine = record new_registry { engine = engine }

-- how a call ends that registers: with its engine changed like this, whatever the objects mean,
-- or with an error and the engine of before
abbrev pub Registers : {E F T G : Type 0} → Result (Unit {0}) SeenError
    → (Meanings E F T G → Engine → Engine)
    → TeraOver (ObjectsOver E F T G) → TeraOver (ObjectsOver E F T G) → Type 0
Registers {E} {F} {T} {G} result change old new = (m : Meanings E F T G) →
    let seen : TeraOver (ObjectsOver E F T G) → Registry = registry_of (engine_of m) in
    Configures result (Ok (with_engine (change m) (seen old))) (seen old) (seen new)

-- how a call ends that moves what another engine has: with all of it,
-- or for want of memory with the first of it
abbrev pub MovesFrom : Result (Unit {0}) SeenError → Engine → Registry → Registry → Type 0
MovesFrom (Ok u) other old new = new ≡ with_engine (with_those_of other) old
MovesFrom (Err (Some fault)) other old new = ⊥
MovesFrom (Err None) other old new =
    MovedInPart other old.engine new.engine × (new ≡ record old { engine = new.engine })
