-- What is registered, as it is kept.
use Rattle.std.specs.Prelude.{◌≡◌, map, Result, OnOk, OnErr, IfErr}
use Rattle.tera_errors.specs.Answer.{SeenError, Lacks}
use Rattle.tera_errors.specs.Site.{Text}
use Rattle.tera_values.specs.Named.{Named}
use Rattle.tera_built_ins.specs.Escaping.{escape_or_html}
use Rattle.tera_state.specs.Engine.{Engine, OwnFilter, OwnTest, OwnFunction}
use Rattle.tera_state.specs.Table.{listed}
use Rattle.tera_state.specs.declared.objects.caller_objects.ObjectsOver.{ObjectsOver}

-- what objects of the caller mean, of each kind
pub record Meanings (E F T G : Type 0) : Type 0 where
  pub escape : E → Text → Text
  pub filter : F → OwnFilter
  pub test : T → OwnTest
  pub function : G → OwnFunction

-- what stands at the names means this
abbrev pub each : {A B : Type 0} → (A → B) → Named A → Named B
each meaning here = map (λ e. (e.0, meaning e.1)) here

-- An escape that is left out is that of HTML.
abbrev pub engine_of : {E F T G : Type 0} → Meanings E F T G → ObjectsOver E F T G → Engine
engine_of m o =
    record {
      escape = escape_or_html m.escape o.escape;
      filters = each m.filter (listed o.filters.table);
      tests =
          each m.test (listed o.tests);
      functions = each m.function (listed o.functions);
    }

-- A call that registers: when it is done the engine is changed like this, whatever the objects
-- mean; refused for want of memory, it is as it was.
pub record Registers {E F T G : Type 0} (result : Result (Unit {0}) SeenError)
    (old new : ObjectsOver E F T G) (change : Meanings E F T G → Engine → Engine) : Type 0 where
  pub ok : (m : Meanings E F T G) → OnOk result (engine_of m new ≡ change m (engine_of m old))
  pub err : (m : Meanings E F T G) → OnErr result (engine_of m new ≡ engine_of m old)
  pub lacks : IfErr result Lacks
