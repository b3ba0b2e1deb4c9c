-- How a call ends whose kind is known.
use Rattle.std.proofs.Common.{◌≡◌}
use Rattle.tera.specs.declared.engine.TeraOver.{TeraOver}
use Rattle.tera.specs.Registry.{registry_of}
use Rattle.tera_state.specs.Kept.{Meanings, engine_of}
use Rattle.tera_state.specs.declared.objects.caller_objects.ObjectsOver.{ObjectsOver}
use Rattle.tera_calls.specs.declared.call.CallOver.{CallOver}
use Rattle.tera_calls.specs.Calls.{Answer, Ends}

-- as the engine says of that kind, whatever its objects mean
pub Ends-known : {E F T G : Type 0} (objects : Meanings E F T G) (call known : CallOver E F T G) (answer : Answer) (old left : TeraOver (ObjectsOver E F T G)) → call ≡ known
    → ((m : Meanings E F T G) → Ends m known answer (registry_of (engine_of m) old) (registry_of (engine_of m) left)) → Ends objects call answer (registry_of (engine_of objects) old) (registry_of (engine_of objects) left)
Ends-known objects call known answer old left is ends = rw is (ends objects)
