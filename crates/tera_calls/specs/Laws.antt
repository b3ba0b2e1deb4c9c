-- What holds of calls one after another.
use Rattle.std.specs.Prelude.{◌≡◌, ℕ, List, Some, Err}
use Rattle.std.specs.Borrow.{Bor}
use Rattle.tera_errors.specs.Fault.{Fault}
use Rattle.tera_errors.specs.Answer.{SeenError}
use Rattle.tera_state.specs.Kept.{Meanings}
use Rattle.tera_meaning.specs.Registry.{Registry}
use Rattle.tera_meaning.specs.Laws.{IsAccepted}
use Rattle.tera_calls.specs.Calls.{Answer, Ends, Leads}
use Rattle.tera_calls.specs.declared.call.CallOver.{CallOver}
use Rattle.tera_calls.specs.declared.call.CallOver.TheVariants.{AddRawTemplates}

-- Each call, whatever it answers, leads from a registry that is accepted to one that is, and so do
-- calls one after another.
pub record CallsKeepAcceptance (E F T G : Type 0) : Type 0 where
  pub one : (objects : Meanings E F T G) (call : CallOver E F T G) (answer : Answer)
      (now next : Registry)
      → Ends objects call answer now next → IsAccepted now → IsAccepted next
  pub all : (objects : Meanings E F T G) (calls : List (CallOver E F T G)) (answers : List Answer)
      (now last : Registry)
      → Leads objects now calls answers last → IsAccepted now → IsAccepted last

-- A call that is refused with a fault changes nothing. Nor does a batch, whatever refuses it and
-- whatever its names are, with one of them in it twice too.
pub record RefusedCallsChangeNothing (E F T G : Type 0) : Type 0 where
  pub with_a_fault : (objects : Meanings E F T G) (call : CallOver E F T G) (fault : Fault)
      (now next : Registry)
      → Ends objects call (Err (Some fault)) now next → next ≡ now
  pub batch : (objects : Meanings E F T G) (templates : Bor (List (Bor (List ℕ) × Bor (List ℕ))))
      (error : SeenError) (now next : Registry)
      → Ends objects (AddRawTemplates templates) (Err error) now next → next ≡ now
