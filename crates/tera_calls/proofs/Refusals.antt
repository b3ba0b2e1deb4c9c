-- Calls that are refused.
use Rattle.std.proofs.Common.{◌≡◌, Some, Err}
use Rattle.tera_errors.specs.Fault.{Fault}
use Rattle.tera_state.specs.Kept.{Meanings}
use Rattle.tera_meaning.specs.Registry.{Registry}
use Rattle.tera_calls.specs.declared.call.CallOver.{CallOver}
use Rattle.tera_calls.specs.declared.call.CallOver.TheVariants.{SetDelimiters, SetFallbackPrefixes, AutoescapeOn, InsertGlobal, SetGlobal, AddRawTemplate, AddRawTemplates, SetEscapeFn, ResetEscapeFn, RegisterFilter, RegisterTest, RegisterFunction, RegisterFrom}
use Rattle.tera_calls.specs.Calls.{Ends}
use Rattle.tera_calls.specs.Laws.{RefusedCallsChangeNothing}

module _ {E F T G : Type 0} (objects : Meanings E F T G) (fault : Fault) (now next : Registry) where
  unchanged : (call : CallOver E F T G) → Ends objects call (Err (Some fault)) now next → next ≡ now
  unchanged (SetDelimiters delimiters) e = e.1
  unchanged (SetFallbackPrefixes prefixes) e = e.1
  unchanged (AutoescapeOn suffixes) e = e.1
  unchanged (InsertGlobal name value) e = e.1
  unchanged (SetGlobal context) e = e.1
  unchanged (AddRawTemplate name content) e = e.1
  unchanged (AddRawTemplates templates) e = e.1
  unchanged (SetEscapeFn escape) e = e.1
  unchanged ResetEscapeFn e = e.1
  unchanged (RegisterFilter name filter) e = e.1
  unchanged (RegisterTest name test) e = e.1
  unchanged (RegisterFunction name function) e = e.1
  unchanged (RegisterFrom other) e = absurd e

pub refused_calls_change_nothing : {E F T G : Type 0} → RefusedCallsChangeNothing E F T G
refused_calls_change_nothing = record {
  with_a_fault = λ objects call fault now next e. unchanged objects fault now next call e;
  batch = λ objects templates error now next e. e.1;
}
