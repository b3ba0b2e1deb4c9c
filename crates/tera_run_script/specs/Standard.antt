-- Readers and writers as inputs and outputs.
use Rattle.tera_run_script.specs.Passage.{Passage}
use Rattle.tera_run_script.specs.declared.standard.Standard.{Standard}

-- the reader or the writer, where it stands
abbrev pub device_inside : {D : Type 0} → Standard D → D
device_inside s = s.device

-- what went through it
abbrev pub passed_through : {D : Type 0} → Standard D → Passage
passed_through s = record { bytes = s.trace.bytes; failures = s.trace.failures }
