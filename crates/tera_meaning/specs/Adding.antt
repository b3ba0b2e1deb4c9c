-- A batch of templates that is added.
use Rattle.std.specs.Prelude.{Option, Some, None, Result, Ok, Err}
use Rattle.tera_errors.specs.Fault.{Fault}
use Rattle.tera_values.specs.Named.{Named, put_all}
use Rattle.tera_meaning.specs.Registry.{Template, Registry}
use Rattle.tera_meaning.specs.Accepted.{fault}

abbrev pub unless_faulty : Registry → Option Fault → Result Registry Fault
unless_faulty r None = Ok r
unless_faulty r (Some fault) = Err fault

-- a registry, or the fault that refuses it
abbrev pub accepted : Registry → Result Registry Fault
accepted r = unless_faulty r (fault r)

-- The registry after a batch, or the fault that refuses it, where this is what reading the batch
-- answered: its templates in their order, or the first fault of a text. Of templates with one name
-- the last stays.
abbrev pub added : Registry → Result (Named Template) Fault → Result Registry Fault
added r (Err fault) = Err fault
added r (Ok batch) = accepted (record r { templates = put_all batch r.templates })
