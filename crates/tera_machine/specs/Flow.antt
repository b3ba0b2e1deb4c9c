-- Where the machine goes on.
use Rattle.std.specs.Prelude.{ℕ, Bool, true}
use Rattle.tera_errors.specs.declared.span.Span.{Span}
use Rattle.tera_components.specs.Definition.{named_arguments}
use Rattle.tera_meaning.specs.Run.{Request, ABlock, Above, AnInclude, AComponent}
use Rattle.tera_machine.specs.declared.requests.BlockRequest.{BlockRequest}
use Rattle.tera_machine.specs.declared.requests.BlockRequest.TheVariants as asked
use Rattle.tera_machine.specs.declared.requests.ComponentRequest.{ComponentRequest}
use Rattle.tera_machine.specs.declared.requests.IncludeRequest.{IncludeRequest}
use Rattle.tera_machine.specs.declared.requests.Request as requested
use Rattle.tera_machine.specs.declared.requests.Request.TheVariants as request
use Rattle.tera_machine.specs.declared.machine.Flow as declared
use Rattle.tera_machine.specs.declared.machine.Flow.TheVariants as flow

-- what is made of another body's text: it is written, or a value on top of the operands, which may
-- be marked safe
pub data Use : Type 0 where
  Written : Use
  Pushed : (safe : Bool) (span : Span) → Use

-- at the next instruction; so many behind that; so many behind a position; at the end; or at the next
-- one, when another body was run
pub data Flow : Type 0 where
  On : Flow
  Skip : (count : ℕ) → Flow
  To : (place : ℕ) (count : ℕ) → Flow
  Out : Flow
  Ask : (request : Request) (use' : Use) → Flow

-- what is requested of a block, and what is made of its text
abbrev pub block_request : BlockRequest → Request
block_request (asked.Block name span) = ABlock name.now span
block_request (asked.Super span) = Above span

abbrev pub block_use : BlockRequest → Use
block_use (asked.Block name span) = Written
block_use (asked.Super span) = Pushed true span

-- the same for a template that is included, whose text is written
abbrev pub include_request : IncludeRequest → Request
include_request a = AnInclude a.name.now a.span

-- the same for a component
abbrev pub component_request : ComponentRequest → Request
component_request a = AComponent a.name.now (named_arguments a.given) a.body a.span

abbrev pub component_use : ComponentRequest → Use
component_use a = Pushed a.safe a.span

-- what is requested of any body, and what is made of its text
abbrev pub request_of : requested.Request → Request
request_of (request.Block name span) = ABlock name.now span
request_of (request.Super span) = Above span
request_of (request.Include name span) = AnInclude name.now span
request_of (request.Component a) = component_request a.value

abbrev pub use_of : requested.Request → Use
use_of (request.Block name span) = Written
use_of (request.Super span) = Pushed true span
use_of (request.Include name span) = Written
use_of (request.Component a) = component_use a.value

-- what instructions come to
abbrev pub flow_of : declared.Flow → Flow
flow_of flow.On = On
flow_of (flow.Skip count) = Skip count
flow_of (flow.To place count) = To place count
flow_of flow.Out = Out
flow_of (flow.Call r) = Ask (request_of r) (use_of r)
