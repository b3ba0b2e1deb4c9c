pub mod Lent
pub mod Registry
pub mod Rendering
pub mod Budget
pub mod Configuring
pub mod Lending
pub mod Registering
pub mod FixedText
pub mod PageLaws
-- What its contracts and those of the types that it passes on speak of besides: a caller names it
-- from here, and lists `tera` alone. Where two crates have a file of one name, it is told apart by
-- what it is about.

-- answers and faults
pub use Rattle.tera_errors.specs.Site
pub use Rattle.tera_errors.specs.Fault
pub use Rattle.tera_errors.specs.Answer
pub use Rattle.tera_errors.specs.Report
pub use Rattle.tera_errors.specs.Places as ErrorPlaces
pub use Rattle.tera_errors.specs.Kind
-- trees, and the texts that spell them
pub use Rattle.tera_syntax_tree.specs.Delimiters
pub use Rattle.tera_syntax_tree.specs.Tree
pub use Rattle.tera_syntax_tree.specs.View as TreeView
pub use Rattle.tera_syntax_tree.specs.Blocks
pub use Rattle.tera_syntax_tree.specs.Definitions
pub use Rattle.tera_syntax_tree.specs.Depth
pub use Rattle.tera_syntax_tree.specs.Inside
pub use Rattle.tera_syntax.specs.Grammar
pub use Rattle.tera_syntax.specs.Spells
pub use Rattle.tera_syntax.specs.Reads
pub use Rattle.tera_syntax.specs.TreeRead
pub use Rattle.tera_syntax.specs.Laws as SyntaxLaws
pub use Rattle.tera_syntax_tree.specs.Free
pub use Rattle.tera_syntax_tree.specs.Sets
-- values, contexts and arguments
pub use Rattle.tera_value_types.specs.Alphabet
pub use Rattle.tera_value_types.specs.Val
pub use Rattle.tera_value_types.specs.Coding
pub use Rattle.tera_value_types.specs.View as ValueView
pub use Rattle.tera_value_types.specs.Shape
pub use Rattle.tera_value_types.specs.Falls
pub use Rattle.tera_value_types.specs.Keys
pub use Rattle.tera_value_types.specs.Index
pub use Rattle.tera_value_types.specs.Access
pub use Rattle.tera_value_types.specs.Items
pub use Rattle.tera_value_types.specs.Paths
pub use Rattle.tera_value_types.specs.Slices
pub use Rattle.tera_value_types.specs.Order
pub use Rattle.tera_value_types.specs.Finite
pub use Rattle.tera_value_types.specs.Printed
pub use Rattle.tera_value_types.specs.Escape
pub use Rattle.tera_value_types.specs.Laws as OrderLaws
pub use Rattle.tera_value_types.specs.Promises
pub use Rattle.tera_values.specs.Named
pub use Rattle.tera_values.specs.Names
pub use Rattle.tera_values.specs.Naming
pub use Rattle.tera_values.specs.Contexts
pub use Rattle.tera_values.specs.Arguments
pub use Rattle.tera_values.specs.Number
pub use Rattle.tera_values.specs.Division
-- what is built in, and operators
pub use Rattle.tera_built_ins.specs.Escaping
pub use Rattle.tera_built_ins.specs.Filters
pub use Rattle.tera_built_ins.specs.TestTable
pub use Rattle.tera_built_ins.specs.FunctionTable
pub use Rattle.tera_built_ins.specs.Tests
pub use Rattle.tera_built_ins.specs.Laws as BuiltInLaws
pub use Rattle.tera_operators.specs.Operand
pub use Rattle.tera_operators.specs.Accesses
pub use Rattle.tera_operators.specs.Operators
pub use Rattle.tera_operators.specs.Literals
pub use Rattle.tera_operators.specs.Entries
pub use Rattle.tera_operators.specs.Calls
-- states, and the objects of the caller
pub use Rattle.tera_state.specs.Topmost
pub use Rattle.tera_state.specs.Items as LoopItems
pub use Rattle.tera_state.specs.Lending as LoopLending
pub use Rattle.tera_state.specs.Opened
pub use Rattle.tera_state.specs.Scope
pub use Rattle.tera_state.specs.Scopes
pub use Rattle.tera_state.specs.FoundValue
pub use Rattle.tera_state.specs.Rendered
pub use Rattle.tera_state.specs.View
pub use Rattle.tera_state.specs.Engine
pub use Rattle.tera_state.specs.Calling
pub use Rattle.tera_state.specs.Called
pub use Rattle.tera_state.specs.Table
pub use Rattle.tera_state.specs.Taken
pub use Rattle.tera_state.specs.Kept
pub use Rattle.tera_state.specs.Moving
pub use Rattle.tera_state.specs.Stored
pub use Rattle.tera_state.specs.Laws as ObjectLaws
-- components
pub use Rattle.tera_components.specs.Context as ComponentContext
pub use Rattle.tera_components.specs.Definition
-- what templates mean, and where the markup of a rendering comes from
pub use Rattle.tera_meaning.specs.Run
pub use Rattle.tera_meaning.specs.Here
pub use Rattle.tera_meaning.specs.Meaning
pub use Rattle.tera_meaning.specs.Registry as MeaningRegistry
pub use Rattle.tera_meaning.specs.Resolve
pub use Rattle.tera_meaning.specs.Lineage
pub use Rattle.tera_meaning.specs.Components
pub use Rattle.tera_meaning.specs.Known
pub use Rattle.tera_meaning.specs.Accepted
pub use Rattle.tera_meaning.specs.Adding
pub use Rattle.tera_meaning.specs.Whole
pub use Rattle.tera_meaning.specs.Rendering as MeaningRendering
pub use Rattle.tera_meaning.specs.Variables
pub use Rattle.tera_meaning.specs.Laws as MeaningLaws
pub use Rattle.tera_meaning.specs.Circles
pub use Rattle.tera_meaning.specs.BodyLaws
pub use Rattle.tera_meaning.specs.Marks.Origin
pub use Rattle.tera_meaning.specs.Marks.Sources
pub use Rattle.tera_meaning.specs.Marks.Renderings
pub use Rattle.tera_meaning.specs.Marks.Foreign
-- code, the templates that are kept, and the machine
pub use Rattle.tera_code.specs.Constant
pub use Rattle.tera_code.specs.Packed
pub use Rattle.tera_code.specs.Listing
pub use Rattle.tera_code.specs.Code
pub use Rattle.tera_code.specs.Blocks as CodeBlocks
pub use Rattle.tera_code.specs.InstructionParts
pub use Rattle.tera_code.specs.Printing as CodePrinting
pub use Rattle.tera_code.specs.Called as CodeCalled
pub use Rattle.tera_code.specs.Targets
pub use Rattle.tera_registry.specs.Batch
pub use Rattle.tera_registry.specs.Templates
pub use Rattle.tera_registry.specs.Order as RegistryOrder
pub use Rattle.tera_registry.specs.Kept as RegistryKept
pub use Rattle.tera_registry.specs.Components as RegistryComponents
pub use Rattle.tera_registry.specs.Places
pub use Rattle.tera_registry.specs.Choices
pub use Rattle.tera_registry.specs.OutsideCalls
pub use Rattle.tera_registry.specs.Links
pub use Rattle.tera_registry.specs.Takes
pub use Rattle.tera_registry.specs.Bodies
pub use Rattle.tera_registry.specs.Numbers
pub use Rattle.tera_registry.specs.References
pub use Rattle.tera_registry.specs.HandedOut
pub use Rattle.tera_machine.specs.Layers
pub use Rattle.tera_machine.specs.Config
pub use Rattle.tera_machine.specs.OpenThings
pub use Rattle.tera_machine.specs.Subject
pub use Rattle.tera_machine.specs.WantedBlock
pub use Rattle.tera_machine.specs.Bodies as MachineBodies
pub mod Prelude
