-- What templates need of others: what they call that is not built in.
use Rattle.std.specs.Prelude.{Bool, false, not, is_some, List, ◌++◌, Option, Some, None, option_and_then, if◌then◌else◌}
use Rattle.std.specs.List.{filter_map, flat_map}
use Rattle.tera_errors.specs.Site.{Name}
use Rattle.tera_syntax_tree.specs.Tree.{Nodes, Tree}
use Rattle.tera_syntax_tree.specs.Calls.{Callee, AFilter, ATest, AFunction, AComponent, ATemplate, calls}
use Rattle.tera_built_ins.specs.Filters.{filter_named}
use Rattle.tera_built_ins.specs.TestTable.{test_named}
use Rattle.tera_built_ins.specs.FunctionTable.{function_named}
use Rattle.tera_code.specs.declared.instruction.Instruction.{Instruction}
use Rattle.tera_code.specs.Listing.{Listing}
use Rattle.tera_code.specs.Code.{Code}
use Rattle.tera_code.specs.Called.{called_by}
use Rattle.tera_meaning.specs.Known.{bodies}
use Rattle.tera_meaning.specs.Registry.{Entry, Registry}
use Rattle.tera_meaning.specs.Resolve.{resolve}
use Rattle.tera_registry.specs.declared.code.TemplateBlock.{TemplateBlock}
use Rattle.tera_registry.specs.declared.components.Component.{Component}
use Rattle.tera_registry.specs.declared.outside_calls.OutsideCall.{OutsideCall}
use Rattle.tera_registry.specs.declared.outside_calls.OutsideCall.TheVariants as need

-- no component and no template is
abbrev pub is_built_in : Callee → Bool
is_built_in (AFilter name) = is_some (filter_named name)
is_built_in (ATest name) = is_some (test_named name)
is_built_in (AFunction name) = is_some (function_named name)
is_built_in (AComponent name) = false
is_built_in (ATemplate name) = false

-- what is called, as templates keep it, and back
abbrev pub as_need : Callee → OutsideCall
as_need (AFilter name) = need.Filter name
as_need (ATest name) = need.Test name
as_need (AFunction name) = need.Function name
as_need (AComponent name) = need.Component name
as_need (ATemplate name) = need.Template name

abbrev pub callee_needed : OutsideCall → Callee
callee_needed (need.Filter name) = AFilter name
callee_needed (need.Test name) = ATest name
callee_needed (need.Function name) = AFunction name
callee_needed (need.Component name) = AComponent name
callee_needed (need.Template name) = ATemplate name

abbrev pub need_of : Callee → Option OutsideCall
need_of callee = if is_built_in callee then None else Some (as_need callee)

-- what a body itself needs
abbrev pub nodes_need : Nodes → List OutsideCall
nodes_need body = filter_map need_of (calls body)

-- what a template needs, in its own body, those of its blocks and those of its components
abbrev pub needs_of : Tree → List OutsideCall
needs_of tree = flat_map nodes_need (bodies tree)

-- whether what is needed is not there
abbrev pub is_missing_call : (Callee → Bool) → OutsideCall → Bool
is_missing_call known needed = not (known (callee_needed needed))

-- the name of the template that is needed, where one is
abbrev pub template_needed : OutsideCall → Option Name
template_needed (need.Template name) = Some name
template_needed _ = None

-- the template that is included, as far as it is there
abbrev pub included_by : Registry → OutsideCall → Option Entry
included_by r needed = option_and_then (resolve r) (template_needed needed)

-- what code needs
abbrev pub needed_by : Instruction → Option OutsideCall
needed_by i = option_and_then need_of (called_by i)

abbrev pub code_needs : Code → List OutsideCall
code_needs = filter_map needed_by

-- what the code of a body needs, then that of blocks, then that of components
abbrev pub bodies_need : Listing → List TemplateBlock → List Component → List OutsideCall
bodies_need body blocks components =
    (code_needs body.code ++ flat_map (λ b. code_needs b.code.value.chunk.code) blocks)
    ++ flat_map (λ c. code_needs c.code.value.chunk.code) components
