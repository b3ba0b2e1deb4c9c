-- Instructions that call by name.
use Rattle.std.specs.Prelude.{List, [], ◌∷◌, ◌++◌}
use Rattle.tera_errors.specs.Site as site
use Rattle.tera_errors.specs.declared.span.Span.{Span}
use Rattle.tera_syntax_tree.specs.declared.expression.Applied.{Applied, out-Applied}
use Rattle.tera_syntax_tree.specs.declared.expression.ComponentTag.{ComponentTag, out-ComponentTag}
use Rattle.tera_syntax_tree.specs.View.{expr_of, arguments_of, entries_of}
use Rattle.tera_code.specs.Code.{Code, expr_code, arguments_code, argument_names, handed_code}
use Rattle.tera_code.specs.declared.call_kind.CallKind.{CallKind}
use Rattle.tera_code.specs.declared.call_kind.CallKind.TheVariants as kind
use Rattle.tera_code.specs.declared.instruction.Instruction.{Instruction}
use Rattle.tera_code.specs.declared.instruction.Instruction.TheVariants as instruction

-- the instruction that calls by this name with arguments of these names
abbrev pub call_of : CallKind → site.Name → List site.Name → Span → Instruction
call_of kind.Filter = instruction.ApplyFilter
call_of kind.Test = instruction.ApplyTest
call_of kind.Function = instruction.CallFunction

-- a value, arguments, and what calls with both
abbrev pub applied_code : CallKind → Applied → Span → Code
applied_code k a span =
    let parts = out-Applied a in
    let all = arguments_of parts.arguments.items in
    expr_code (expr_of parts.value)
    ++ (arguments_code all ++ call_of k parts.name.now (argument_names all) span ∷ [])

-- the component of a tag is handed the text on top of the operands
abbrev pub handed_to : ComponentTag → Span → Code
handed_to t span =
    let parts = out-ComponentTag t in
    handed_code parts.name.now (entries_of parts.attributes.items) span
