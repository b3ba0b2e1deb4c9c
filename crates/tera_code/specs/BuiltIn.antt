-- What an instruction tells of the filter or the test that it applies, where one that is built in
-- has the name: that one, the name, and the names of the arguments.
use Rattle.std.specs.Prelude.{List, Option, None, option_map}
use Rattle.tera_errors.specs.Site as site
use Rattle.tera_errors.specs.declared.span.Span.{Span}
use Rattle.tera_built_ins.specs.declared.built_in_filter.BuiltInFilter.{BuiltInFilter}
use Rattle.tera_built_ins.specs.declared.built_in_test.BuiltInTest.{BuiltInTest}
use Rattle.tera_built_ins.specs.Filters.{filter_named}
use Rattle.tera_built_ins.specs.TestTable.{test_named}
use Rattle.tera_code.specs.declared.instruction.Instruction.{Instruction}
use Rattle.tera_code.specs.declared.instruction.Instruction.TheVariants as instruction

abbrev pub built_in_filter : Instruction
    → Option (BuiltInFilter × site.Name × List site.Name × Span)
built_in_filter (instruction.ApplyFilter name arguments span) =
    option_map (λ f. (f, name, arguments, span)) (filter_named name)
built_in_filter other = None

abbrev pub built_in_test : Instruction → Option (BuiltInTest × site.Name × List site.Name × Span)
built_in_test (instruction.ApplyTest name arguments span) =
    option_map (λ t. (t, name, arguments, span)) (test_named name)
built_in_test other = None
