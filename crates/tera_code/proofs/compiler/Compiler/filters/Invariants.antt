use Rattle.std.proofs.Common.{◌≡◌, drop}
use Rattle.tera_syntax_tree.specs.View.{filters_of}
use Rattle.tera_code.specs.Code.{filters_code, lengthened}
use Rattle.tera_code.proofs.compiler.Compiler.filters.Given as goal

abbrev pub invariant-loop-filter : goal.invariant-loop-filter
invariant-loop-filter l =
    lengthened l.self (filters_code (filters_of (drop l.filter-index l.filters))) ≡ lengthened l.initial.self (filters_code (filters_of l.filters))
