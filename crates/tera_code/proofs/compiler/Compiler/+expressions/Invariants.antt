use Rattle.std.proofs.Common.{◌≡◌, drop}
use Rattle.tera_syntax_tree.specs.View.{items_of, entries_of, arguments_of}
use Rattle.tera_code.specs.Code.{items_code, entries_code, arguments_code, lengthened}
use Rattle.tera_code.proofs.compiler.Compiler.+expressions.Given as goal

abbrev pub invariant-array-loop-item : goal.invariant-array-loop-item
invariant-array-loop-item l =
    lengthened l.self (items_code (items_of (drop l.item-index l.items))) ≡ lengthened l.initial.self (items_code (items_of l.items))

abbrev pub invariant-entries-loop-entry : goal.invariant-entries-loop-entry
invariant-entries-loop-entry l =
    lengthened l.self (entries_code (entries_of (drop l.entry-index l.entries))) ≡ lengthened l.initial.self (entries_code (entries_of l.entries))

abbrev pub invariant-arguments-loop-argument : goal.invariant-arguments-loop-argument
invariant-arguments-loop-argument l =
    lengthened l.self (arguments_code (arguments_of (drop l.argument-index l.arguments))) ≡ lengthened l.initial.self (arguments_code (arguments_of l.arguments))
