use Rattle.std.proofs.Common.{◌≡◌, ◌++◌, drop}
use Rattle.tera_syntax_tree.specs.View.{entries_of, keys_of}
use Rattle.tera_code.specs.Code.{keys_in}
use Rattle.tera_code.proofs.single_instructions.keys.Given as goal

abbrev pub invariant-loop-entry : goal.invariant-loop-entry
invariant-loop-entry l =
    keys_of l.keys.items ++ keys_in (entries_of (drop l.entry-index l.entries)) ≡ keys_in (entries_of l.entries)
