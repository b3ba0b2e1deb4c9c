use Rattle.std.proofs.Common.{◌≡◌, ◌++◌, drop}
use Rattle.tera_syntax_tree.specs.View.{keys_of}
use Rattle.tera_code.proofs.packed.copy_keys.Given as goal

abbrev pub invariant-loop-key : goal.invariant-loop-key
invariant-loop-key l =
    keys_of l.all.items ++ keys_of (drop l.key-index l.keys) ≡ keys_of l.keys
