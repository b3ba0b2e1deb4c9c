use Rattle.std.proofs.Common.{◌≡◌, true, take}
use Rattle.std.specs.List.{list_all}
use Rattle.tera_syntax_tree.specs.View.{key_option}
use Rattle.tera_operators.specs.Entries.{is_key_named}
use Rattle.tera_operators.proofs.map_entries.are_keys_named.Given as goal

abbrev pub invariant-loop-key : goal.invariant-loop-key
invariant-loop-key l = list_all (λ k. is_key_named l.names (key_option k)) (take l.key-index l.keys) ≡ true
