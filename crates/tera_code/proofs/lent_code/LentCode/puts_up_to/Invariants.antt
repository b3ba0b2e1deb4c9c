use Rattle.std.proofs.Common.{◌≡◌, ◌+◌}
use Rattle.tera_code.specs.Printing.{puts_up_to}
use Rattle.tera_code.proofs.lent_code.LentCode.puts_up_to.Given as goal

abbrev pub invariant-loop-left : goal.invariant-loop-left
invariant-loop-left l =
    (puts_up_to l.name l.self l.left l.position ≡ puts_up_to l.name l.self l.count l.at)
    × (l.position + l.left ≡ l.at + l.count)

abbrev pub decreases-loop-left : goal.decreases-loop-left
decreases-loop-left l = l.left
