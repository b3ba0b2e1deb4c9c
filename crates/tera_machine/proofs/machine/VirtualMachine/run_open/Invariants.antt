use Rattle.std.proofs.Common.{◌≡◌, ◌+◌, ◌-◌, ◌*◌, length}
use Rattle.tera_registry.specs.HandedOut.{code_of}
use Rattle.tera_machine.specs.Subject.{Belong}
use Rattle.tera_machine.specs.Open.{Running}
use Rattle.tera_machine.proofs.machine.VirtualMachine.run_open.Given as goal

abbrev pub invariant-bodies : goal.invariant-bodies
invariant-bodies g l =
    (l.cursor.chunk.now ≡ code_of l.body)
    × (Belong g.M.Limit.world l.machine l.body l.blocks
    × (Running g.M.Limit.most g.M.Limit.world (record { machine = l.self; code = code_of l.fn.first; blocks = l.fn.blocks; configuration = l.fn.configuration; count = l.fn.steps }) l.open l.machine l.cursor.chunk.now l.cursor.at l.blocks l.configuration l.cursor.steps.now
    × (l.cursor.steps.ghost_name ≡ l.initial.cursor.steps.ghost_name)))

abbrev pub decreases-bodies : goal.decreases-bodies
decreases-bodies g l = 2 * (g.M.Limit.most - l.cursor.steps.now) + length l.open
