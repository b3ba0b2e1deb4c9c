use Rattle.std.proofs.Common.{◌-◌, length}
use Rattle.tera_machine.proofs.paths.+attributes.Given as goal

abbrev pub decreases-attributes : goal.decreases-attributes
decreases-attributes g l = length l.cursor.now.chunk.now.code - l.cursor.now.at
