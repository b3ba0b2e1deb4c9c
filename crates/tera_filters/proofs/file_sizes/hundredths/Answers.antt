use Rattle.tera_filters.proofs.Measuring.{hundredths-is}
use Rattle.tera_filters.proofs.file_sizes.hundredths.Goals as goal

-- src/file_sizes.rt
pub returns : goal.returns
returns c = hundredths-is c.args.number c.args.size c.requires.low
