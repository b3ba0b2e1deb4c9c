use Rattle.tera_job.proofs.Stems.{is_stem}
use Rattle.tera_job.proofs.path.stem.Goals as goal

pub returns : goal.returns
returns c = is_stem c.args.suffix.now c.args.name.now _ c.strip_suffix.ensures.cases
