use Rattle.tera_job.proofs.Unsafe.{data_is_unsafe}
use Rattle.tera_job.proofs.laws.data_is_unsafe.Goals as goal

pub returns : goal.returns
returns c = data_is_unsafe
