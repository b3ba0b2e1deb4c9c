use Rattle.tera_job.proofs.OwnMarkup.{markup_is_none_of_the_data}
use Rattle.tera_job.proofs.laws.markup_is_none_of_the_data.Goals as goal

pub returns : goal.returns
returns c = markup_is_none_of_the_data
