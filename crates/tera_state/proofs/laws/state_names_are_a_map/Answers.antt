use Rattle.tera_state.proofs.FoundNames.{state_names}
use Rattle.tera_state.proofs.laws.state_names_are_a_map.Goals as goal

pub returns : goal.returns
returns c = state_names
