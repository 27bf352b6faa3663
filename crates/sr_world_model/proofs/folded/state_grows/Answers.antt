use Rattle.sr_world_model.proofs.Machinery.{state_from-more, state_from-append}
use Rattle.sr_world_model.proofs.folded.state_grows.Goals as goal

pub returns-clause-one_more : goal.returns-clause-one_more
returns-clause-one_more g c = state_from-more

pub returns-clause-joined : goal.returns-clause-joined
returns-clause-joined g c = state_from-append
