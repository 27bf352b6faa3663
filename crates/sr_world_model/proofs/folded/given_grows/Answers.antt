use Rattle.sr_world_model.proofs.Machinery.{given_from-more, given_from-append}
use Rattle.sr_world_model.proofs.folded.given_grows.Goals as goal

pub returns-clause-one_more : goal.returns-clause-one_more
returns-clause-one_more g c = given_from-more

pub returns-clause-joined : goal.returns-clause-joined
returns-clause-joined g c = given_from-append
