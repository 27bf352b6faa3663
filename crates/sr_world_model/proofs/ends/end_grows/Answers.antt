use Rattle.sr_world_model.proofs.Lengths.{end_more, end_from-append, le-end_from}
use Rattle.sr_world_model.proofs.ends.end_grows.Goals as goal

pub returns-clause-one_more : goal.returns-clause-one_more
returns-clause-one_more g c = end_more

pub returns-clause-joined : goal.returns-clause-joined
returns-clause-joined g c = end_from-append

pub returns-clause-later : goal.returns-clause-later
returns-clause-later g c = le-end_from
