use Rattle.sr_book.proofs.Folds.{taken_more, taken-append}
use Rattle.sr_book.proofs.history.taken_grows.Goals as goal

pub returns-clause-one_more : goal.returns-clause-one_more
returns-clause-one_more g c = taken_more

pub returns-clause-joined : goal.returns-clause-joined
returns-clause-joined g c = taken-append
