use Rattle.sr_book.proofs.Folds.{asked_more, asked-append}
use Rattle.sr_book.proofs.history.asked_grows.Goals as goal

pub returns-clause-one_more : goal.returns-clause-one_more
returns-clause-one_more g c = asked_more

pub returns-clause-joined : goal.returns-clause-joined
returns-clause-joined g c = asked-append
