use Rattle.sr_book.proofs.Folds.{book_received, asked_within, rereceive_within, counts_kept}
use Rattle.sr_book.proofs.history.book_agrees.Goals as goal

pub returns-clause-received : goal.returns-clause-received
returns-clause-received g c = book_received

pub returns-clause-asks : goal.returns-clause-asks
returns-clause-asks g c = asked_within

pub returns-clause-within : goal.returns-clause-within
returns-clause-within g c = rereceive_within

pub returns-clause-noted : goal.returns-clause-noted
returns-clause-noted g c = λ sees user es more. (counts_kept sees user es more).0

pub returns-clause-raised : goal.returns-clause-raised
returns-clause-raised g c = λ sees user es more. (counts_kept sees user es more).1
