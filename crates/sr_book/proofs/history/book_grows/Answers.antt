use Rattle.sr_book.specs.Books.{new_book}
use Rattle.sr_book.proofs.Folds.{book_more, book_from-append}
use Rattle.sr_book.proofs.history.book_grows.Goals as goal

pub returns-clause-one_more : goal.returns-clause-one_more
returns-clause-one_more g c = book_more

pub returns-clause-joined : goal.returns-clause-joined
returns-clause-joined g c = λ sees user es fs. book_from-append sees user new_book es fs
