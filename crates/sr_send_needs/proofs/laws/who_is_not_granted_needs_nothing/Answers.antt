use Rattle.sr_send_needs.proofs.Ungranted.{new_book_of, given_nothing}
use Rattle.sr_send_needs.proofs.laws.who_is_not_granted_needs_nothing.Goals as goal

pub returns-clause-book : goal.returns-clause-book
returns-clause-book c = new_book_of

pub returns-clause-given : goal.returns-clause-given
returns-clause-given c = given_nothing
