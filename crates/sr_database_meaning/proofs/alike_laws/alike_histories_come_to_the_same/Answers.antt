use Rattle.sr_database_meaning.proofs.Alike.{alike_books, alike_end, alike_first, alike_state, stands_alike}
use Rattle.sr_database_meaning.proofs.alike_laws.alike_histories_come_to_the_same.Goals as goal

pub returns-clause-state : goal.returns-clause-state
returns-clause-state c = alike_state

pub returns-clause-end : goal.returns-clause-end
returns-clause-end c = alike_end

pub returns-clause-books : goal.returns-clause-books
returns-clause-books c = alike_books

pub returns-clause-files : goal.returns-clause-files
returns-clause-files c = stands_alike

pub returns-clause-first : goal.returns-clause-first
returns-clause-first c = alike_first
