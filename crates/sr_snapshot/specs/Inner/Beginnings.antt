-- Where the entries of a log begin: an offset, and the state and the books there.
use Rattle.std.specs.Prelude.{[]}
use Rattle.sr_book.specs.Entries.{Name}
use Rattle.sr_database_history.specs.Folds.{fresh}
use Rattle.sr_snapshot.specs.declared.state.State.{State as Kept}
use Rattle.sr_snapshot.specs.Beginnings.{Beginning}

-- what a state is the beginning of
abbrev pub beginning_in : Kept → Beginning
beginning_in s = record { place = s.offset.0; state = record { catalog = s.catalog; rows = s.rows.rows }; books = s.books }

-- what a database without an entry begins with
abbrev pub first_of : Name → Beginning
first_of publisher = record { place = 0; state = fresh publisher; books = [] }
