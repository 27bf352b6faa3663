-- What stands at an offset of a log.
use Rattle.std.specs.Prelude.{List, map}
use Rattle.sr_book.specs.Histories.{book_from}
use Rattle.sr_catalog_schema.specs.declared.user.User.{User}
use Rattle.sr_database_files.specs.Books.{listed}
use Rattle.sr_database_history.specs.Folds.{state_from, end_from, sees}
use Rattle.sr_database_history.specs.Recorded.{Recorded}
use Rattle.sr_snapshot.specs.Beginnings.{Beginning}

-- what entries behind a beginning come to: the beginning of those that follow them
abbrev pub beginning_from : Beginning → List Recorded → Beginning
beginning_from b es = record {
  place = end_from b.place es;
  state = state_from b.state es;
  books = map (λ (u : User). (u.name, book_from sees u.name (listed b.books u.name) es)) (state_from b.state es).catalog.users;
}
