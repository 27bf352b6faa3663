-- The book of a user, and the end of a history, as a log shows them.
use Rattle.std.specs.Prelude.{ℕ, [], ◌∷◌, if◌then◌else◌}
use Rattle.std.specs.Str.{bytes_eq}
use Rattle.sr_book.specs.Books.{with_note, with_taken}
use Rattle.sr_book.specs.Entries.{Name}
use Rattle.sr_book.specs.declared.book.Book.{Book}
use Rattle.sr_logform.specs.declared.entry.Entry.{Entry}
use Rattle.sr_logform.specs.declared.entry.Entry.TheVariants.{Own, From, Ddl, Sync, Pass, Note}
use Rattle.sr_world_steps.specs.Inner.Places.{Log}

-- the book of a user after an entry
abbrev pub booked_by : Name → Book → Entry → Book
booked_by user book (Own changes) = book
booked_by user book (From other at ops) = if bytes_eq user other then with_taken book at.0 else book
booked_by user book (Ddl text) = book
booked_by user book (Sync other tables) = book
booked_by user book (Pass users only text changes) = book
booked_by user book (Note other note) = if bytes_eq user other then with_note book note else book

-- and after those of a log
abbrev pub booked_in : Name → Book → Log → Book
booked_in user book [] = book
booked_in user book (x ∷ log) = booked_in user (booked_by user book x.1) log

-- where the last entry of a log ends, or this offset where there is none
abbrev pub end_in : ℕ → Log → ℕ
end_in place [] = place
end_in place (x ∷ log) = end_in x.0.0 log
