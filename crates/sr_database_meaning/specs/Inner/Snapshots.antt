-- The snapshot of a database without an entry.
use Rattle.std.specs.Prelude.{ℕ, List}
use Rattle.sr_book.specs.Entries.{Name}
use Rattle.sr_snapshot.specs.Inner.Beginnings.{first_of}
use Rattle.sr_snapshot.specs.Snapshots.{snapshot_spelling}

-- it has the offset 0 and its publisher, and no statement, table and book
abbrev pub fresh_snapshot : Name → List ℕ
fresh_snapshot publisher = snapshot_spelling (first_of publisher)
