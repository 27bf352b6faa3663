use Rattle.std.proofs.Common.{◌≡◌, ℕ, length}
use Rattle.std.specs.FinMap.{empty}
use Rattle.sr_database_files.specs.Books.{kept_books}
use Rattle.sr_database_replay.proofs.bookkeeping.Books.of_lines.Given as goal

abbrev pub invariant-lines : goal.invariant-lines
invariant-lines l = record {
  kept_all : kept_books l.books l.left ≡ kept_books empty l.lines;
}

abbrev pub decreases-lines : goal.decreases-lines
decreases-lines l = length l.left
