use Rattle.std.proofs.Common.{◌≡◌, length}
use Rattle.sr_book.specs.Books.{new_book}
use Rattle.sr_world_steps.specs.Inner.Booked.{booked_in}
use Rattle.sr_world_steps.proofs.books.book_of.Given as goal

-- the book is that of all entries, with those that are left
abbrev pub invariant-entries : goal.invariant-entries
invariant-entries l = booked_in l.user l.book l.left ≡ booked_in l.user new_book l.log

abbrev pub decreases-entries : goal.decreases-entries
decreases-entries l = length l.left
