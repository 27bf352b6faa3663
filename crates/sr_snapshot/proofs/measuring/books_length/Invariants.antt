use Rattle.std.proofs.Common.{◌≡◌, ◌+◌, length}
use Rattle.std.specs.List.{flat_map}
use Rattle.sr_snapshot.specs.Parts.{book_line}
use Rattle.sr_snapshot.proofs.measuring.books_length.Given as goal

abbrev pub invariant-books : goal.invariant-books
invariant-books l = l.length + length (flat_map book_line l.left) ≡ length (flat_map book_line l.books)

abbrev pub decreases-books : goal.decreases-books
decreases-books l = length l.left
