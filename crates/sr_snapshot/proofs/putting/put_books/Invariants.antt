use Rattle.std.proofs.Common.{length}
use Rattle.std.specs.List.{flat_map}
use Rattle.sr_base.specs.Fields.{list_spelling}
use Rattle.sr_snapshot.proofs.Puts.{Putting}
use Rattle.sr_snapshot.specs.Parts.{book_line}
use Rattle.sr_snapshot.proofs.putting.put_books.Given as goal

abbrev pub invariant-books : goal.invariant-books
invariant-books g l = Putting l.file (list_spelling book_line l.books) (flat_map book_line l.left) (g.S.Held.seen l.fn.site) (g.S.Held.seen l.site) l.fn.out.buffer.items l.out.buffer.items l.out.place

abbrev pub decreases-books : goal.decreases-books
decreases-books g l = length l.left
