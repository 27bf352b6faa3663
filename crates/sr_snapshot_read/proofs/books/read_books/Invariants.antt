use Rattle.std.proofs.Common.{length}
use Rattle.sr_snapshot_read.proofs.BooksRead.{ReadingBooks}
use Rattle.sr_snapshot_read.proofs.books.read_books.Given as goal

abbrev pub invariant-users : goal.invariant-users
invariant-users g l = ReadingBooks l.file l.users l.left (g.S.Held.seen l.fn.site) (g.S.Held.seen l.site) l.fn.window l.window l.books.items

abbrev pub decreases-users : goal.decreases-users
decreases-users g l = length l.left
