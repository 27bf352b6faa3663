use Rattle.std.proofs.Common.{◌∙◌, ap}
use Rattle.std.specs.FinMap as map
use Rattle.sr_book.specs.Books.{with_taken, with_note}
use Rattle.sr_book.specs.declared.book.Book.{Book}
use Rattle.sr_database_replay.proofs.Booked.{follow_taken, follow_noted}
use Rattle.sr_database.proofs.Settled.{own_takes}
use Rattle.sr_database.proofs.settling.settle.Goals as goal

pub take_with_book-requires-clause-books : goal.take_with_book-requires-clause-books
take_with_book-requires-clause-books c r is =
    let user = c.in-From.user in
    follow_taken c.args.books.now _ user c.in-From.at c.in-From.ops r
    (ap (λ (b : Book). map.insert c.args.books.now user b) (c.took-book.ensures ∙ ap (λ (b : Book). with_taken b c.in-From.at.0) c.get.ensures.book)) (is ∙ c.in-From.is)

pub take_with_book-requires-in-Note-clause-books : goal.take_with_book-requires-in-Note-clause-books
take_with_book-requires-in-Note-clause-books c r is =
    let user = c.in-Note.user in
    follow_noted c.args.books.now _ user c.in-Note.note r
    (ap (λ (b : Book). map.insert c.args.books.now user b) (c.after-book.ensures ∙ ap (λ (b : Book). with_note b c.in-Note.note) c.get-in-Note.ensures.book)) (is ∙ c.in-Note.is)

pub returns-in-Own-clause-takes : goal.returns-in-Own-clause-takes
returns-in-Own-clause-takes c =
    own_takes c.args.catalog.now c.args.rows.now c.mark.new.self c.args.books.now c.args.pending.now c.in-Own.field-0 c.args.entry.now c.requires.pending c.in-Own.is c.mark.ensures.rows c.mark.ensures.marked c.mark.ensures.trail
