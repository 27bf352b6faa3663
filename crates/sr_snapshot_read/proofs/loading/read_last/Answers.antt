use Rattle.sr_snapshot.proofs.Puts.{if_fault}
use Rattle.sr_snapshot_read.proofs.StateRead.{at_its_end, books_taken, last_books, last_count, last_more}
use Rattle.sr_snapshot_read.proofs.Windows.{taken_on, taken_over}
use Rattle.sr_snapshot_read.specs.Damages.{LastBreaks}
use Rattle.sr_snapshot_read.specs.Inner.Reading.{TakeCause}
use Rattle.sr_snapshot_read.proofs.loading.read_last.Goals as goal

pub returns-in_err-read_this_count-clause-cause : goal.returns-in_err-read_this_count-clause-cause
returns-in_err-read_this_count-clause-cause g c =
    let before = g.S.Held.seen c.args.site.now in
    let now = g.S.Held.seen c.read_this_count.new.site in
    let fault = c.in_err-read_this_count.field-0.0 in
    if_fault (TakeCause c.args.file (LastBreaks c.args.users.now) before now c.args.window.now) fault c.from_residual.result c.from_residual.ensures.1
    (last_count c.args.file c.args.users.now before now c.args.window.now fault c.in_err-read_this_count.ensures.cause)

pub read_books-requires : goal.read_books-requires
read_books-requires g c = record {
  over = taken_over c.args.file _ (g.S.Held.seen c.args.site.now) (g.S.Held.seen c.read_this_count.new.site) c.args.window.now c.read_this_count.new.window c.in_ok-read_this_count.ensures.taken;
}

pub returns-in_err-books-clause-cause : goal.returns-in_err-books-clause-cause
returns-in_err-books-clause-cause g c =
    let before = g.S.Held.seen c.args.site.now in
    let middle = g.S.Held.seen c.read_this_count.new.site in
    let now = g.S.Held.seen c.read_books.new.site in
    let fault = c.in_err-books.field-0.0 in
    if_fault (TakeCause c.args.file (LastBreaks c.args.users.now) before now c.args.window.now) fault c.from_residual-in_err-books.result c.from_residual-in_err-books.ensures.1
    (last_books c.args.file c.args.users.now before middle now c.args.window.now c.read_this_count.new.window fault c.in_ok-read_this_count.ensures.taken c.in_err-books.ensures.cause)

pub returns-in_err-at_end-clause-cause : goal.returns-in_err-at_end-clause-cause
returns-in_err-at_end-clause-cause g c =
    let before = g.S.Held.seen c.args.site.now in
    let middle = g.S.Held.seen c.read_this_count.new.site in
    let now = g.S.Held.seen c.read_books.new.site in
    let fault = c.in_err-at_end.field-0.0 in
    if_fault (TakeCause c.args.file (LastBreaks c.args.users.now) before now c.args.window.now) fault c.from_residual-in_err-at_end.result c.from_residual-in_err-at_end.ensures.1
    (last_more c.args.file c.args.users.now c.in_ok-books.books before middle now c.args.window.now c.read_this_count.new.window c.read_books.new.window fault c.in_ok-books.ensures.users c.in_ok-books.ensures.numbers
    c.in_ok-read_this_count.ensures.taken c.in_ok-books.ensures.taken c.in_err-at_end.ensures.place c.in_err-at_end.ensures.more)

pub returns-clause-taken : goal.returns-clause-taken
returns-clause-taken g c =
    books_taken c.args.file c.args.users.now c.in_ok-books.books (g.S.Held.seen c.args.site.now) (g.S.Held.seen c.read_this_count.new.site) (g.S.Held.seen c.read_books.new.site) c.args.window.now c.read_this_count.new.window
    c.read_books.new.window c.in_ok-books.ensures.users c.in_ok-read_this_count.ensures.taken c.in_ok-books.ensures.taken

pub returns-clause-ends : goal.returns-clause-ends
returns-clause-ends g c told =
    at_its_end c.args.file _ (g.S.Held.seen c.args.site.now) (g.S.Held.seen c.read_books.new.site) c.args.window.now c.read_books.new.window
    (taken_on c.args.file _ _ (g.S.Held.seen c.args.site.now) (g.S.Held.seen c.read_this_count.new.site) (g.S.Held.seen c.read_books.new.site) c.args.window.now c.read_this_count.new.window c.read_books.new.window
    c.in_ok-read_this_count.ensures.taken c.in_ok-books.ensures.taken) c.in_ok-at_end.ensures.end told
