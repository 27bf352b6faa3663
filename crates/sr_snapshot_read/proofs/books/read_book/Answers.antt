use Rattle.sr_snapshot.proofs.Puts.{if_fault}
use Rattle.sr_snapshot_read.proofs.BooksRead.{book_numbers, first_cause, others_cause}
use Rattle.sr_snapshot_read.proofs.Windows.{taken_on, taken_over}
use Rattle.sr_snapshot_read.specs.Inner.Damages.{NeverBreaks}
use Rattle.sr_snapshot_read.specs.Damages.{NumbersBreak}
use Rattle.sr_snapshot_read.specs.Inner.Reading.{TakeCause}
use Rattle.sr_snapshot_read.proofs.books.read_book.Goals as goal

pub returns-in_err-sent-clause-cause : goal.returns-in_err-sent-clause-cause
returns-in_err-sent-clause-cause g c =
    let before = g.S.Held.seen c.args.site.now in
    let now = g.S.Held.seen c.read_four.new.site in
    let fault = c.in_err-sent.field-0.0 in
    if_fault (TakeCause c.args.file (NumbersBreak 8 NeverBreaks) before now c.args.window.now) fault c.from_residual.result c.from_residual.ensures.1
    (first_cause c.args.file before now c.args.window.now fault c.in_err-sent.ensures.cause)

pub read_four-requires-2 : goal.read_four-requires-2
read_four-requires-2 g c = record { over = taken_over c.args.file _ (g.S.Held.seen c.args.site.now) (g.S.Held.seen c.read_four.new.site) c.args.window.now c.read_four.new.window c.in_ok-sent.ensures.taken }

pub returns-in_err-received-clause-cause : goal.returns-in_err-received-clause-cause
returns-in_err-received-clause-cause g c =
    let before = g.S.Held.seen c.args.site.now in
    let middle = g.S.Held.seen c.read_four.new.site in
    let now = g.S.Held.seen c.read_four-2.new.site in
    let fault = c.in_err-received.field-0.0 in
    let sent = c.in_ok-sent.sent in
    if_fault (TakeCause c.args.file (NumbersBreak 8 NeverBreaks) before now c.args.window.now) fault c.from_residual-in_err-received.result c.from_residual-in_err-received.ensures.1
    (others_cause c.args.file sent.one sent.two sent.three sent.four before middle now c.args.window.now c.read_four.new.window fault c.in_ok-sent.ensures.short c.in_ok-sent.ensures.taken c.in_err-received.ensures.cause)

pub returns-clause-taken : goal.returns-clause-taken
returns-clause-taken g c =
    taken_on c.args.file _ _ (g.S.Held.seen c.args.site.now) (g.S.Held.seen c.read_four.new.site) (g.S.Held.seen c.read_four-2.new.site) c.args.window.now c.read_four.new.window c.read_four-2.new.window c.in_ok-sent.ensures.taken
    c.in_ok-received.ensures.taken

pub returns-clause-numbers : goal.returns-clause-numbers
returns-clause-numbers g c =
    let sent = c.in_ok-sent.sent in
    let received = c.in_ok-received.received in
    book_numbers sent.one sent.two sent.three sent.four received.one received.two received.three received.four c.in_ok-sent.ensures.short c.in_ok-received.ensures.short
