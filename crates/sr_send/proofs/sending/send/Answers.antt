use Rattle.std.proofs.Common.{◌≡◌, ◌≤◌, sym, subst, ◌∙◌}
use Rattle.sr_book.specs.declared.book.Book.{Book}
use Rattle.sr_catalog_schema.specs.Members.{user_name}
use Rattle.sr_catalog_schema.specs.Names.{named}
use Rattle.sr_database_files.specs.Books.{book_in}
use Rattle.sr_send.specs.Inner.Aims.{aim_at}
use Rattle.sr_send.specs.PutFiles.{sent_note}
use Rattle.sr_send.specs.Passes.{SendCause}
use Rattle.sr_send.specs.Posting.{IsDeviceFault}
use Rattle.sr_send.specs.declared.fault.SendFault.{SendFault}
use Rattle.sr_send.proofs.PassEnds.{book_is, has_book, put_stopped, sent_none, sent_noted, note_stopped, pass_device, note_device, still_in_force}
use Rattle.sr_send.proofs.Known.{shared_noted}
use Rattle.sr_send.proofs.Posts.{of_disk}
use Rattle.sr_send.proofs.Results.{if_fault}
use Rattle.sr_send.proofs.sending.send.Goals as goal

pub returns-in_default-clause-cause : goal.returns-in_default-clause-cause
returns-in_default-clause-cause g c =
    absurd (has_book c.book.result (named user_name c.args.user.now c.args.db.now.catalog.users) (book_in c.args.db.now.books c.args.user.now) c.book.ensures.book c.requires.user c.in_default.not-Some)

pub put_due-requires-clause-ask : goal.put_due-requires-clause-ask
put_due-requires-clause-ask g c asked =
    let is : c.in-Some.book ≡ book_in c.args.db.now.books c.args.user.now = book_is (named user_name c.args.user.now c.args.db.now.catalog.users) _ _ (sym c.in-Some.is ∙ c.book.ensures.book) in
    subst (λ (b : Book). 1 ≤ b.rereceive_count) (sym is) (c.requires.ask asked)

pub returns-in_err-sent-clause-cause : goal.returns-in_err-sent-clause-cause
returns-in_err-sent-clause-cause g c =
    let db = c.args.db.now in
    let before = g.S.Held.seen c.args.site.now in
    let now = g.S.Held.seen c.put_due.new.site in
    let is : c.in-Some.book ≡ book_in db.books c.args.user.now = book_is (named user_name c.args.user.now db.catalog.users) _ _ (sym c.in-Some.is ∙ c.book.ensures.book) in
    if_fault (λ (f : SendFault). SendCause db db before now c.args.user.now c.args.length c.args.ask f) c.in_err-sent.field-0.0 c.from_residual.result c.from_residual.ensures.1
    (put_stopped db c.args.user.now c.in-Some.book c.args.length c.args.ask is before now c.in_err-sent.field-0.0 c.in_err-sent.ensures.cause)

pub returns-in_err-sent-clause-devices : goal.returns-in_err-sent-clause-devices
returns-in_err-sent-clause-devices g c =
    let db = c.args.db.now in
    let before = g.S.Held.seen c.args.site.now in
    let now = g.S.Held.seen c.put_due.new.site in
    if_fault (λ (f : SendFault). IsDeviceFault before now f) c.in_err-sent.field-0.0 c.from_residual.result c.from_residual.ensures.1
    (pass_device db (aim_at db c.args.user.now c.in-Some.book c.args.length c.args.ask) c.in-Some.book c.args.ask c.args.user.now before now c.in_err-sent.field-0.0 c.in_err-sent.ensures.cause)

pub returns-then-is_empty-clause-sent : goal.returns-then-is_empty-clause-sent
returns-then-is_empty-clause-sent g c =
    let db = c.args.db.now in
    let before = g.S.Held.seen c.args.site.now in
    let now = g.S.Held.seen c.put_due.new.site in
    let is : c.in-Some.book ≡ book_in db.books c.args.user.now = book_is (named user_name c.args.user.now db.catalog.users) _ _ (sym c.in-Some.is ∙ c.book.ensures.book) in
    sent_none db c.args.user.now c.in-Some.book c.args.length c.args.ask is db before now now c.in_ok-sent.sent c.in_ok-sent.ensures.put
    (c.is_empty.ensures.none c.if-is_empty.true) c.requires.usable c.requires.pending

pub note_sent-requires-clause-stands : goal.note_sent-requires-clause-stands
note_sent-requires-clause-stands g c =
    still_in_force c.args.db.now (g.S.Held.seen c.args.site.now) (g.S.Held.seen c.put_due.new.site) _ c.in_ok-sent.ensures.put.posted c.requires.stands

pub returns-in_err-note_sent-clause-cause : goal.returns-in_err-note_sent-clause-cause
returns-in_err-note_sent-clause-cause g c =
    let db = c.args.db.now in
    let before = g.S.Held.seen c.args.site.now in
    let middle = g.S.Held.seen c.put_due.new.site in
    let now = g.S.Held.seen c.note_sent.new.site in
    let is : c.in-Some.book ≡ book_in db.books c.args.user.now = book_is (named user_name c.args.user.now db.catalog.users) _ _ (sym c.in-Some.is ∙ c.book.ensures.book) in
    if_fault (λ (f : SendFault). SendCause db c.note_sent.new.db before now c.args.user.now c.args.length c.args.ask f) c.in_err-note_sent.field-0.0 c.from_residual-in_err-note_sent.result c.from_residual-in_err-note_sent.ensures.1
    (note_stopped db c.args.user.now c.in-Some.book c.args.length c.args.ask is c.note_sent.new.db before middle now c.in_ok-sent.sent c.in_ok-sent.ensures.put c.in_err-note_sent.field-0.0
    (c.is_empty.ensures.some c.if-is_empty.false) c.note_sent.ensures.stays c.in_err-note_sent.ensures.cause)

pub returns-in_err-note_sent-clause-devices : goal.returns-in_err-note_sent-clause-devices
returns-in_err-note_sent-clause-devices g c =
    let db = c.args.db.now in
    let before = g.S.Held.seen c.args.site.now in
    let middle = g.S.Held.seen c.put_due.new.site in
    let now = g.S.Held.seen c.note_sent.new.site in
    if_fault (λ (f : SendFault). IsDeviceFault before now f) c.in_err-note_sent.field-0.0 c.from_residual-in_err-note_sent.result c.from_residual-in_err-note_sent.ensures.1
    (note_device db c.note_sent.new.db before middle now (sent_note c.args.user.now c.in-Some.book c.in_ok-sent.sent.end c.in_ok-sent.sent.put) c.in_err-note_sent.field-0.0
    c.in_ok-sent.ensures.put.steady c.note_sent.ensures.stays c.in_err-note_sent.ensures.cause)

pub returns-clause-sent : goal.returns-clause-sent
returns-clause-sent g c =
    let db = c.args.db.now in
    let before = g.S.Held.seen c.args.site.now in
    let middle = g.S.Held.seen c.put_due.new.site in
    let now = g.S.Held.seen c.note_sent.new.site in
    let is : c.in-Some.book ≡ book_in db.books c.args.user.now = book_is (named user_name c.args.user.now db.catalog.users) _ _ (sym c.in-Some.is ∙ c.book.ensures.book) in
    sent_noted db c.args.user.now c.in-Some.book c.args.length c.args.ask is c.note_sent.new.db before middle now c.in_ok-sent.sent c.in_ok-sent.ensures.put (c.is_empty.ensures.some c.if-is_empty.false) c.note_sent.ensures.stays
    c.in_ok-note_sent.ensures.noted

pub returns-clause-surveyed : goal.returns-clause-surveyed
returns-clause-surveyed g c =
    let middle = g.S.Held.seen c.put_due.new.site in
    let now = g.S.Held.seen c.note_sent.new.site in
    shared_noted c.args.db.now c.note_sent.new.db c.put_due.new.shared.survey middle now (sent_note c.args.user.now c.in-Some.book c.in_ok-sent.sent.end c.in_ok-sent.sent.put) (of_disk middle now c.note_sent.ensures.stays)
    c.in_ok-note_sent.ensures.noted c.in_ok-sent.ensures.surveyed
