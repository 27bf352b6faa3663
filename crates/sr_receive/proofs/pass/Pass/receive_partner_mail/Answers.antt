use Rattle.std.proofs.Common.{◌≡◌, refl, sym, ap, subst, ◌∙◌}
use Rattle.std.specs.Prelude.{map}
use Rattle.sr_book.specs.declared.book.Book.{Book}
use Rattle.sr_database_did.specs.Inner.Did.{Did}
use Rattle.sr_database_did.specs.Inner.Effects.{entered, whole}
use Rattle.sr_database_did.specs.Inner.Places.{at}
use Rattle.sr_catalog_schema.specs.Members.{user_name}
use Rattle.sr_catalog_schema.specs.Names.{named}
use Rattle.sr_database_files.specs.Books.{book_in}
use Rattle.sr_receive.specs.Inner.Noting.{NotAll}
use Rattle.sr_receive.specs.Passes.{first_notes}
use Rattle.sr_receive.proofs.Committing.{known_did, ready_did}
use Rattle.sr_receive.proofs.Noted.{none_for_want}
use Rattle.sr_receive.proofs.Passing.{book_is, notes_stopped, received_mail}
use Rattle.sr_receive.proofs.pass.Pass.receive_partner_mail.Goals as goal

pub returns-in_default-clause-received : goal.returns-in_default-clause-received
returns-in_default-clause-received g c =
    let o = at g.S.Held.seen c.args.self.now.place in
    notes_stopped o o c.args.self.now.user.now c.args.partner_mail.now c.args.self.now.reports.now.items _ c.requires.ready.ready (none_for_want o _ c.requires.ready.ready.usable)

pub receive_behind-requires : goal.receive_behind-requires
receive_behind-requires g c =
    let o = at g.S.Held.seen c.args.self.now.place in
    let a = at g.S.Held.seen c.note_first.new.place in
    record {
      ready = record {
        ready = ready_did o a _ c.requires.ready.ready c.in-Ok.ensures.noted;
        granted = known_did o a _ c.requires.ready.ready c.in-Ok.ensures.noted c.args.self.now.user.now c.requires.ready.granted;
        within = c.requires.ready.within;
      };
    }

pub returns-in-Ok-clause-received : goal.returns-in-Ok-clause-received
returns-in-Ok-clause-received g c =
    let o = at g.S.Held.seen c.args.self.now.place in
    let a = at g.S.Held.seen c.note_first.new.place in
    let user = c.args.self.now.user.now in
    let is : c.in-Some.book ≡ book_in c.args.self.now.place.db.now.books user = book_is (named user_name user c.args.self.now.place.db.now.catalog.users) _ _ (sym c.in-Some.is ∙ c.book_of.ensures.book) in
    received_mail o a (at g.S.Held.seen c.receive_behind.new.self.place) _ c.args.partner_mail.now c.receive_behind.new.partner_mail c.receive_behind.new.self.reports.now.items c.requires.ready.ready
    (record { state = refl; received = ap (λ (k : Book). k.log_received) is; took = refl; told = refl; inbox = refl; left = refl }) c.receive_behind.ensures.files
    (subst (λ (k : Book). Did o a (map entered (first_notes user k c.args.partner_mail.now.files.items)) whole) is (rw c.as_slice.ensures.value at c.in-Ok.ensures.noted))
    c.receive_behind.result c.receive_behind.ensures.passed

pub returns-in-Err-clause-received : goal.returns-in-Err-clause-received
returns-in-Err-clause-received g c =
    let o = at g.S.Held.seen c.args.self.now.place in
    let a = at g.S.Held.seen c.note_first.new.place in
    let user = c.args.self.now.user.now in
    let is : c.in-Some.book ≡ book_in c.args.self.now.place.db.now.books user = book_is (named user_name user c.args.self.now.place.db.now.catalog.users) _ _ (sym c.in-Some.is ∙ c.book_of.ensures.book) in
    notes_stopped o a user c.args.partner_mail.now c.args.self.now.reports.now.items c.in-Err.fault c.requires.ready.ready
    (subst (λ (k : Book). NotAll o a (first_notes user k c.args.partner_mail.now.files.items) c.in-Err.fault) is (rw c.as_slice.ensures.value at c.in-Err.ensures.noted))
