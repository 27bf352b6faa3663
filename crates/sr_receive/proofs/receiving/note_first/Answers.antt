use Rattle.sr_database_did.specs.Inner.Places.{at}
use Rattle.sr_receive_gather.specs.Greatest.{asks, confirms}
use Rattle.sr_receive.specs.Passes.{note_entries}
use Rattle.sr_receive.proofs.Committing.{known_did, ready_did}
use Rattle.sr_receive.proofs.Noted.{all_on, first_not}
use Rattle.sr_receive.proofs.receiving.note_first.Goals as goal

pub note_ask-requires : goal.note_ask-requires
note_ask-requires g c =
    let a = at g.S.Held.seen c.args.place.now in
    let b = at g.S.Held.seen c.note_confirm.new.place in record {
      ready = ready_did a b _ c.requires.ready c.in-Ok.ensures.noted;
      user = known_did a b _ c.requires.ready c.in-Ok.ensures.noted c.args.user.now c.requires.user;
    }

pub returns-in-Ok-clause-noted : goal.returns-in-Ok-clause-noted
returns-in-Ok-clause-noted g c =
    all_on (at g.S.Held.seen c.args.place.now) (at g.S.Held.seen c.note_confirm.new.place) (at g.S.Held.seen c.note_ask.new.place) (note_entries c.args.user.now (confirms c.args.book.now c.args.files.now))
    (note_entries c.args.user.now (asks c.args.book.now c.args.files.now)) c.note_ask.result c.in-Ok.ensures.noted c.note_ask.ensures.noted

pub returns-in-Err-clause-noted : goal.returns-in-Err-clause-noted
returns-in-Err-clause-noted g c =
    first_not (at g.S.Held.seen c.args.place.now) (at g.S.Held.seen c.note_confirm.new.place) (note_entries c.args.user.now (confirms c.args.book.now c.args.files.now)) (note_entries c.args.user.now (asks c.args.book.now c.args.files.now)) c.in-Err.fault c.in-Err.ensures.noted
