use Rattle.sr_database_did.specs.Inner.Places.{at}
use Rattle.sr_receive.proofs.Noted.{not_entered}
use Rattle.sr_receive.proofs.noting.enter.Goals as goal

pub commit-requires-clause-stands : goal.commit-requires-clause-stands
commit-requires-clause-stands g c = c.requires.ready.stands

pub returns-in-Err-clause-entered : goal.returns-in-Err-clause-entered
returns-in-Err-clause-entered g c r can =
    not_entered (at g.S.Held.seen c.args.place.now) (at g.S.Held.seen c.commit.new.self) r c.in-Err.fault c.store_fault.result c.store_fault.ensures.fault (c.in-Err.ensures.did r can)
