use Rattle.sr_database_did.specs.Inner.Places.{at}
use Rattle.sr_database_did.proofs.Still.{nothing_did}
use Rattle.sr_receive.proofs.noting.note_where.Goals as goal

pub returns-in-None-clause-noted : goal.returns-in-None-clause-noted
returns-in-None-clause-noted g c = rw c.in-None.is (nothing_did (at g.S.Held.seen c.args.place.now) c.requires.ready.usable)
