use Rattle.std.proofs.Common.{◌∷◌}
use Rattle.sr_database_did.specs.Inner.Places.{at}
use Rattle.sr_receive.specs.Inner.Running.{stand}
use Rattle.sr_receive.proofs.Acting.{stopped_short}
use Rattle.sr_receive.proofs.pass.Pass.take_entry.Goals as goal

pub returns-in-Err-clause-ran : goal.returns-in-Err-clause-ran
returns-in-Err-clause-ran g c inbox rest = rw c.reports_with_room.ensures.kept (stopped_short (stand c.args.self.now inbox (c.args.transaction.now ∷ rest)) (at g.S.Held.seen c.args.self.now.place) c.requires.ready.ready.usable)

pub returns-in-Ok-clause-ran : goal.returns-in-Ok-clause-ran
returns-in-Ok-clause-ran g c inbox rest = rw c.reports_with_room.ensures.kept at (c.take_with_room.ensures.ran inbox rest)
