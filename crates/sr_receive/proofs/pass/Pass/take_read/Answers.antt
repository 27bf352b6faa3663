use Rattle.std.proofs.Common.{[], refl}
use Rattle.sr_database_did.specs.Inner.Places.{at}
use Rattle.sr_receive.specs.Acts.{begun, torn}
use Rattle.sr_receive.specs.Inner.Running.{stand}
use Rattle.sr_receive.proofs.Acting.{acted_one, ran_on}
use Rattle.sr_receive.proofs.Fetched.{found_did, found_short, has_come}
use Rattle.sr_receive.proofs.pass.Pass.take_read.Goals as goal

pub returns-in-Ok-clause-ran : goal.returns-in-Ok-clause-ran
returns-in-Ok-clause-ran g c pairs before trial is =
    let s = stand c.args.self.now c.args.inbox.now [] in
    let now = g.S.Held.seen c.args.self.now.place.site.now in
    acted_one s _ _ _ (torn c.args.window pairs)
    (record { come = has_come s c.args.window pairs before now trial; unread = rw c.in-None.is at is; lost = c.lose.ensures.lost; same = λ i. record s { inbox = c.lose.new.inbox; reports = c.in-Ok.ensures.torn i } })
    (found_did c.args.self.now.place.db.now before now c.requires.ready.ready.usable _ _ _ pairs trial.found)

pub returns-in-Err-clause-ran : goal.returns-in-Err-clause-ran
returns-in-Err-clause-ran g c pairs before trial is =
    let s = stand c.args.self.now c.args.inbox.now [] in
    rw (c.in-Err.ensures.err, c.in-Err.ensures.memory) (found_short c.args.self.now.place.db.now before (g.S.Held.seen c.args.self.now.place.site.now) c.requires.ready.ready.usable s c.args.window pairs trial)

pub returns-in-Some-clause-ran : goal.returns-in-Some-clause-ran
returns-in-Some-clause-ran g c pairs before trial is =
    let s = stand c.args.self.now c.args.inbox.now [] in
    let now = g.S.Held.seen c.args.self.now.place.site.now in
    ran_on s _ _ _ _ _ c.take_all-outcome.result
    (acted_one s _ _ _ (begun c.args.window pairs c.in-Some.transactions.items)
    (record { come = has_come s c.args.window pairs before now trial; read = rw c.in-Some.is at is; same = refl })
    (found_did c.args.self.now.place.db.now before now c.requires.ready.ready.usable _ _ _ pairs trial.found))
    (rw c.as_slice.ensures.value at (c.take_all-outcome.ensures.ran c.args.inbox.now))
