use Rattle.std.proofs.Common.{[]}
use Rattle.sr_receive.specs.Inner.Running.{stand}
use Rattle.sr_receive.proofs.Fetched.{dropped_acted, found_short, read_or_not, under_trial}
use Rattle.sr_receive.proofs.pass.Pass.try_found.Goals as goal

pub returns-in-None-clause-ran : goal.returns-in-None-clause-ran
returns-in-None-clause-ran g c pieces before trial =
    dropped_acted c.args.self.now.place.db.now before (g.S.Held.seen c.args.self.now.place.site.now) c.requires.ready.ready.usable (stand c.args.self.now c.args.inbox.now []) c.args.window pieces c.lose.new.inbox (rw c.in-None.is at trial) c.lose.ensures.lost

pub returns-in-Ok-clause-ran : goal.returns-in-Ok-clause-ran
returns-in-Ok-clause-ran g c pieces before trial =
    let pairs = c.in-Some.pairs.items in
    c.take_read.ensures.ran pairs before
    (under_trial (stand c.args.self.now c.args.inbox.now []) c.args.window pieces before (g.S.Held.seen c.args.self.now.place.site.now) pairs (rw c.in-Some.is at trial))
    (read_or_not c.in-Ok.read (λ txs. txs.items) pairs c.args.window (rw c.as_slice.ensures.value at c.in-Ok.ensures.read) (rw c.as_slice.ensures.value at c.in-Ok.ensures.none))

pub returns-in-Err-clause-ran : goal.returns-in-Err-clause-ran
returns-in-Err-clause-ran g c pieces before trial =
    let s = stand c.args.self.now c.args.inbox.now [] in
    let now = g.S.Held.seen c.args.self.now.place.site.now in
    let pairs = c.in-Some.pairs.items in
    found_short c.args.self.now.place.db.now before now c.requires.ready.ready.usable s c.args.window pairs (under_trial s c.args.window pieces before now pairs (rw c.in-Some.is at trial))
