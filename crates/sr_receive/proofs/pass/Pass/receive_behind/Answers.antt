use Rattle.std.proofs.Common.{List, [], length, ap, inl, sym, arith}
use Rattle.sr_database_did.specs.Inner.Places.{at}
use Rattle.sr_receive_gather.specs.declared.report.Report.{Report}
use Rattle.sr_receive.specs.Inner.Running.{begins, stand}
use Rattle.sr_receive.proofs.Acting.{ready_acted}
use Rattle.sr_receive.proofs.Passing.{went_behind}
use Rattle.sr_receive.proofs.pass.Pass.receive_behind.Goals as goal

pub try_all-requires : goal.try_all-requires
try_all-requires g c = record { ready = record { ready = c.requires.ready.ready; granted = c.requires.ready.granted; within = omega (arith, ap (λ (l : List Report). length l) c.as_slice.ensures.value) } }

pub raise_behind-requires : goal.raise_behind-requires
raise_behind-requires g c =
    record { ready = ready_acted _ _ _ _ c.in-Ok.ensures.ran (record { ready = c.requires.ready.ready; granted = c.requires.ready.granted; within = omega (arith, ap (λ (l : List Report). length l) c.as_slice.ensures.value) }) }

pub returns-in-Ok-clause-passed : goal.returns-in-Ok-clause-passed
returns-in-Ok-clause-passed g c =
    rw (sym c.as_slice-in-Ok.ensures.value)
    (went_behind (begins c.args.self.now c.args.received.0 c.args.partner_mail.now.inbox) (stand c.try_all.new.self c.try_all.new.inbox []) (at g.S.Held.seen c.args.self.now.place) (at g.S.Held.seen c.try_all.new.self.place)
    (at g.S.Held.seen c.raise_behind.new.self.place) c.as_slice-in-Ok.result.now c.raise_behind.new.self.reports.now.items c.raise_behind.result (rw c.as_slice.ensures.value at c.in-Ok.ensures.ran) c.in-Ok.ensures.rest
    c.raise_behind.ensures.noted (c.raise_behind.ensures.raised c.try_all.new.inbox) c.raise_behind.ensures.reports)

pub returns-in-Err-clause-passed : goal.returns-in-Err-clause-passed
returns-in-Err-clause-passed g c = inl (rw c.as_slice.ensures.value at c.in-Err.ensures.ran)
