use Rattle.std.proofs.Common.{rules, [], Ok, Err, refl}
use Rattle.sr_database_did.specs.Inner.Places.{at}
use Rattle.sr_receive_gather.specs.declared.fault.ReceiveFault.TheVariants.{Memory}
use Rattle.sr_receive.specs.Inner.Running.{stand}
use Rattle.sr_receive.proofs.Acting.{acted_none, ran_fault, ran_on, ready_acted, stopped_on, stopped_short}
use Rattle.sr_receive.proofs.Leading.{none_holds}
use Rattle.sr_receive.proofs.pass.Pass.try_all.Goals as goal

pub windows-init : goal.windows-init
windows-init g c = record { ran = acted_none _ (at g.S.Held.seen c.args.self.now.place) c.requires.ready.ready.usable; loans = search rules }

pub returns-in_err-pieces-clause-ran : goal.returns-in_err-pieces-clause-ran
returns-in_err-pieces-clause-ran g c =
    let s = stand c.windows.self c.windows.inbox [] in
    ran_fault _ s _ _ Memory c.from_residual.result c.from_residual.ensures.1
    (stopped_on _ s _ _ _ _ _ Memory c.windows.invariant.ran (stopped_short s (at g.S.Held.seen c.windows.self.place) (ready_acted _ _ _ _ c.windows.invariant.ran c.requires.ready).ready.usable))

pub returns-in_default-clause-rest : goal.returns-in_default-clause-rest
returns-in_default-clause-rest g c = record { idle = refl; none = none_holds c.in_ok-pieces.field-0 _ c.in_default.not-Some c.in_ok-pieces.ensures.none }

pub try_one-requires : goal.try_one-requires
try_one-requires g c = record {
  ready = ready_acted _ _ _ _ c.windows.invariant.ran c.requires.ready;
  next = rw c.in-Some.is at c.in_ok-pieces.ensures.found;
}

pub returns-in-Err-clause-ran : goal.returns-in-Err-clause-ran
returns-in-Err-clause-ran g c = ran_on _ _ (stand c.try_one.new.self c.try_one.new.inbox []) _ _ _ (Err c.in-Err.fault) c.windows.invariant.ran c.in-Err.ensures.ran

pub windows-preserved : goal.windows-preserved
windows-preserved g c = record { ran = ran_on _ _ _ _ _ _ (Ok tt) c.windows.invariant.ran c.in-Ok.ensures.ran; loans = search rules }

pub returns-clause-ran : goal.returns-clause-ran
returns-clause-ran g c =
    let s = stand c.windows.self c.windows.inbox [] in
    stopped_on _ s _ _ _ _ _ Memory c.windows.invariant.ran (stopped_short s (at g.S.Held.seen c.windows.self.place) (ready_acted _ _ _ _ c.windows.invariant.ran c.requires.ready).ready.usable)
