use Rattle.std.proofs.Common.{◌∷◌, refl, ap, ◌∙◌}
use Rattle.sr_base.specs.declared.offset.Offset.{Offset}
use Rattle.sr_database_did.specs.Inner.Places.{at}
use Rattle.sr_database_history.specs.Recorded.{taken}
use Rattle.sr_receive.specs.Inner.Reports.{entry_reports}
use Rattle.sr_receive.specs.Inner.Running.{stand}
use Rattle.sr_receive.proofs.Taken.{acted_took, not_taken}
use Rattle.sr_receive.proofs.pass.Pass.take_with_room.Goals as goal

pub enter-requires-clause-entry : goal.enter-requires-clause-entry
enter-requires-clause-entry g c = record { r = taken c.args.self.now.user.now c.args.transaction.now.at c.requires.entry.dones; can = c.requires.entry.can }

pub returns-in-Ok-clause-ran : goal.returns-in-Ok-clause-ran
returns-in-Ok-clause-ran g c inbox rest =
    let entry = c.requires.entry in
    acted_took (stand c.args.self.now inbox (c.args.transaction.now ∷ rest)) (at g.S.Held.seen c.args.self.now.place) (at g.S.Held.seen c.enter.new.place) c.args.transaction.now entry.dones rest refl entry.done
    _ _ _ _ c.args.made.items c.requires.ready.ready refl (c.in-Ok.ensures.entered _ entry.can) (ap (λ (o : Offset). o.0) c.tell.ensures.received) c.tell.ensures.took c.tell.ensures.told c.tell.ensures.reports
    (c.requires.made ∙ ap (entry_reports c.args.self.now.user.now) entry.is)

pub returns-in-Err-clause-ran : goal.returns-in-Err-clause-ran
returns-in-Err-clause-ran g c inbox rest =
    let entry = c.requires.entry in
    not_taken (stand c.args.self.now inbox (c.args.transaction.now ∷ rest)) (at g.S.Held.seen c.args.self.now.place) (at g.S.Held.seen c.enter.new.place) c.args.transaction.now entry.dones rest refl entry.done c.in-Err.fault (c.in-Err.ensures.entered _ entry.can)
