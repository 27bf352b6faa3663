use Rattle.std.proofs.Common.{◌∷◌, refl}
use Rattle.sr_receive.specs.Inner.Running.{stand}
use Rattle.sr_receive.proofs.Acting.{ran_on}
use Rattle.sr_receive.proofs.Taken.{ready_alike, alike_acted, alike_short, its_entry}
use Rattle.sr_receive.proofs.pass.Pass.take_one.Goals as goal

pub entry_of-requires-clause-sound : goal.entry_of-requires-clause-sound
entry_of-requires-clause-sound g c = let ready = c.requires.ready.ready in ready.sound

pub returns-in-Err-clause-ran : goal.returns-in-Err-clause-ran
returns-in-Err-clause-ran g c inbox rest =
    alike_short c.args.self.now.place.db.now c.entry_of.new.db (g.S.Held.seen c.args.self.now.place.site.now) c.requires.ready.ready c.in-Err.ensures.alike (stand c.args.self.now inbox (c.args.transaction.now ∷ rest))

pub take_entry-outcome-requires-clause-ready : goal.take_entry-outcome-requires-clause-ready
take_entry-outcome-requires-clause-ready g c = record {
  ready = ready_alike c.args.self.now.place.db.now c.entry_of.new.db (g.S.Held.seen c.args.self.now.place.site.now) c.requires.ready.ready c.in-Ok.ensures.alike;
  granted = rw c.in-Ok.ensures.alike.catalog c.requires.ready.granted;
  within = c.requires.ready.within;
}

pub take_entry-outcome-requires-clause-entry : goal.take_entry-outcome-requires-clause-entry
take_entry-outcome-requires-clause-entry g c =
    its_entry c.args.self.now.place.db.now c.entry_of.new.db (g.S.Held.seen c.args.self.now.place.site.now) c.args.self.now.user.now c.args.transaction.now c.in-Ok.entry c.requires.ready.ready c.requires.ready.granted c.in-Ok.ensures.alike c.in-Ok.ensures.entry

pub returns-in-Ok-clause-ran : goal.returns-in-Ok-clause-ran
returns-in-Ok-clause-ran g c inbox rest =
    ran_on (stand c.args.self.now inbox (c.args.transaction.now ∷ rest)) _ _ _ _ _ c.take_entry-outcome.result
    (alike_acted c.args.self.now.place.db.now c.entry_of.new.db (g.S.Held.seen c.args.self.now.place.site.now) c.requires.ready.ready c.in-Ok.ensures.alike (stand c.args.self.now inbox (c.args.transaction.now ∷ rest)) refl)
    (c.take_entry-outcome.ensures.ran inbox rest)
