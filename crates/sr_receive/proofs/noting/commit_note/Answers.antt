use Rattle.std.proofs.Common.{[], ◌∷◌}
use Rattle.sr_database_did.specs.Inner.Places.{at}
use Rattle.sr_database_history.specs.Recorded.{note}
use Rattle.sr_receive.proofs.Noted.{none_for_want, note_can, one_of_all}
use Rattle.sr_receive.proofs.noting.commit_note.Goals as goal

pub returns-in-Err-clause-noted : goal.returns-in-Err-clause-noted
returns-in-Err-clause-noted g c = none_for_want (at g.S.Held.seen c.args.place.now) (note c.args.user.now c.args.note ∷ []) c.requires.ready.usable

pub enter-outcome-requires-clause-entry : goal.enter-outcome-requires-clause-entry
enter-outcome-requires-clause-entry g c = record {
  r = note c.args.user.now c.args.note;
  can = note_can c.args.place.now.db.now (g.S.Held.seen c.args.place.now.site.now) c.args.user.now c.args.note c.in-Ok.entry c.requires.ready c.requires.user c.in-Ok.ensures.entry;
}

pub returns-in-Ok-clause-noted : goal.returns-in-Ok-clause-noted
returns-in-Ok-clause-noted g c =
    let r = note c.args.user.now c.args.note in
    one_of_all (at g.S.Held.seen c.args.place.now) (at g.S.Held.seen c.enter-outcome.new.place) r c.enter-outcome.result
    (c.enter-outcome.ensures.entered r (note_can c.args.place.now.db.now (g.S.Held.seen c.args.place.now.site.now) c.args.user.now c.args.note c.in-Ok.entry c.requires.ready c.requires.user c.in-Ok.ensures.entry))
