use Rattle.std.proofs.Common.{refl, sym, subst}
use Rattle.sr_base.specs.Values.{offset_from}
use Rattle.sr_book.specs.declared.note.Note.TheVariants.{Sent as sent_up_to}
use Rattle.sr_database.specs.Inner.Commits.{CanCommitSome}
use Rattle.sr_database_history.specs.Recorded.{note}
use Rattle.sr_logform.specs.declared.entry.Entry.{Entry}
use Rattle.sr_send.specs.Inner.Notes.{NoteCause}
use Rattle.sr_send.specs.declared.fault.SendFault.TheVariants.{Memory}
use Rattle.sr_send.proofs.NoteEnds.{can_note_some, CommitSays, note_refused, noted_answer, cause_answer}
use Rattle.sr_send.proofs.Results.{if_fault}
use Rattle.sr_send.proofs.noting.note_sent.Goals as goal

pub returns-in_err-entry-clause-cause : goal.returns-in_err-entry-clause-cause
returns-in_err-entry-clause-cause g c =
    let seen = g.S.Held.seen c.args.site.now in
    let r = note c.args.user.now (sent_up_to c.args.sent.end c.args.sent.put (offset_from c.args.confirm)) in
    if_fault (NoteCause c.args.db.now c.args.db.now seen seen r) Memory c.from_residual.result c.from_residual.ensures.1 (record { value = refl; site = refl })

pub commit-outcome-requires-clause-entry : goal.commit-outcome-requires-clause-entry
commit-outcome-requires-clause-entry g c =
    subst (λ (e : Entry). CanCommitSome c.args.db.now e) (sym c.in_ok-entry.ensures.entry)
    (can_note_some c.args.db.now c.args.user.now (sent_up_to c.args.sent.end c.args.sent.put (offset_from c.args.confirm)) c.requires.pending c.requires.user)

pub answered-requires : goal.answered-requires
answered-requires g c = record {
  refusal = note_refused c.args.db.now c.commit-outcome.new.self (g.S.Held.seen c.args.site.now) (g.S.Held.seen c.commit-outcome.new.site) c.in_ok-entry.entry c.commit-outcome.result c.in_ok-entry.ensures.short c.commit-outcome.ensures.cause;
}

pub returns-clause-noted : goal.returns-clause-noted
returns-clause-noted g c =
    let before = g.S.Held.seen c.args.site.now in
    let now = g.S.Held.seen c.commit-outcome.new.site in
    let what = sent_up_to c.args.sent.end c.args.sent.put (offset_from c.args.confirm) in
    let new = c.commit-outcome.new.self in
    let says : CommitSays c.args.db.now new before now c.in_ok-entry.entry c.commit-outcome.result = record {
      ready = c.commit-outcome.ensures.ready;
      value = c.commit-outcome.ensures.value;
      in_force = c.commit-outcome.ensures.in_force;
      database = c.commit-outcome.ensures.database;
      without = c.commit-outcome.ensures.without;
      went = c.commit-outcome.ensures.went;
      room = c.commit-outcome.ensures.room;
      steady = c.commit-outcome.ensures.steady;
      cause = c.commit-outcome.ensures.cause;
    } in
    noted_answer c.args.db.now new before now c.args.user.now what c.in_ok-entry.entry c.commit-outcome.result c.answered.result c.requires.pending c.requires.user c.in_ok-entry.ensures.entry says c.answered.ensures.noted

pub returns-clause-cause : goal.returns-clause-cause
returns-clause-cause g c =
    let before = g.S.Held.seen c.args.site.now in
    let now = g.S.Held.seen c.commit-outcome.new.site in
    let what = sent_up_to c.args.sent.end c.args.sent.put (offset_from c.args.confirm) in
    let new = c.commit-outcome.new.self in
    let says : CommitSays c.args.db.now new before now c.in_ok-entry.entry c.commit-outcome.result = record {
      ready = c.commit-outcome.ensures.ready;
      value = c.commit-outcome.ensures.value;
      in_force = c.commit-outcome.ensures.in_force;
      database = c.commit-outcome.ensures.database;
      without = c.commit-outcome.ensures.without;
      went = c.commit-outcome.ensures.went;
      room = c.commit-outcome.ensures.room;
      steady = c.commit-outcome.ensures.steady;
      cause = c.commit-outcome.ensures.cause;
    } in
    cause_answer c.args.db.now new before now c.args.user.now what c.in_ok-entry.entry c.commit-outcome.result c.answered.result c.requires.pending c.requires.user c.in_ok-entry.ensures.entry says c.answered.ensures.noted
