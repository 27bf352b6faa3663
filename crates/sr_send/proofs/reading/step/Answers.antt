use Rattle.std.proofs.Common.{◌≤◌, ◌<◌, Option, Result, refl, sym, subst}
use Rattle.std.specs.Prelude.{IfOk, IfErr, IfSome}
use Rattle.sr_base.specs.declared.offset.Offset.{Offset}
use Rattle.sr_database.specs.Inner.Entries.{IsEntryAfter}
use Rattle.sr_logform.specs.declared.entry.Entry.{Entry}
use Rattle.sr_send.specs.Inner.Steps.{DoneStep}
use Rattle.sr_send.specs.Inner.Stops.{StepStop}
use Rattle.sr_send.specs.declared.fault.SendFault.{SendFault}
use Rattle.sr_send.proofs.Loops.{done_answer, stop_answer, step_unread}
use Rattle.sr_send.proofs.Results.{if_fault}
use Rattle.sr_send.proofs.reading.step.Goals as goal

pub returns-in_err-next_entry-clause-cause : goal.returns-in_err-next_entry-clause-cause
returns-in_err-next_entry-clause-cause g c =
    let before = g.S.Held.seen c.args.site.now in
    let now = g.S.Held.seen c.next_entry.new.site in
    if_fault (StepStop c.args.db.now c.args.aim.now c.args.scanner.now c.args.post.now c.args.after before now) c.in_err-next_entry.field-0.0 c.from_residual.result c.from_residual.ensures.1
    (step_unread c.args.db.now c.args.aim.now c.args.scanner.now c.args.post.now c.args.after before now c.in_err-next_entry.field-0.0 c.requires.aim c.next_entry.ensures.posted
    c.next_entry.ensures.mail c.in_err-next_entry.ensures.cause)

pub returns-in-None-clause-done : goal.returns-in-None-clause-done
returns-in-None-clause-done g c = record {
  same = refl;
  posted = c.next_entry.ensures.posted;
  steady = c.in_ok-next_entry.ensures.steady;
  none = λ told publisher done left database at. subst (λ (found : Option (Offset × Entry)). IsEntryAfter done left found) c.in-None.is (c.in_ok-next_entry.ensures.entry told publisher done left database at);
}

pub feed_one-outcome-requires-clause-later : goal.feed_one-outcome-requires-clause-later
feed_one-outcome-requires-clause-later g c =
    let within = subst (λ (found : Option (Offset × Entry)). IfSome found (λ x. (c.args.after.0 < x.0.0) × (x.0.0 ≤ c.args.db.now.log.end))) c.in-Some.is c.in_ok-next_entry.ensures.within in
    λ past. c.requires.behind c.in-Some.end.0 past within.0

pub returns-in-Some-clause-done : goal.returns-in-Some-clause-done
returns-in-Some-clause-done g c =
    let before = g.S.Held.seen c.args.site.now in
    let middle = g.S.Held.seen c.next_entry.new.site in
    let now = g.S.Held.seen c.feed_one-outcome.new.site in
    let within = subst (λ (found : Option (Offset × Entry)). IfSome found (λ x. (c.args.after.0 < x.0.0) × (x.0.0 ≤ c.args.db.now.log.end))) c.in-Some.is c.in_ok-next_entry.ensures.within in
    subst (λ (r : Result (Option Offset) SendFault). IfOk r (DoneStep c.args.db.now c.args.aim.now c.args.scanner.now c.feed_one-outcome.new.scanner c.args.post.now c.feed_one-outcome.new.post c.args.after before now)) (sym c.stepped_to.ensures)
    (done_answer c.args.db.now c.args.aim.now c.args.scanner.now c.feed_one-outcome.new.scanner c.args.post.now c.feed_one-outcome.new.post c.args.after c.in-Some.end c.in-Some.entry before middle now c.feed_one-outcome.result
    c.requires.behind c.next_entry.ensures.posted c.in_ok-next_entry.ensures.steady within
    (λ told publisher done left database at. subst (λ (found : Option (Offset × Entry)). IsEntryAfter done left found) c.in-Some.is (c.in_ok-next_entry.ensures.entry told publisher done left database at))
    c.feed_one-outcome.ensures.fed)

pub returns-in-Some-clause-cause : goal.returns-in-Some-clause-cause
returns-in-Some-clause-cause g c =
    let before = g.S.Held.seen c.args.site.now in
    let middle = g.S.Held.seen c.next_entry.new.site in
    let now = g.S.Held.seen c.feed_one-outcome.new.site in
    subst (λ (r : Result (Option Offset) SendFault). IfErr r (StepStop c.args.db.now c.args.aim.now c.args.scanner.now c.args.post.now c.args.after before now)) (sym c.stepped_to.ensures)
    (stop_answer c.args.db.now c.args.aim.now c.args.scanner.now c.args.post.now c.args.after c.in-Some.end c.in-Some.entry before middle now c.feed_one-outcome.result c.next_entry.ensures.posted c.in_ok-next_entry.ensures.steady
    (λ told publisher done left database at. subst (λ (found : Option (Offset × Entry)). IsEntryAfter done left found) c.in-Some.is (c.in_ok-next_entry.ensures.entry told publisher done left database at))
    c.feed_one-outcome.ensures.cause)
