use Rattle.std.proofs.Common.{◌<◌, ◌≤◌, Option, subst}
use Rattle.std.specs.Prelude.{IfSome}
use Rattle.sr_base.specs.declared.offset.Offset.{Offset}
use Rattle.sr_database.specs.Inner.Entries.{IsEntryAfter}
use Rattle.sr_logform.specs.declared.entry.Entry.{Entry}
use Rattle.sr_send_needs.proofs.Searches.{step_answer, step_limit}
use Rattle.sr_send_needs.proofs.searching.step.Goals as goal

pub returns-then-limit-at-clause-step : goal.returns-then-limit-at-clause-step
returns-then-limit-at-clause-step g c = step_limit c.args.db.now c.args.sent.0 c.args.limit.0 c.args.scanner.now c.args.at (g.S.Held.seen c.args.site.now) c.if-limit-at.true

pub returns-in-Some-clause-step : goal.returns-in-Some-clause-step
returns-in-Some-clause-step g c =
    let before = g.S.Held.seen c.args.site.now in
    let within = subst (λ (found : Option (Offset × Entry)). IfSome found (λ x. (c.args.at.0 < x.0.0) × (x.0.0 ≤ c.args.db.now.log.end))) c.in-Some.is c.in_ok-entry_read.ensures.within in
    step_answer c.args.db.now c.args.sent.0 c.args.limit.0 c.args.scanner.now c.gives_past-past.new.scanner c.args.at c.in-Some.end c.in-Some.entry before c.gives_past-past.result c.step_to.result c.step_to.ensures within
    (λ told publisher done left database at. subst (λ (found : Option (Offset × Entry)). IsEntryAfter done left found) c.in-Some.is (c.in_ok-entry_read.ensures.entry told publisher done left database at))
    c.gives_past-past.ensures.asked
