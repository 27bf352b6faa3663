use Rattle.std.proofs.Common.{◌<◌}
use Rattle.std.specs.Prelude.{IfSome}
use Rattle.sr_database.specs.Inner.Entries.{IsEndAfter}
use Rattle.sr_send.proofs.Founds.{read_refused, found_there, found_holds, found_steady, found_cause, found_kept}
use Rattle.sr_send.proofs.Posts.{posted_read}
use Rattle.sr_send.proofs.starting.found_end.Goals as goal

pub found_or_end-requires : goal.found_or_end-requires
found_or_end-requires g c = record {
  refusal = read_refused c.args.db.now c.args.after (g.S.Held.seen c.args.site.now) (g.S.Held.seen c.end_after-outcome.new.site) c.end_after-outcome.result c.end_after-outcome.ensures.cause;
}

pub returns-clause-end : goal.returns-clause-end
returns-clause-end g c = λ told publisher done left database at.
    let before = g.S.Held.seen c.args.site.now in
    let now = g.S.Held.seen c.end_after-outcome.new.site in
    found_there (IsEndAfter done left) c.args.db.now c.args.after before now publisher done left c.end_after-outcome.result c.found_or_end.result c.found_or_end.ensures.found c.end_after-outcome.ensures.cause
    (c.end_after-outcome.ensures.end told publisher done left database at) told database at

pub returns-clause-later : goal.returns-clause-later
returns-clause-later g c =
    found_holds (λ found. IfSome found (λ end. c.args.after.0 < end.0)) c.end_after-outcome.result c.found_or_end.result c.found_or_end.ensures.found c.end_after-outcome.ensures.later (λ file at damaged. tt)

pub returns-clause-posted : goal.returns-clause-posted
returns-clause-posted g c =
    posted_read (g.S.Held.seen c.args.site.now) (g.S.Held.seen c.end_after-outcome.new.site) c.end_after-outcome.ensures.stays c.end_after-outcome.ensures.files c.end_after-outcome.ensures.happened

pub returns-clause-steady : goal.returns-clause-steady
returns-clause-steady g c =
    found_steady c.args.db.now c.args.after (g.S.Held.seen c.args.site.now) (g.S.Held.seen c.end_after-outcome.new.site) c.end_after-outcome.result c.found_or_end.result c.found_or_end.ensures.found c.end_after-outcome.ensures.stays
    c.end_after-outcome.ensures.steady c.end_after-outcome.ensures.cause

pub returns-clause-cause : goal.returns-clause-cause
returns-clause-cause g c =
    found_cause c.args.db.now c.args.after (g.S.Held.seen c.args.site.now) (g.S.Held.seen c.end_after-outcome.new.site) c.end_after-outcome.result c.found_or_end.result c.found_or_end.ensures.found c.end_after-outcome.ensures.cause

pub returns-clause-memory : goal.returns-clause-memory
returns-clause-memory g c = found_kept c.end_after-outcome.result c.found_or_end.result c.found_or_end.ensures.found c.end_after-outcome.ensures.memory
