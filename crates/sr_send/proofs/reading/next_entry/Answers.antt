use Rattle.std.proofs.Common.{◌<◌, ◌≤◌}
use Rattle.std.specs.Prelude.{IfSome}
use Rattle.sr_database.specs.Inner.Entries.{IsEntryAfter}
use Rattle.sr_send.proofs.Founds.{read_refused, found_there, found_holds, found_steady, found_cause}
use Rattle.sr_send.proofs.Posts.{posted_read}
use Rattle.sr_send.proofs.reading.next_entry.Goals as goal

pub found_or_end-requires : goal.found_or_end-requires
found_or_end-requires g c = record {
  refusal = read_refused c.args.db.now c.args.after (g.S.Held.seen c.args.site.now) (g.S.Held.seen c.entry_read-outcome.new.site) c.entry_read-outcome.result c.entry_read-outcome.ensures.cause;
}

pub returns-clause-entry : goal.returns-clause-entry
returns-clause-entry g c = λ told publisher done left database at.
    let before = g.S.Held.seen c.args.site.now in
    let now = g.S.Held.seen c.entry_read-outcome.new.site in
    found_there (IsEntryAfter done left) c.args.db.now c.args.after before now publisher done left c.entry_read-outcome.result c.found_or_end.result c.found_or_end.ensures.found c.entry_read-outcome.ensures.cause
    (c.entry_read-outcome.ensures.entry told publisher done left database at) told database at

pub returns-clause-within : goal.returns-clause-within
returns-clause-within g c =
    found_holds (λ found. IfSome found (λ x. (c.args.after.0 < x.0.0) × (x.0.0 ≤ c.args.db.now.log.end))) c.entry_read-outcome.result c.found_or_end.result c.found_or_end.ensures.found c.entry_read-outcome.ensures.within (λ file at damaged. tt)

pub returns-clause-posted : goal.returns-clause-posted
returns-clause-posted g c =
    posted_read (g.S.Held.seen c.args.site.now) (g.S.Held.seen c.entry_read-outcome.new.site) c.entry_read-outcome.ensures.stays c.entry_read-outcome.ensures.files c.entry_read-outcome.ensures.happened

pub returns-clause-steady : goal.returns-clause-steady
returns-clause-steady g c =
    found_steady c.args.db.now c.args.after (g.S.Held.seen c.args.site.now) (g.S.Held.seen c.entry_read-outcome.new.site) c.entry_read-outcome.result c.found_or_end.result c.found_or_end.ensures.found c.entry_read-outcome.ensures.stays
    c.entry_read-outcome.ensures.steady c.entry_read-outcome.ensures.cause

pub returns-clause-cause : goal.returns-clause-cause
returns-clause-cause g c =
    found_cause c.args.db.now c.args.after (g.S.Held.seen c.args.site.now) (g.S.Held.seen c.entry_read-outcome.new.site) c.entry_read-outcome.result c.found_or_end.result c.found_or_end.ensures.found c.entry_read-outcome.ensures.cause
