use Rattle.std.proofs.Common.{◌<◌, ◌≤◌}
use Rattle.std.specs.Prelude.{IfSome}
use Rattle.sr_database.specs.Inner.Entries.{IsBriefAfter}
use Rattle.sr_send.proofs.Founds.{read_refused, found_there, found_holds, found_steady, found_cause}
use Rattle.sr_send.proofs.Posts.{posted_read}
use Rattle.sr_send.proofs.reading.next_brief.Goals as goal

pub found_or_end-requires : goal.found_or_end-requires
found_or_end-requires g c = record {
  refusal = read_refused c.args.db.now c.args.after (g.S.Held.seen c.args.site.now) (g.S.Held.seen c.brief_read-found.new.site) c.brief_read-found.result c.brief_read-found.ensures.cause;
}

pub returns-clause-brief : goal.returns-clause-brief
returns-clause-brief g c = λ told publisher done left database at.
    let before = g.S.Held.seen c.args.site.now in
    let now = g.S.Held.seen c.brief_read-found.new.site in
    found_there (IsBriefAfter done left) c.args.db.now c.args.after before now publisher done left c.brief_read-found.result c.found_or_end.result c.found_or_end.ensures.found c.brief_read-found.ensures.cause
    (c.brief_read-found.ensures.brief told publisher done left database at) told database at

pub returns-clause-within : goal.returns-clause-within
returns-clause-within g c =
    found_holds (λ found. IfSome found (λ x. (c.args.after.0 < x.0.0) × (x.0.0 ≤ c.args.db.now.log.end))) c.brief_read-found.result c.found_or_end.result c.found_or_end.ensures.found c.brief_read-found.ensures.within (λ file at damaged. tt)

pub returns-clause-posted : goal.returns-clause-posted
returns-clause-posted g c =
    posted_read (g.S.Held.seen c.args.site.now) (g.S.Held.seen c.brief_read-found.new.site) c.brief_read-found.ensures.stays c.brief_read-found.ensures.files c.brief_read-found.ensures.happened

pub returns-clause-steady : goal.returns-clause-steady
returns-clause-steady g c =
    found_steady c.args.db.now c.args.after (g.S.Held.seen c.args.site.now) (g.S.Held.seen c.brief_read-found.new.site) c.brief_read-found.result c.found_or_end.result c.found_or_end.ensures.found c.brief_read-found.ensures.stays
    c.brief_read-found.ensures.steady c.brief_read-found.ensures.cause

pub returns-clause-cause : goal.returns-clause-cause
returns-clause-cause g c =
    found_cause c.args.db.now c.args.after (g.S.Held.seen c.args.site.now) (g.S.Held.seen c.brief_read-found.new.site) c.brief_read-found.result c.found_or_end.result c.found_or_end.ensures.found c.brief_read-found.ensures.cause
