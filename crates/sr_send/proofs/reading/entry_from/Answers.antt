use Rattle.sr_send.proofs.Known.{ends_within}
use Rattle.sr_send.proofs.Posts.{posted_none, same_counts}
use Rattle.sr_send.proofs.reading.entry_from.Goals as goal

pub returns-then-not-is_within-clause-entry : goal.returns-then-not-is_within-clause-entry
returns-then-not-is_within-clause-entry g c = λ told publisher done left database at from_base.
    absurd (c.is_within.ensures.without c.if-not-is_within.true from_base (ends_within c.args.db.now publisher done left (g.S.Held.seen c.args.site.now) c.args.after.0 database at))

pub returns-then-not-is_within-clause-posted : goal.returns-then-not-is_within-clause-posted
returns-then-not-is_within-clause-posted g c = posted_none (g.S.Held.seen c.args.site.now)

pub returns-then-not-is_within-clause-steady : goal.returns-then-not-is_within-clause-steady
returns-then-not-is_within-clause-steady g c = same_counts (g.S.Held.seen c.args.site.now)
