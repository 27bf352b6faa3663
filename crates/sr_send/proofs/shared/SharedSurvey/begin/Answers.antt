use Rattle.sr_send.proofs.Posts.{posted_none, same_counts}
use Rattle.sr_send.proofs.shared.SharedSurvey.begin.Goals as goal

pub returns-in_default-clause-posted : goal.returns-in_default-clause-posted
returns-in_default-clause-posted g c = posted_none (g.S.Held.seen c.args.site.now)

pub returns-in_default-clause-steady : goal.returns-in_default-clause-steady
returns-in_default-clause-steady g c = same_counts (g.S.Held.seen c.args.site.now)
