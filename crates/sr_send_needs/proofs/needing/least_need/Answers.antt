use Rattle.sr_send_needs.proofs.Followed.{in_force_on}
use Rattle.sr_send_needs.proofs.needing.least_need.Goals as goal

pub returns-in-Ok-clause-in_force : goal.returns-in-Ok-clause-in_force
returns-in-Ok-clause-in_force g c = in_force_on c.args.db.now (g.S.Held.seen c.args.site.now) (g.S.Held.seen c.least_of_all.new.site) c.least_of_all.ensures.read

pub returns-in-Err-clause-in_force : goal.returns-in-Err-clause-in_force
returns-in-Err-clause-in_force g c = in_force_on c.args.db.now (g.S.Held.seen c.args.site.now) (g.S.Held.seen c.least_of_all.new.site) c.least_of_all.ensures.read
