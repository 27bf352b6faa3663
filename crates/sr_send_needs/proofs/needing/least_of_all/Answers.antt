use Rattle.std.proofs.Common.{ap, ◌∙◌}
use Rattle.sr_catalog_schema.specs.Catalogs.{Lists}
use Rattle.sr_send_needs.proofs.Followed.{read_on}
use Rattle.sr_send_needs.proofs.Seekings.{all_before, all_granted}
use Rattle.sr_send_needs.proofs.needing.least_of_all.Goals as goal

pub all_confirmed-requires-clause-granted : goal.all_confirmed-requires-clause-granted
all_confirmed-requires-clause-granted g c = all_granted c.args.db.now c.users-users.result.now (c.users-users.ensures.users ∙ ap (λ (l : Lists). l.users) c.catalog.ensures.catalog)

pub least_past-requires-clause-confirmed : goal.least_past-requires-clause-confirmed
least_past-requires-clause-confirmed g c = all_before c.args.db.now c.all_confirmed.result.0 c.in_ok-start.start.at.0 c.users-users.result.now c.in_ok-start.ensures.before c.all_confirmed.ensures.confirmed

pub returns-clause-read : goal.returns-clause-read
returns-clause-read g c = read_on (g.S.Held.seen c.args.site.now) (g.S.Held.seen c.begin.new.site) (g.S.Held.seen c.least_past.new.site) c.begin.ensures.read c.least_past.ensures.read
