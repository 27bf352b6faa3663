use Rattle.sr_database_files.proofs.Attaches.{synced_attaches}
use Rattle.sr_database_files.proofs.Syncs.{synced_moments}
use Rattle.sr_database.proofs.Refused.{opened_in_force, stood, stood_behind}
use Rattle.sr_database.proofs.database.Database.open.Goals as goal

pub returns-clause-stood : goal.returns-clause-stood
returns-clause-stood g c told publisher es base stands =
    stood (g.S.Held.seen c.args.site.now) (g.S.Held.seen c.open_files.new.site) publisher es base _ told (c.open_files.ensures.synced.only told).files stands (c.open_files.ensures.opened told) c.open_files.ensures.cause

pub returns-clause-stood_behind : goal.returns-clause-stood_behind
returns-clause-stood_behind g c told b es stands =
    stood_behind (g.S.Held.seen c.args.site.now) (g.S.Held.seen c.open_files.new.site) b es _ told (c.open_files.ensures.synced.only told).files stands (c.open_files.ensures.opened told) c.open_files.ensures.cause

pub returns-clause-in_force : goal.returns-clause-in_force
returns-clause-in_force g c told = opened_in_force (g.S.Held.seen c.open_files.new.site) _ (c.open_files.ensures.opened told)

pub returns-clause-files : goal.returns-clause-files
returns-clause-files g c told = (c.open_files.ensures.synced.only told).files

pub returns-clause-moments : goal.returns-clause-moments
returns-clause-moments g c told = synced_moments _ _ (c.open_files.ensures.synced.only told) (g.S.Held.read_is_image c.args.site.now told)

pub returns-clause-stays : goal.returns-clause-stays
returns-clause-stays g c = c.open_files.ensures.synced.stays

pub returns-clause-attached : goal.returns-clause-attached
returns-clause-attached g c told = synced_attaches _ _ (c.open_files.ensures.synced.only told)
