use Rattle.sr_site.specs.Inner.Growing.{disk_stays_on}
use Rattle.sr_database_files.proofs.creating.has_root.Goals as goal

pub returns-in_err-length-clause-stays : goal.returns-in_err-length-clause-stays
returns-in_err-length-clause-stays g c = disk_stays_on _ (g.S.Held.seen c.sync.new.self) _ c.in_ok-sync.ensures.stays c.in_err-length.ensures.stays

pub returns-then-length-eq0-clause-stays : goal.returns-then-length-eq0-clause-stays
returns-then-length-eq0-clause-stays g c = disk_stays_on _ (g.S.Held.seen c.sync.new.self) _ c.in_ok-sync.ensures.stays c.in_ok-length.ensures.stays

pub returns-clause-stays : goal.returns-clause-stays
returns-clause-stays g c = disk_stays_on _ (g.S.Held.seen c.sync.new.self) _ c.in_ok-sync.ensures.stays c.in_ok-length.ensures.stays
