use Rattle.std.proofs.Common.{◌∙◌}
use Rattle.sr_site.specs.declared.file.File.TheVariants.{Root}
use Rattle.sr_site.specs.Inner.Growing.{disk_stays_on}
use Rattle.sr_database_files.proofs.Beside.{on_on, on_wrote, on_synced}
use Rattle.sr_database_files.proofs.creating.name_generation.Goals as goal

pub returns-in_err-sync-clause-happened : goal.returns-in_err-sync-clause-happened
returns-in_err-sync-clause-happened g c told =
    on_on Root _ (g.S.Held.seen c.write_at.new.self).happened _ (on_wrote Root _ _ _ _ _ _ (c.in_ok-write_at.ensures.happened told)) (on_synced Root _ _ _ _ (c.in_err-sync.ensures.happened (c.in_ok-write_at.ensures.stays.observable ∙ told)))

pub returns-clause-happened : goal.returns-clause-happened
returns-clause-happened g c told =
    on_on Root _ (g.S.Held.seen c.write_at.new.self).happened _ (on_wrote Root _ _ _ _ _ _ (c.in_ok-write_at.ensures.happened told)) (on_synced Root _ _ _ _ (c.in_ok-sync.ensures.happened (c.in_ok-write_at.ensures.stays.observable ∙ told)))

pub returns-in_err-write_at-clause-happened : goal.returns-in_err-write_at-clause-happened
returns-in_err-write_at-clause-happened g c told = on_wrote Root _ _ _ _ _ _ (c.in_err-write_at.ensures.happened told)

pub returns-in_err-sync-clause-stays : goal.returns-in_err-sync-clause-stays
returns-in_err-sync-clause-stays g c = disk_stays_on _ (g.S.Held.seen c.write_at.new.self) _ c.in_ok-write_at.ensures.stays c.in_err-sync.ensures.stays

pub returns-clause-stays : goal.returns-clause-stays
returns-clause-stays g c = disk_stays_on _ (g.S.Held.seen c.write_at.new.self) _ c.in_ok-write_at.ensures.stays c.in_ok-sync.ensures.stays
