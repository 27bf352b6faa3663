use Rattle.std.proofs.Common.{◌∙◌}
use Rattle.sr_site.specs.declared.file.File.TheVariants.{Root}
use Rattle.sr_site.specs.Inner.Growing.{disk_stays_on}
use Rattle.sr_database_files.proofs.Making.{off_on, log0_not_root, log1_not_root, snap0_not_root, snap1_not_root, new_settled}
use Rattle.sr_database_files.proofs.creating.make_generations.Goals as goal

pub returns-in_err-make_log-2-clause-happened : goal.returns-in_err-make_log-2-clause-happened
returns-in_err-make_log-2-clause-happened g c told =
    off_on Root _ (g.S.Held.seen c.make_log.new.site).happened _ (log0_not_root _ _ (c.in_ok-make_log.ensures.happened told)) (log1_not_root _ _ (c.in_err-make_log-2.ensures.happened (c.in_ok-make_log.ensures.stays.observable ∙ told)))

pub returns-in_err-replace-clause-happened : goal.returns-in_err-replace-clause-happened
returns-in_err-replace-clause-happened g c told =
    let after_one = c.in_ok-make_log.ensures.stays.observable ∙ told in
    let after_two = c.in_ok-make_log-2.ensures.stays.observable ∙ after_one in
    off_on Root _ (g.S.Held.seen c.make_log.new.site).happened _ (log0_not_root _ _ (c.in_ok-make_log.ensures.happened told))
    (off_on Root _ (g.S.Held.seen c.make_log-2.new.site).happened _ (log1_not_root _ _ (c.in_ok-make_log-2.ensures.happened after_one)) (snap0_not_root _ _ (c.in_err-replace.ensures.happened after_two)))

pub returns-in_err-replace-2-clause-happened : goal.returns-in_err-replace-2-clause-happened
returns-in_err-replace-2-clause-happened g c told =
    let after_one = c.in_ok-make_log.ensures.stays.observable ∙ told in
    let after_two = c.in_ok-make_log-2.ensures.stays.observable ∙ after_one in
    let after_three = c.in_ok-replace.ensures.stays.observable ∙ after_two in
    off_on Root _ (g.S.Held.seen c.make_log.new.site).happened _ (log0_not_root _ _ (c.in_ok-make_log.ensures.happened told))
    (off_on Root _ (g.S.Held.seen c.make_log-2.new.site).happened _ (log1_not_root _ _ (c.in_ok-make_log-2.ensures.happened after_one))
    (off_on Root _ (g.S.Held.seen c.replace.new.site).happened _ (snap0_not_root _ _ (c.in_ok-replace.ensures.happened after_two)) (snap1_not_root _ _ (c.in_err-replace-2.ensures.happened after_three))))

pub returns-clause-happened : goal.returns-clause-happened
returns-clause-happened g c told =
    let after_one = c.in_ok-make_log.ensures.stays.observable ∙ told in
    let after_two = c.in_ok-make_log-2.ensures.stays.observable ∙ after_one in
    let after_three = c.in_ok-replace.ensures.stays.observable ∙ after_two in
    off_on Root _ (g.S.Held.seen c.make_log.new.site).happened _ (log0_not_root _ _ (c.in_ok-make_log.ensures.happened told))
    (off_on Root _ (g.S.Held.seen c.make_log-2.new.site).happened _ (log1_not_root _ _ (c.in_ok-make_log-2.ensures.happened after_one))
    (off_on Root _ (g.S.Held.seen c.replace.new.site).happened _ (snap0_not_root _ _ (c.in_ok-replace.ensures.happened after_two)) (snap1_not_root _ _ (c.in_ok-replace-2.ensures.happened after_three))))

pub returns-clause-settled : goal.returns-clause-settled
returns-clause-settled g c told =
    let after_one = c.in_ok-make_log.ensures.stays.observable ∙ told in
    let after_two = c.in_ok-make_log-2.ensures.stays.observable ∙ after_one in
    let after_three = c.in_ok-replace.ensures.stays.observable ∙ after_two in
    new_settled c.args.snapshot.now (g.S.Held.seen c.args.site.now) (g.S.Held.seen c.make_log.new.site) (g.S.Held.seen c.make_log-2.new.site) (g.S.Held.seen c.replace.new.site) (g.S.Held.seen c.replace-2.new.site)
    (c.in_ok-make_log.ensures.replaced told) (c.in_ok-make_log-2.ensures.replaced after_one) (c.in_ok-replace.ensures.replaced after_two) (c.in_ok-replace-2.ensures.replaced after_three)
    c.in_ok-make_log-2.ensures.stays.first c.in_ok-replace.ensures.stays.first c.in_ok-replace-2.ensures.stays.first
    (c.in_ok-make_log-2.ensures.happened after_one) (c.in_ok-replace.ensures.happened after_two) (c.in_ok-replace-2.ensures.happened after_three)

pub returns-in_err-make_log-clause-happened : goal.returns-in_err-make_log-clause-happened
returns-in_err-make_log-clause-happened g c told = log0_not_root _ _ (c.in_err-make_log.ensures.happened told)

pub returns-in_err-make_log-2-clause-stays : goal.returns-in_err-make_log-2-clause-stays
returns-in_err-make_log-2-clause-stays g c = disk_stays_on _ (g.S.Held.seen c.make_log.new.site) _ c.in_ok-make_log.ensures.stays c.in_err-make_log-2.ensures.stays

pub returns-in_err-replace-clause-stays : goal.returns-in_err-replace-clause-stays
returns-in_err-replace-clause-stays g c = disk_stays_on _ (g.S.Held.seen c.make_log.new.site) _ c.in_ok-make_log.ensures.stays (disk_stays_on _ (g.S.Held.seen c.make_log-2.new.site) _ c.in_ok-make_log-2.ensures.stays c.in_err-replace.ensures.stays)

pub returns-in_err-replace-2-clause-stays : goal.returns-in_err-replace-2-clause-stays
returns-in_err-replace-2-clause-stays g c = disk_stays_on _ (g.S.Held.seen c.make_log.new.site) _ c.in_ok-make_log.ensures.stays (disk_stays_on _ (g.S.Held.seen c.make_log-2.new.site) _ c.in_ok-make_log-2.ensures.stays (disk_stays_on _ (g.S.Held.seen c.replace.new.site) _ c.in_ok-replace.ensures.stays c.in_err-replace-2.ensures.stays))

pub returns-clause-stays : goal.returns-clause-stays
returns-clause-stays g c = disk_stays_on _ (g.S.Held.seen c.make_log.new.site) _ c.in_ok-make_log.ensures.stays (disk_stays_on _ (g.S.Held.seen c.make_log-2.new.site) _ c.in_ok-make_log-2.ensures.stays (disk_stays_on _ (g.S.Held.seen c.replace.new.site) _ c.in_ok-replace.ensures.stays c.in_ok-replace-2.ensures.stays))
