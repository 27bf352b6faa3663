use Rattle.sr_receive_gather.specs.Gathers.{GatherCause}
use Rattle.sr_receive_gather.specs.declared.fault.ReceiveFault.TheVariants.{Memory}
use Rattle.sr_receive_gather.proofs.Gatherings.{gather_stopped, has_gathered, nothing_gathered}
use Rattle.sr_receive_gather.proofs.MailEnds.{if_fault}
use Rattle.sr_receive_gather.proofs.gathering.gather.Goals as goal

pub returns-in_err-bag-clause-cause : goal.returns-in_err-bag-clause-cause
returns-in_err-bag-clause-cause g c =
    let seen = g.S.Held.seen c.args.site.now in
    let db = c.args.db.now in
    let reports = c.args.reports.now.items in
    if_fault (GatherCause db.catalog db.log.end seen seen reports reports) Memory c.from_residual.result c.from_residual.ensures.1 (nothing_gathered db.catalog db.log.end seen reports)

pub returns-in-Ok-clause-gathered : goal.returns-in-Ok-clause-gathered
returns-in-Ok-clause-gathered g c =
    let db = c.args.db.now in
    has_gathered db.catalog c.catalog-catalog.result.now db.log.end c.end-end.result.0 (g.S.Held.seen c.args.site.now) (g.S.Held.seen c.gather_into.new.site) c.in_ok-bag.bag c.gather_into.new.bag c.args.reports.now.items
    c.gather_into.new.reports.items c.catalog-catalog.ensures.catalog c.end-end.ensures.end c.in_ok-bag.ensures.empty c.in-Ok.ensures.into

pub returns-in-Err-clause-cause : goal.returns-in-Err-clause-cause
returns-in-Err-clause-cause g c =
    let db = c.args.db.now in
    gather_stopped db.catalog c.catalog-catalog.result.now db.log.end c.end-end.result.0 (g.S.Held.seen c.args.site.now) (g.S.Held.seen c.gather_into.new.site) c.args.reports.now.items c.gather_into.new.reports.items c.in-Err.fault
    c.catalog-catalog.ensures.catalog c.end-end.ensures.end c.in-Err.ensures.cause
