use Rattle.std.proofs.Common.{Err, refl}
use Rattle.sr_receive_gather.specs.Inner.Faults.{fault_of_mail}
use Rattle.sr_receive_gather.specs.Gathers.{GatherOneCause}
use Rattle.sr_receive_gather.specs.declared.fault.ReceiveFault.TheVariants.{Memory}
use Rattle.sr_receive_gather.proofs.Gatherings.{gone_one, unfetched_one, unsorted_one}
use Rattle.sr_receive_gather.proofs.MailEnds.{if_fault}
use Rattle.sr_receive_gather.proofs.gathering.gather_one.Goals as goal

pub returns-in_err-fetch-clause-cause : goal.returns-in_err-fetch-clause-cause
returns-in_err-fetch-clause-cause g c =
    let before = g.S.Held.seen c.args.site.now in
    let now = g.S.Held.seen c.fetch.new.self in
    let publisher = c.args.catalog.now.publisher in
    let reports = c.args.reports.now.items in
    let fault = c.in_err-fetch.field-0.0 in
    if_fault (GatherOneCause publisher c.args.name.now before now reports reports) (fault_of_mail fault) c.from_residual.result c.from_residual.ensures.1
    (unfetched_one publisher c.publisher.result.now c.args.name.now before now reports fault (Err fault) c.publisher.ensures.publisher refl c.in_err-fetch.ensures.fetched c.in_err-fetch.ensures.stays c.in_err-fetch.ensures.cause
    c.in_err-fetch.ensures.short)

pub returns-in_err-outcome-in-Some-clause-cause : goal.returns-in_err-outcome-in-Some-clause-cause
returns-in_err-outcome-in-Some-clause-cause g c =
    let before = g.S.Held.seen c.args.site.now in
    let now = g.S.Held.seen c.fetch.new.self in
    let publisher = c.args.catalog.now.publisher in
    let reports = c.args.reports.now.items in
    let reports' = c.sort-outcome.new.reports.items in
    if_fault (GatherOneCause publisher c.args.name.now before now reports reports') Memory c.from_residual-in_err-outcome-in-Some.result c.from_residual-in_err-outcome-in-Some.ensures.1
    (unsorted_one publisher c.publisher.result.now c.args.name.now before now reports reports' _ c.publisher.ensures.publisher c.in_err-outcome-in-Some.ensures.err c.in_ok-fetch.ensures.fetched c.in_ok-fetch.ensures.stays c.in_ok-fetch.ensures.steady)

pub returns-in-None-clause-one : goal.returns-in-None-clause-one
returns-in-None-clause-one g c =
    gone_one _ c.args.catalog.now c.args.end (g.S.Held.seen c.args.site.now) (g.S.Held.seen c.fetch.new.self) c.publisher.result.now c.args.name.now c.args.bag.now c.args.reports.now.items c.in_ok-fetch.field-0
    c.publisher.ensures.publisher c.in-None.is c.in_ok-fetch.ensures.fetched c.in_ok-fetch.ensures.stays c.in_ok-fetch.ensures.steady
