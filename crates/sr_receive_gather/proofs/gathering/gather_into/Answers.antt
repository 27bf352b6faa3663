use Rattle.std.proofs.Common.{Err, refl}
use Rattle.sr_receive_gather.specs.Inner.Faults.{fault_of_mail}
use Rattle.sr_receive_gather.specs.Gathers.{GatherCause, GatherListedCause}
use Rattle.sr_receive_gather.proofs.Gatherings.{gathered_into, stopped_into, unlisted}
use Rattle.sr_receive_gather.proofs.MailEnds.{if_err_map, if_fault, on_ok_map}
use Rattle.sr_receive_gather.proofs.gathering.gather_into.Goals as goal

pub returns-in_err-listing-clause-cause : goal.returns-in_err-listing-clause-cause
returns-in_err-listing-clause-cause g c =
    let before = g.S.Held.seen c.args.site.now in
    let now = g.S.Held.seen c.list.new.self in
    let catalog = c.args.catalog.now in
    let reports = c.args.reports.now.items in
    let fault = c.in_err-listing.field-0.0 in
    if_fault (GatherCause catalog c.args.end before now reports reports) (fault_of_mail fault) c.from_residual.result c.from_residual.ensures.1
    (unlisted catalog c.args.end before now c.publisher.result.now reports fault (Err fault) c.publisher.ensures.publisher refl (λ told. let k = c.in_err-listing.ensures.listed told in (k.0, k.1)) c.in_err-listing.ensures.stays
    c.in_err-listing.ensures.cause c.in_err-listing.ensures.short)

pub returns-clause-into : goal.returns-clause-into
returns-clause-into g c =
    let before = g.S.Held.seen c.args.site.now in
    let middle = g.S.Held.seen c.list.new.self in
    let now = g.S.Held.seen c.gather_listed-outcome.new.site in
    on_ok_map c.gather_listed-outcome.result
    (λ all. gathered_into c.args.catalog.now c.args.end before middle now c.publisher.result.now c.in_ok-listing.listing c.args.bag.now c.gather_listed-outcome.new.bag c.args.reports.now.items
    c.gather_listed-outcome.new.reports.items c.publisher.ensures.publisher c.in_ok-listing.ensures.listing c.in_ok-listing.ensures.listed c.in_ok-listing.ensures.stays c.in_ok-listing.ensures.steady all)
    c.gather_listed-outcome.ensures.all

pub returns-clause-cause : goal.returns-clause-cause
returns-clause-cause g c =
    let before = g.S.Held.seen c.args.site.now in
    let middle = g.S.Held.seen c.list.new.self in
    let now = g.S.Held.seen c.gather_listed-outcome.new.site in
    let catalog = c.args.catalog.now in
    let reports = c.args.reports.now.items in
    let reports' = c.gather_listed-outcome.new.reports.items in
    if_err_map (GatherListedCause catalog c.args.end middle now c.in_ok-listing.listing reports reports') (GatherCause catalog c.args.end before now reports reports') c.gather_listed-outcome.result
    (λ fault stop. stopped_into catalog c.args.end before middle now c.publisher.result.now c.in_ok-listing.listing reports reports' fault c.publisher.ensures.publisher c.in_ok-listing.ensures.listed
    c.in_ok-listing.ensures.stays c.in_ok-listing.ensures.steady stop)
    c.gather_listed-outcome.ensures.cause
