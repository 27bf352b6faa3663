use Rattle.std.proofs.Common.{ℕ, List, ◌∷◌, subst}
use Rattle.sr_receive_gather.specs.Gathers.{GatherListedCause}
use Rattle.sr_receive_gather.specs.declared.fault.ReceiveFault.TheVariants.{Memory}
use Rattle.sr_receive_gather.proofs.Gatherings.{IsGathering, gathering_more, gathering_start, gathering_stop, untold_others}
use Rattle.sr_receive_gather.proofs.MailEnds.{if_fault}
use Rattle.sr_receive_gather.proofs.gathering.gather_listed.Goals as goal

pub returns-in_err-tell_more-clause-cause : goal.returns-in_err-tell_more-clause-cause
returns-in_err-tell_more-clause-cause g c =
    let seen = g.S.Held.seen c.args.site.now in
    let catalog = c.args.catalog.now in
    let reports = c.args.reports.now.items in
    let reports' = c.tell_more.new.reports.items in
    if_fault (GatherListedCause catalog c.args.end seen seen c.args.listing.now reports reports') Memory c.from_residual.result c.from_residual.ensures.1
    (untold_others catalog c.args.end seen c.args.listing.now reports reports' c.in_err-tell_more.ensures.err)

pub names-init : goal.names-init
names-init g c =
    gathering_start c.args.catalog.now c.args.end (g.S.Held.seen c.args.site.now) c.args.listing.now c.as_slice-left.result.now c.args.bag.now c.args.reports.now.items c.tell_more.new.reports.items c.as_slice-left.ensures.items
    c.in_ok-tell_more.ensures.told

pub returns-in_err-gather_one-clause-cause : goal.returns-in_err-gather_one-clause-cause
returns-in_err-gather_one-clause-cause g c =
    let catalog = c.args.catalog.now in
    let before = g.S.Held.seen c.args.site.now in
    let middle = g.S.Held.seen c.names.site in
    let now = g.S.Held.seen c.gather_one.new.site in
    let reports = c.args.reports.now.items in
    let reports' = c.names.reports.items in
    let reports'' = c.gather_one.new.reports.items in
    let fault = c.in_err-gather_one.field-0.0 in
    let going : IsGathering catalog c.args.end before middle c.args.listing.now (c.in-Some.name.now ∷ c.in-Some.rest.now) c.args.bag.now c.names.bag reports reports' =
    subst (λ (l : List (List ℕ)). IsGathering catalog c.args.end before middle c.args.listing.now l c.args.bag.now c.names.bag reports reports') c.in-Some.ensures.cases.0 c.names.invariant in
    if_fault (GatherListedCause catalog c.args.end before now c.args.listing.now reports reports'') fault c.from_residual-in_err-gather_one.result c.from_residual-in_err-gather_one.ensures.1
    (gathering_stop catalog c.args.end before middle now c.args.listing.now c.in-Some.name.now c.in-Some.rest.now c.args.bag.now c.names.bag reports reports' reports'' fault going c.in_err-gather_one.ensures.cause)

pub names-preserved : goal.names-preserved
names-preserved g c =
    let catalog = c.args.catalog.now in
    let before = g.S.Held.seen c.args.site.now in
    let middle = g.S.Held.seen c.names.site in
    let now = g.S.Held.seen c.gather_one.new.site in
    let reports = c.args.reports.now.items in
    let reports' = c.names.reports.items in
    let going : IsGathering catalog c.args.end before middle c.args.listing.now (c.in-Some.name.now ∷ c.in-Some.rest.now) c.args.bag.now c.names.bag reports reports' =
    subst (λ (l : List (List ℕ)). IsGathering catalog c.args.end before middle c.args.listing.now l c.args.bag.now c.names.bag reports reports') c.in-Some.ensures.cases.0 c.names.invariant in
    gathering_more catalog c.args.end before middle now c.args.listing.now c.in-Some.name.now c.in-Some.rest.now c.args.bag.now c.names.bag c.gather_one.new.bag reports reports' c.gather_one.new.reports.items going
    c.in_ok-gather_one.ensures.one
