use Rattle.std.proofs.Common.{Err, refl}
use Rattle.sr_receive_gather.specs.Inner.Faults.{fault_of_mail}
use Rattle.sr_receive_gather.specs.Inner.Fetches.{FetchOneStop}
use Rattle.sr_receive_gather.specs.declared.fault.ReceiveFault.TheVariants.{Memory}
use Rattle.sr_receive_gather.proofs.MailEnds.{if_fault}
use Rattle.sr_receive_gather.proofs.Refetching.{fetch_failed, fetch_unread, found_none, found_some}
use Rattle.sr_receive_gather.proofs.fetching.fetch_one.Goals as goal

pub returns-in_err-fetch-clause-cause : goal.returns-in_err-fetch-clause-cause
returns-in_err-fetch-clause-cause g c =
    let before = g.S.Held.seen c.args.site.now in
    let now = g.S.Held.seen c.fetch.new.self in
    let fault = c.in_err-fetch.field-0.0 in
    if_fault (FetchOneStop c.args.publisher.now c.args.piece.now before now) (fault_of_mail fault) c.from_residual.result c.from_residual.ensures.1
    (fetch_failed c.args.publisher.now c.args.piece.now before now fault (Err fault) refl c.in_err-fetch.ensures.fetched c.in_err-fetch.ensures.stays c.in_err-fetch.ensures.cause c.in_err-fetch.ensures.short)

pub returns-in_err-read-in-Some-clause-cause : goal.returns-in_err-read-in-Some-clause-cause
returns-in_err-read-in-Some-clause-cause g c =
    let before = g.S.Held.seen c.args.site.now in
    let now = g.S.Held.seen c.fetch.new.self in
    if_fault (FetchOneStop c.args.publisher.now c.args.piece.now before now) Memory c.from_residual-in_err-read-in-Some.result c.from_residual-in_err-read-in-Some.ensures.1
    (fetch_unread c.args.publisher.now c.args.piece.now before now _ c.in_ok-fetch.ensures.fetched c.in_ok-fetch.ensures.stays c.in_ok-fetch.ensures.steady)

pub returns-in-None-clause-found : goal.returns-in-None-clause-found
returns-in-None-clause-found g c =
    found_none _ c.args.publisher.now c.args.user.now c.args.piece.now (g.S.Held.seen c.args.site.now) (g.S.Held.seen c.fetch.new.self) c.in_ok-fetch.field-0 c.in-None.is c.in_ok-fetch.ensures.fetched
    c.in_ok-fetch.ensures.stays c.in_ok-fetch.ensures.steady

pub returns-in_ok-read-in-Some-clause-found : goal.returns-in_ok-read-in-Some-clause-found
returns-in_ok-read-in-Some-clause-found g c =
    found_some _ c.args.publisher.now c.args.user.now c.args.piece.now (g.S.Held.seen c.args.site.now) (g.S.Held.seen c.fetch.new.self) c.in-Some.bytes c.as_slice.result.now c.in_ok-fetch.field-0
    c.in_ok-read-in-Some.field-0 c.still.result c.in-Some.is c.as_slice.ensures.value c.in_ok-fetch.ensures.fetched c.in_ok-fetch.ensures.stays c.in_ok-fetch.ensures.steady c.in_ok-read-in-Some.ensures.found
    c.in_ok-read-in-Some.ensures.only c.still.ensures.found c.still.ensures.none
