use Rattle.sr_receive_gather.specs.Purges.{PurgeCause}
use Rattle.sr_receive_gather.proofs.Removing.{purging_on, purging_stops}
use Rattle.sr_receive_gather.proofs.MailEnds.{if_fault}
use Rattle.sr_receive_gather.proofs.purging.remove_dead.Goals as goal

pub returns-in_err-count-clause-cause : goal.returns-in_err-count-clause-cause
returns-in_err-count-clause-cause g c =
    let before = g.S.Held.seen c.args.site.now in
    let middle = g.S.Held.seen c.files.site in
    let now = g.S.Held.seen c.remove_next.new.site in
    let address = c.args.publisher.now in
    let book = c.args.book.now in
    if_fault (PurgeCause address book c.args.files.now before now) c.in_err-count.field-0.0 c.from_residual.result c.from_residual.ensures.1
    (purging_stops address book c.args.files.now c.files.left.now c.in-Some.rest.now c.in-Some.file.now before middle now c.files.count c.in_err-count.field-0.0 c.files.invariant
    c.in-Some.ensures.cases.0 c.in_err-count.ensures.cause)

pub files-preserved : goal.files-preserved
files-preserved g c =
    let before = g.S.Held.seen c.args.site.now in
    let middle = g.S.Held.seen c.files.site in
    let now = g.S.Held.seen c.remove_next.new.site in
    purging_on c.args.publisher.now c.args.book.now c.args.files.now c.files.left.now c.in-Some.rest.now c.in-Some.file.now before middle now c.files.count c.in_ok-count.count c.files.invariant
    c.in-Some.ensures.cases.0 c.in_ok-count.ensures.purged
