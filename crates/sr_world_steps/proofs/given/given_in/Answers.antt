use Rattle.std.proofs.lemmas.List.{nil_from_length}
use Rattle.sr_world_steps.proofs.Scanning.{scan_begun, scan_goes_on, scan_ended}
use Rattle.sr_world_steps.proofs.given.given_in.Goals as goal

pub entries-init : goal.entries-init
entries-init c =
    scan_begun c.args.publisher.now c.args.user.now c.args.prev.0 c.args.upto.0 c.args.log.now c.new-found.result.items c.in_ok-scanner.scanner c.new-found.ensures.items
    c.in_ok-scanner.ensures.catalog c.in_ok-scanner.ensures.user

pub entries-preserved : goal.entries-preserved
entries-preserved c =
    scan_goes_on c.args.publisher.now c.args.user.now c.args.prev.0 c.args.upto.0 c.args.log.now c.entries.left.now c.in-Some.rest.now c.entries.found.items
    c.keep.new.found.items c.entries.scanner c.feed.new.self c.in-Some.field-0-0.now c.in_ok-transaction.transaction c.entries.invariant c.in-Some.ensures.cases.0
    c.in_ok-transaction.ensures.fed c.in_ok-keep.ensures.kept

pub returns : goal.returns
returns c = record {
  given = scan_ended c.args.publisher.now c.args.user.now c.args.prev.0 c.args.upto.0 c.args.log.now c.entries.left.now c.entries.found.items c.entries.scanner
      c.entries.invariant (nil_from_length c.entries.left.now c.in_default.ensures.cases);
}
