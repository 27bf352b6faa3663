use Rattle.sr_send.specs.Inner.Stops.{FeedStop}
use Rattle.sr_send.specs.declared.fault.SendFault.TheVariants.{Memory}
use Rattle.sr_send.proofs.Pushes.{fed_answer, feed_short, feed_answer, later_found}
use Rattle.sr_send.proofs.Results.{if_fault}
use Rattle.sr_send.proofs.pushing.feed_new.Goals as goal

pub returns-in_err-found-clause-cause : goal.returns-in_err-found-clause-cause
returns-in_err-found-clause-cause g c =
    let seen = g.S.Held.seen c.args.site.now in
    if_fault (FeedStop c.args.aim.now c.args.scanner.now c.args.post.now c.args.at c.args.entry.now seen seen) Memory c.from_residual.result c.from_residual.ensures.1
    (feed_short c.args.aim.now c.args.scanner.now c.args.post.now c.args.at c.args.entry.now seen c.requires.aim)

pub push_found-requires-clause-later : goal.push_found-requires-clause-later
push_found-requires-clause-later g c =
    later_found c.args.aim.now.prev.0 c.args.post.now.end c.args.at c.args.scanner.now c.feed.new.self c.args.entry.now c.in_ok-found.found c.in_ok-found.ensures.fed c.requires.later

pub returns-clause-fed : goal.returns-clause-fed
returns-clause-fed g c =
    fed_answer c.args.aim.now c.args.scanner.now c.feed.new.self c.args.post.now c.push_found.new.post c.args.at c.args.entry.now c.in_ok-found.found (g.S.Held.seen c.args.site.now) (g.S.Held.seen c.push_found.new.site)
    c.push_found.result c.in_ok-found.ensures.fed c.push_found.ensures.pushed c.push_found.ensures.end

pub returns-clause-cause : goal.returns-clause-cause
returns-clause-cause g c =
    feed_answer c.args.aim.now c.args.scanner.now c.feed.new.self c.args.post.now c.args.at c.args.entry.now c.in_ok-found.found (g.S.Held.seen c.args.site.now) (g.S.Held.seen c.push_found.new.site)
    c.push_found.result c.in_ok-found.ensures.fed c.push_found.ensures.cause
