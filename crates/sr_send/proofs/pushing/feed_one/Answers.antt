use Rattle.std.proofs.Common.{sym, ◌∙◌}
use Rattle.sr_send.specs.Inner.Stops.{FeedStop}
use Rattle.sr_send.specs.declared.fault.SendFault.TheVariants.{Memory}
use Rattle.sr_send.proofs.Pushes.{fed_old, feed_short}
use Rattle.sr_send.proofs.Results.{if_fault}
use Rattle.sr_send.proofs.pushing.feed_one.Goals as goal

pub returns-in_err-pass_over-clause-cause : goal.returns-in_err-pass_over-clause-cause
returns-in_err-pass_over-clause-cause g c =
    let seen = g.S.Held.seen c.args.site.now in
    if_fault (FeedStop c.args.aim.now c.args.scanner.now c.args.post.now c.args.at c.args.entry.now seen seen) Memory c.from_residual.result c.from_residual.ensures.1
    (feed_short c.args.aim.now c.args.scanner.now c.args.post.now c.args.at c.args.entry.now seen c.requires.aim)

pub returns-then-not-lies_past-clause-fed : goal.returns-then-not-lies_past-clause-fed
returns-then-not-lies_past-clause-fed g c =
    fed_old c.args.aim.now c.args.scanner.now c.pass_over.new.scanner c.args.post.now c.args.at c.args.entry.now (g.S.Held.seen c.args.site.now) (sym c.lies_past.ensures ∙ c.if-not-lies_past.true) c.in_ok-pass_over.ensures.passed
