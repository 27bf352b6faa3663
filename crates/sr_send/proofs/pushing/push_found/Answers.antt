use Rattle.std.proofs.Common.{Option, sym, subst}
use Rattle.sr_logform.specs.declared.op.Transaction.{Transaction}
use Rattle.sr_send.specs.Inner.Steps.{newer, Pushed}
use Rattle.sr_send.proofs.Pushes.{pushed_nothing}
use Rattle.sr_send.proofs.pushing.push_found.Goals as goal

pub returns-in-None-clause-pushed : goal.returns-in-None-clause-pushed
returns-in-None-clause-pushed g c =
    let seen = g.S.Held.seen c.args.site.now in
    subst (λ (found : Option Transaction). Pushed c.args.aim.now c.args.post.now c.args.post.now seen seen (newer c.args.aim.now.prev.0 found)) (sym c.in-None.is) (pushed_nothing c.args.aim.now c.args.post.now seen)
