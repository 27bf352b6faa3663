use Rattle.sr_send.specs.Inner.Stops.{PutStop}
use Rattle.sr_send.specs.declared.fault.SendFault.{SendFault}
use Rattle.sr_send.specs.declared.fault.SendFault.TheVariants.{Memory}
use Rattle.sr_send.proofs.Endings.{nothing_put}
use Rattle.sr_send.proofs.Results.{if_fault}
use Rattle.sr_send.proofs.sending.put_cut.Goals as goal

pub returns-in_err-post-clause-cause : goal.returns-in_err-post-clause-cause
returns-in_err-post-clause-cause g c =
    let seen = g.S.Held.seen c.args.site.now in
    if_fault (λ (f : SendFault). PutStop c.args.db.now c.args.aim.now c.args.book.now c.args.ask c.args.user.now seen seen f) Memory c.from_residual.result c.from_residual.ensures.1
    (nothing_put c.args.db.now c.args.aim.now c.args.book.now c.args.ask c.args.user.now seen c.requires.aim)
