use Rattle.std.proofs.Common.{ap, sym, subst}
use Rattle.std.specs.Prelude.{IfOk, IfErr}
use Rattle.sr_send.specs.Inner.Aims.{IsAim, aim_at}
use Rattle.sr_send.specs.Inner.Steps.{PutAll}
use Rattle.sr_send.specs.Inner.Stops.{PutStop}
use Rattle.sr_send.specs.declared.aim.Aim.{Aim}
use Rattle.sr_send.specs.declared.fault.SendFault.{SendFault}
use Rattle.sr_send.specs.declared.fault.SendFault.TheVariants.{Memory}
use Rattle.sr_send.proofs.Endings.{nothing_put}
use Rattle.sr_send.proofs.Results.{if_fault}
use Rattle.sr_send.proofs.sending.put_due.Goals as goal

pub returns-in_err-aim-clause-cause : goal.returns-in_err-aim-clause-cause
returns-in_err-aim-clause-cause g c =
    let seen = g.S.Held.seen c.args.site.now in
    let aim = aim_at c.args.db.now c.args.user.now c.args.book.now c.args.length c.args.ask in
    if_fault (λ (f : SendFault). PutStop c.args.db.now aim c.args.book.now c.args.ask c.args.user.now seen seen f) Memory c.from_residual.result c.from_residual.ensures.1
    (nothing_put c.args.db.now aim c.args.book.now c.args.ask c.args.user.now seen c.aim_at.ensures.good)

pub put_cut-outcome-requires-clause-aim : goal.put_cut-outcome-requires-clause-aim
put_cut-outcome-requires-clause-aim g c = subst (λ (a : Aim). IsAim a) (sym c.in_ok-aim.ensures.aim) c.aim_at.ensures.good

pub put_cut-outcome-requires-clause-prev : goal.put_cut-outcome-requires-clause-prev
put_cut-outcome-requires-clause-prev g c = ap (λ (a : Aim). a.prev) c.in_ok-aim.ensures.aim

pub returns-clause-put : goal.returns-clause-put
returns-clause-put g c =
    let before = g.S.Held.seen c.args.site.now in
    let now = g.S.Held.seen c.put_cut-outcome.new.site in
    subst (λ (a : Aim). IfOk c.put_cut-outcome.result (PutAll c.args.db.now a c.args.book.now c.args.ask c.args.user.now before now)) c.in_ok-aim.ensures.aim c.put_cut-outcome.ensures.put

pub returns-clause-cause : goal.returns-clause-cause
returns-clause-cause g c =
    let before = g.S.Held.seen c.args.site.now in
    let now = g.S.Held.seen c.put_cut-outcome.new.site in
    subst (λ (a : Aim). IfErr c.put_cut-outcome.result (PutStop c.args.db.now a c.args.book.now c.args.ask c.args.user.now before now)) c.in_ok-aim.ensures.aim c.put_cut-outcome.ensures.cause
