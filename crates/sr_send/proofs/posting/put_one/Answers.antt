use Rattle.std.proofs.Common.{Err, refl, sym, subst, ◌∙◌}
use Rattle.sr_send.specs.Inner.Stops.{IsPartPut}
use Rattle.sr_send.specs.declared.fault.SendFault.{SendFault}
use Rattle.sr_send.specs.declared.fault.SendFault.TheVariants.{Memory}
use Rattle.sr_send.proofs.Posts.{steady_put, ends_put, put_as, not_begun, part_begun}
use Rattle.sr_send.proofs.Results.{if_fault}
use Rattle.sr_send.proofs.posting.put_one.Goals as goal

pub returns-in_err-name-clause-cause : goal.returns-in_err-name-clause-cause
returns-in_err-name-clause-cause g c =
    let seen = g.S.Held.seen c.args.site.now in
    if_fault (IsPartPut seen seen c.args.address.now c.args.number c.args.message.now) Memory c.from_residual.result c.from_residual.ensures.1 (not_begun seen c.args.address.now c.args.number c.args.message.now)

pub returns-in_err-bytes-clause-cause : goal.returns-in_err-bytes-clause-cause
returns-in_err-bytes-clause-cause g c =
    let seen = g.S.Held.seen c.args.site.now in
    if_fault (IsPartPut seen seen c.args.address.now c.args.number c.args.message.now) Memory c.from_residual-in_err-bytes.result c.from_residual-in_err-bytes.ensures.1 (not_begun seen c.args.address.now c.args.number c.args.message.now)

pub returns-in-Ok-clause-put : goal.returns-in-Ok-clause-put
returns-in-Ok-clause-put g c =
    put_as (g.S.Held.seen c.args.site.now) (g.S.Held.seen c.put-outcome.new.self) c.args.address.now c.in_ok-name.name c.as_slice.result.now _ c.args.number c.args.message.now c.in_ok-name.ensures
    (c.as_slice.ensures.value ∙ c.in_ok-bytes.ensures.spelling) c.in-Ok.ensures.stays c.in-Ok.ensures.put

pub returns-in-Ok-clause-steady : goal.returns-in-Ok-clause-steady
returns-in-Ok-clause-steady g c =
    steady_put (g.S.Held.seen c.args.site.now) (g.S.Held.seen c.put-outcome.new.self) c.args.address.now c.in_ok-name.name c.as_slice.result.now c.in-Ok.ensures.stays c.in-Ok.ensures.steady c.in-Ok.ensures.put

pub returns-in-Err-clause-cause : goal.returns-in-Err-clause-cause
returns-in-Err-clause-cause g c =
    let before = g.S.Held.seen c.args.site.now in
    let now = g.S.Held.seen c.put-outcome.new.self in
    let posted = put_as before now c.args.address.now c.in_ok-name.name c.as_slice.result.now _ c.args.number c.args.message.now c.in_ok-name.ensures
    (c.as_slice.ensures.value ∙ c.in_ok-bytes.ensures.spelling) c.in-Err.ensures.stays c.in-Err.ensures.put in
    subst (λ (f : SendFault). IsPartPut before now c.args.address.now c.args.number c.args.message.now f) (sym c.from.ensures) (part_begun before now c.args.address.now c.args.number c.args.message.now c.in-Err.fault (Err c.in-Err.fault) refl posted c.in_ok-bytes.ensures.kept
    (ends_put before now c.args.address.now c.in_ok-name.name c.as_slice.result.now _ c.in-Err.ensures.put) c.in-Err.ensures.stays c.in-Err.ensures.cause c.in-Err.ensures.short)
