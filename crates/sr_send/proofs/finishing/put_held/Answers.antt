use Rattle.std.proofs.Common.{◌+◌, List, length, refl, ap, subst, ◌∙◌}
use Rattle.std.specs.List.{AllByRecursion}
use Rattle.sr_msgform.specs.Messages.{IsMessage}
use Rattle.sr_msgform.specs.declared.message.Message.{Message}
use Rattle.sr_send.specs.PutFiles.{put_files}
use Rattle.sr_send.specs.Inner.Posting.{Posted}
use Rattle.sr_send.specs.Inner.Stops.{IsPartSent, HeldStop}
use Rattle.sr_send.specs.declared.fault.SendFault.TheVariants.{Memory}
use Rattle.sr_send.proofs.Endings.{held_may, emptied_so, held_short, held_stopped}
use Rattle.sr_send.proofs.Results.{if_fault}
use Rattle.sr_send.proofs.finishing.put_held.Goals as goal

pub returns-in_err-closed-clause-cause : goal.returns-in_err-closed-clause-cause
returns-in_err-closed-clause-cause g c =
    let seen = g.S.Held.seen c.args.site.now in
    if_fault (HeldStop c.args.aim.now c.args.post.now seen seen) Memory c.from_residual.result c.from_residual.ensures.1 (held_short c.args.aim.now c.args.post.now seen)

pub put_all-outcome-requires : goal.put_all-outcome-requires
put_all-outcome-requires g c = record {
  each = rw c.as_slice.ensures.value (held_may c.args.aim.now c.args.post.now c.in_ok-closed.closed.items c.requires.aim c.requires.made c.in_ok-closed.ensures.cut);
}

pub returns-in-Ok-clause-emptied : goal.returns-in-Ok-clause-emptied
returns-in-Ok-clause-emptied g c =
    let aim = c.args.aim.now in
    let before = g.S.Held.seen c.args.site.now in
    let now = g.S.Held.seen c.put_all-outcome.new.site in
    emptied_so aim c.args.post.now _ c.in_ok-closed.closed.items before now c.in_ok-closed.ensures.cut
    (c.in-Ok.ensures.count ∙ ap (λ (l : List Message). c.args.post.now.put + length l) c.as_slice.ensures.value) refl
    (subst (λ (l : List Message). Posted before now (put_files aim.address (aim.count + c.args.post.now.put) l)) c.as_slice.ensures.value c.in-Ok.ensures.posted)
    (subst (λ (l : List Message). AllByRecursion IsMessage l) c.as_slice.ensures.value c.in-Ok.ensures.spelled)
    c.in-Ok.ensures.steady

pub returns-in-Err-clause-cause : goal.returns-in-Err-clause-cause
returns-in-Err-clause-cause g c =
    let aim = c.args.aim.now in
    let before = g.S.Held.seen c.args.site.now in
    let now = g.S.Held.seen c.put_all-outcome.new.site in
    held_stopped aim c.args.post.now c.in_ok-closed.closed.items before now c.in-Err.fault c.in_ok-closed.ensures.cut
    (subst (λ (l : List Message). IsPartSent aim (aim.count + c.args.post.now.put) before now l c.in-Err.fault) c.as_slice.ensures.value c.in-Err.ensures.cause)
