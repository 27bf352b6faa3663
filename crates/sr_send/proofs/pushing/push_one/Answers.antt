use Rattle.std.proofs.Common.{◌+◌, ◌∷◌, [], List, length, refl, ap, subst, ◌∙◌}
use Rattle.std.specs.List.{AllByRecursion}
use Rattle.sr_msgform.specs.Messages.{IsMessage}
use Rattle.sr_msgform.specs.declared.message.Message.{Message}
use Rattle.sr_send.specs.Inner.Faults.{fault_of_cut}
use Rattle.sr_send.specs.PutFiles.{put_files}
use Rattle.sr_send.specs.Inner.Posting.{Posted}
use Rattle.sr_send.specs.Inner.Stops.{IsPartSent, PushStop}
use Rattle.sr_send.proofs.Pushes.{IsCutBy, closed_may, pushed_one, stopped_long, stopped_putting}
use Rattle.sr_send.proofs.Results.{if_fault}
use Rattle.sr_send.proofs.pushing.push_one.Goals as goal

pub returns-in_err-closed-clause-cause : goal.returns-in_err-closed-clause-cause
returns-in_err-closed-clause-cause g c =
    let seen = g.S.Held.seen c.args.site.now in
    let fault = fault_of_cut c.in_err-closed.field-0.0 in
    if_fault (λ f. PushStop c.args.aim.now c.args.post.now seen seen (c.args.transaction.now ∷ []) f) fault c.from_residual.result c.from_residual.ensures.1
    (stopped_long c.args.aim.now c.args.post.now seen c.args.transaction.now c.in_err-closed.field-0.0 c.requires.aim c.in_err-closed.ensures.cause)

pub put_all-outcome-requires : goal.put_all-outcome-requires
put_all-outcome-requires g c =
    let by : IsCutBy c.args.post.now.cutter c.push.new.self c.args.transaction.now c.in_ok-closed.closed.items = record {
      given = c.in_ok-closed.ensures.given;
      fits = c.in_ok-closed.ensures.fits;
      head = c.in_ok-closed.ensures.same.0;
      limit = c.in_ok-closed.ensures.same.1;
    } in
    record {
      each = rw c.as_slice.ensures.value
          (closed_may c.args.aim.now c.args.post.now c.push.new.self c.args.transaction.now c.in_ok-closed.closed.items c.requires.aim c.requires.made c.requires.later by);
    }

pub returns-in-Ok-clause-pushed : goal.returns-in-Ok-clause-pushed
returns-in-Ok-clause-pushed g c =
    let aim = c.args.aim.now in
    let before = g.S.Held.seen c.args.site.now in
    let now = g.S.Held.seen c.put_all-outcome.new.site in
    let closed = c.in_ok-closed.closed.items in
    let by : IsCutBy c.args.post.now.cutter c.push.new.self c.args.transaction.now closed = record {
      given = c.in_ok-closed.ensures.given;
      fits = c.in_ok-closed.ensures.fits;
      head = c.in_ok-closed.ensures.same.0;
      limit = c.in_ok-closed.ensures.same.1;
    } in
    pushed_one aim c.args.post.now _ c.args.transaction.now closed before now c.requires.later by refl
    (c.in-Ok.ensures.count ∙ ap (λ (l : List Message). c.args.post.now.put + length l) c.as_slice.ensures.value)
    (subst (λ (l : List Message). Posted before now (put_files aim.address (aim.count + c.args.post.now.put) l)) c.as_slice.ensures.value c.in-Ok.ensures.posted)
    (subst (λ (l : List Message). AllByRecursion IsMessage l) c.as_slice.ensures.value c.in-Ok.ensures.spelled)
    c.in-Ok.ensures.steady

pub returns-in-Err-clause-cause : goal.returns-in-Err-clause-cause
returns-in-Err-clause-cause g c =
    let aim = c.args.aim.now in
    let before = g.S.Held.seen c.args.site.now in
    let now = g.S.Held.seen c.put_all-outcome.new.site in
    let closed = c.in_ok-closed.closed.items in
    let by : IsCutBy c.args.post.now.cutter c.push.new.self c.args.transaction.now closed = record {
      given = c.in_ok-closed.ensures.given;
      fits = c.in_ok-closed.ensures.fits;
      head = c.in_ok-closed.ensures.same.0;
      limit = c.in_ok-closed.ensures.same.1;
    } in
    stopped_putting aim c.args.post.now c.push.new.self c.args.transaction.now closed before now c.in-Err.fault c.requires.aim by
    (subst (λ (l : List Message). IsPartSent aim (aim.count + c.args.post.now.put) before now l c.in-Err.fault) c.as_slice.ensures.value c.in-Err.ensures.cause)
