use Rattle.std.proofs.Common.{◌+◌, ◌∷◌, [], List, length, refl, ap, subst, ◌∙◌}
use Rattle.std.specs.List.{AllByRecursion}
use Rattle.sr_mail_cut.specs.Cuts.{bodyless}
use Rattle.sr_msgform.specs.Messages.{IsMessage}
use Rattle.sr_msgform.specs.declared.message.Message.{Message}
use Rattle.sr_send.specs.Inner.Faults.{fault_of_cut}
use Rattle.sr_send.specs.PutFiles.{put_files}
use Rattle.sr_send.specs.Inner.Posting.{Posted}
use Rattle.sr_send.specs.Inner.Stops.{IsPartSent}
use Rattle.sr_send.specs.declared.fault.SendFault.{SendFault}
use Rattle.sr_send.proofs.Cutting.{bodyless_may}
use Rattle.sr_send.proofs.Endings.{bodyless_refused}
use Rattle.sr_send.proofs.Results.{if_fault}
use Rattle.sr_send.proofs.finishing.put_bodyless.Goals as goal

pub returns-in_err-messages-clause-cause : goal.returns-in_err-messages-clause-cause
returns-in_err-messages-clause-cause g c =
    let aim = c.args.aim.now in
    let seen = g.S.Held.seen c.args.site.now in
    let messages = bodyless aim.head aim.prev ∷ [] in
    if_fault (λ (f : SendFault). IsPartSent aim (aim.count + c.args.post.now.put) seen seen messages f) (fault_of_cut c.in_err-messages.field-0.0) c.from_residual.result c.from_residual.ensures.1
    (bodyless_refused aim (aim.count + c.args.post.now.put) seen messages c.in_err-messages.field-0.0 c.in_err-messages.ensures.cause)

pub put_all-outcome-requires : goal.put_all-outcome-requires
put_all-outcome-requires g c = record { each = rw c.as_slice.ensures.value (bodyless_may c.args.aim.now c.in_ok-messages.messages.items c.requires.aim c.in_ok-messages.ensures.cut) }

pub returns-in-Ok-clause-put : goal.returns-in-Ok-clause-put
returns-in-Ok-clause-put g c =
    let aim = c.args.aim.now in
    let before = g.S.Held.seen c.args.site.now in
    let now = g.S.Held.seen c.put_all-outcome.new.site in
    let is = c.as_slice.ensures.value ∙ c.in_ok-messages.ensures.cut in
    record {
      count = c.in-Ok.ensures.count ∙ ap (λ (l : List Message). c.args.post.now.put + length l) is;
      end_is = refl;
      posted = subst (λ (l : List Message). Posted before now (put_files aim.address (aim.count + c.args.post.now.put) l)) is c.in-Ok.ensures.posted;
      spelled = subst (λ (l : List Message). AllByRecursion IsMessage l) is c.in-Ok.ensures.spelled;
      steady = c.in-Ok.ensures.steady;
    }

pub returns-in-Err-clause-cause : goal.returns-in-Err-clause-cause
returns-in-Err-clause-cause g c =
    let aim = c.args.aim.now in
    let before = g.S.Held.seen c.args.site.now in
    let now = g.S.Held.seen c.put_all-outcome.new.site in
    subst (λ (l : List Message). IsPartSent aim (aim.count + c.args.post.now.put) before now l c.in-Err.fault) (c.as_slice.ensures.value ∙ c.in_ok-messages.ensures.cut) c.in-Err.ensures.cause
