use Rattle.sr_receive.proofs.Shared.{has_cause, has_received, received_at}
use Rattle.sr_receive.proofs.pass.Pass.receive_from.Goals as goal

pub returns-in-Some-clause-received : goal.returns-in-Some-clause-received
returns-in-Some-clause-received g c =
    has_received _ _ _ _ _ _ _ c.receive_partner_mail.result (received_at _ _ _ c.args.bag.now c.in-Some.at _ _ _ _ _ c.in-Some.ensures.found c.partner_mail_mut.ensures.value c.receive_partner_mail.ensures.user c.receive_partner_mail.ensures.received)

pub returns-in-Some-clause-cause : goal.returns-in-Some-clause-cause
returns-in-Some-clause-cause g c =
    has_cause _ _ _ _ _ _ _ c.receive_partner_mail.result (received_at _ _ _ c.args.bag.now c.in-Some.at _ _ _ _ _ c.in-Some.ensures.found c.partner_mail_mut.ensures.value c.receive_partner_mail.ensures.user c.receive_partner_mail.ensures.received)

pub returns-in-None-clause-received : goal.returns-in-None-clause-received
returns-in-None-clause-received g c = has_received _ _ _ _ _ _ _ c.receive_none.result (c.receive_none.ensures.received c.args.bag.now c.in-None.ensures.none)

pub returns-in-None-clause-cause : goal.returns-in-None-clause-cause
returns-in-None-clause-cause g c = has_cause _ _ _ _ _ _ _ c.receive_none.result (c.receive_none.ensures.received c.args.bag.now c.in-None.ensures.none)
