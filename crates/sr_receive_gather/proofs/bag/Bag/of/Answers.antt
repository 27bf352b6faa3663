use Rattle.std.proofs.Common.{List, [], sym, subst}
use Rattle.sr_receive_gather.specs.Bags.{Has}
use Rattle.sr_receive_gather.specs.declared.bag.PartnerMail.{PartnerMail}
use Rattle.sr_receive_gather.proofs.Bagging.{one_partner_mail_more}
use Rattle.sr_receive_gather.proofs.bag.Bag.of.Goals as goal

pub users-preserved : goal.users-preserved
users-preserved c = λ user.
    subst (λ (l : List PartnerMail). Has l user [] []) (sym c.in_ok-push.ensures.items) (one_partner_mail_more c.users.partner_mails.items c.in_ok-partner_mail.partner_mail user c.in_ok-partner_mail.ensures.empty (c.users.invariant user))
