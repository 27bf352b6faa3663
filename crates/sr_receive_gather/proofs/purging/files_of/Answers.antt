use Rattle.std.proofs.Common.{List, Option, sym, ap, subst, ◌∙◌}
use Rattle.sr_receive_gather.specs.Bags.{IsPlaceOf}
use Rattle.sr_receive_gather.specs.Inner.Purges.{files_in}
use Rattle.sr_receive_gather.specs.declared.bag.PartnerMail.{PartnerMail}
use Rattle.sr_receive_gather.proofs.Places.{partner_mail_there}
use Rattle.sr_receive_gather.proofs.purging.files_of.Goals as goal

pub returns-in-Some : goal.returns-in-Some
returns-in-Some c =
    let inside = c.bag.inside.partner_mails.items in
    let user = c.args.user.now in
    let place : IsPlaceOf inside user c.in-Some.at = subst (λ (l : List PartnerMail). IsPlaceOf l user c.in-Some.at) c.as_slice.ensures.value c.in-Some.ensures.found in
    let found = partner_mail_there c.args.bag.now inside user c.in-Some.at c.index.result.now place c.bag.view_is c.index.ensures in
    record { files = c.as_slice-in-Some.ensures.value ∙ sym (ap (λ (o : Option PartnerMail). files_in o) found) }
