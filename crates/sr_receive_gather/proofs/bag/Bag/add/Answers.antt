use Rattle.std.proofs.Common.{List, sym, subst}
use Rattle.sr_receive_gather.specs.Bags.{Has, IsPlaceOf}
use Rattle.sr_receive_gather.specs.declared.bag.PartnerMail.{PartnerMail}
use Rattle.sr_receive_gather.proofs.Bagging.{message_file_added}
use Rattle.sr_receive_gather.proofs.bag.Bag.add.Goals as goal

pub returns : goal.returns
returns c =
    let partner_mails = c.self.inside.partner_mails.items in
    let at = c.in-Some.at in
    let place : IsPlaceOf partner_mails c.args.message.now.from at = subst (λ (l : List PartnerMail). IsPlaceOf l c.args.message.now.from at) c.as_slice.ensures.value c.in-Some.ensures.found in
    record {
      added = λ user message_files dropped_windows h.
          message_file_added partner_mails at c.index_mut.result.now c.add.new.self c.args.name.now c.args.message.now place c.index_mut.ensures.value c.add.ensures.user c.in_ok-add.ensures.files c.in_ok-add.ensures.inbox
          c.in_ok-add.ensures.dropped user message_files dropped_windows (subst (λ (l : List PartnerMail). Has l user message_files dropped_windows) (sym c.self.view_is) h);
    }
