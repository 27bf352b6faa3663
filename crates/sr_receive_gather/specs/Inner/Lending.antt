-- The partner mail of a bag that is lent for writing.
use Rattle.std.specs.Prelude.{ℕ, List, slice_set}
use Rattle.std.specs.Borrow.{Lends, MutBor, Fml}
use Rattle.sr_receive_gather.specs.declared.bag.PartnerMail.{PartnerMail}
use Rattle.sr_receive_gather.specs.contracts.bag.Bag as bag
use Rattle.sr_receive_gather.specs.contracts.bag.PartnerMail as partner_mail

-- r lends the partner mail at a place: what is last written through it ends up there, and the other shares stay
abbrev pub LendsPartnerMail : MutBor (List PartnerMail) → ℕ → MutBor PartnerMail → Fml
LendsPartnerMail partner_mails at r = Lends bag.the_row partner_mail.the_row partner_mails r (slice_set partner_mails.now at)
