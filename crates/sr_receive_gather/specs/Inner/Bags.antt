-- What is kept of message files: of each its offsets and its ask, of all of one partner the pieces of windows.
-- Here is what no contract of the program says by itself.
use Rattle.std.specs.Prelude.{◌≡◌, ℕ, false, List, bytes_eq}
use Rattle.sr_receive_gather.specs.declared.bag.PartnerMail.{PartnerMail}
use Rattle.sr_receive_gather.specs.Bags.{partner_mail_of}

-- the partner mails of all others stay
abbrev pub OthersStay : List PartnerMail → List PartnerMail → List ℕ → Type 0
OthersStay partner_mails partner_mails' user = (other : List ℕ) → bytes_eq user other ≡ false → partner_mail_of partner_mails' other ≡ partner_mail_of partner_mails other
