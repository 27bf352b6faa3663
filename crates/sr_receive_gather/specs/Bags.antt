-- What is kept of message files: of each its offsets and its ask, of all of one partner the pieces of windows.
use Rattle.std.specs.Prelude.{◌≡◌, ℕ, true, false, length, List, [], ◌∷◌, ◌++◌, map, Option, Some, None, bytes_eq, if◌then◌else◌}
use Rattle.std.specs.List.{AllByRecursion}
use Rattle.sr_mail.specs.Inboxes.{Gathered, pieces_of, is_dropped}
use Rattle.sr_mail.specs.declared.window.Window.{Window}
use Rattle.sr_receive_gather.specs.MessageFiles.{MessageFile}
use Rattle.sr_receive_gather.specs.Windows.{pieces_among, is_dropped_window}
use Rattle.sr_receive_gather.specs.declared.bag.Filed.{Filed}
use Rattle.sr_receive_gather.specs.declared.bag.PartnerMail.{PartnerMail}

-- what is kept of a message file
abbrev pub filed_of : MessageFile → Filed
filed_of l = record { name = l.0; upto = l.1.upto; confirm = l.1.confirm; ask_count = l.1.ask_count; ask_offset = l.1.ask_offset }

-- the inbox holds the pieces of these message files, and those windows are dropped that were lost
pub record Holds (message_files : List MessageFile) (dropped_windows : List Window) (inbox : List Gathered) : Type 0 where
  pub pieces : (w : Window) → pieces_of inbox w ≡ pieces_among message_files w
  pub dropped : (w : Window) → is_dropped inbox w ≡ is_dropped_window dropped_windows w

-- the partner mail of a partner whose message files these are
pub record IsPartnerMail (message_files : List MessageFile) (dropped_windows : List Window) (partner_mail : PartnerMail) : Type 0 where
  pub files : partner_mail.files.items ≡ map filed_of message_files
  pub inbox : Holds message_files dropped_windows partner_mail.inbox

-- the partner mail of a user, the first of his name
abbrev pub partner_mail_of : List PartnerMail → List ℕ → Option PartnerMail
partner_mail_of [] user = None
partner_mail_of (s ∷ partner_mails) user = if bytes_eq s.user user then Some s else partner_mail_of partner_mails user

-- no message file, where there is no partner mail
abbrev pub IsPartnerMailWhere : List MessageFile → List Window → Option PartnerMail → Type 0
IsPartnerMailWhere message_files dropped_windows None = (message_files ≡ []) × (dropped_windows ≡ [])
IsPartnerMailWhere message_files dropped_windows (Some partner_mail) = IsPartnerMail message_files dropped_windows partner_mail

-- these are a user's message files in the bag, and windows of them that were lost
abbrev pub Has : List PartnerMail → List ℕ → List MessageFile → List Window → Type 0
Has partner_mails user message_files dropped_windows = IsPartnerMailWhere message_files dropped_windows (partner_mail_of partner_mails user)

-- the place of a user's partner mail: none before it is his
pub record IsPlaceOf (partner_mails : List PartnerMail) (user : List ℕ) (at : ℕ) : Type 0 where
  pub prefix : List PartnerMail
  pub partner_mail : PartnerMail
  pub behind : List PartnerMail
  pub parts : partner_mails ≡ prefix ++ partner_mail ∷ behind
  pub at_is : at ≡ length prefix
  pub others : AllByRecursion (λ s. bytes_eq s.user user ≡ false) prefix
  pub his : bytes_eq partner_mail.user user ≡ true
