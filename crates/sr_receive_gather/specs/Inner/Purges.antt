-- Which message files are dead, and what a purge does.
-- Here is what no contract of the program says by itself.
use Rattle.std.specs.Prelude.{◌≡◌, ℕ, ◌+◌, List, [], ◌∷◌, length, IsTrue, Option, Some, None}
use Rattle.sr_book.specs.declared.book.Book.{Book}
use Rattle.sr_site.specs.Causes.{MailStays}
use Rattle.sr_site.specs.Seen.{Seen}
use Rattle.sr_receive_gather.specs.declared.bag.Filed.{Filed}
use Rattle.sr_receive_gather.specs.declared.bag.PartnerMail.{PartnerMail}
use Rattle.sr_receive_gather.specs.Purges.{dead, removals}

-- exactly these were removed
pub record HasPurged (address : List ℕ) (book : Book) (files : List Filed) (before now : Seen) (count : ℕ) : Type 0 where
  pub removed_are : IsTrue before.observable → now.happened ≡ removals address (dead book files) before.happened
  pub count_is : count ≡ length (dead book files)
  pub stays : MailStays before now
  pub steady : now.mail_faults ≡ before.mail_faults

-- one file more was looked at, after so many that were removed
pub record RemovesNext (address : List ℕ) (book : Book) (f : Filed) (before now : Seen) (count count' : ℕ) : Type 0 where
  pub removed_is : IsTrue before.observable → now.happened ≡ removals address (dead book (f ∷ [])) before.happened
  pub count_is : count' ≡ count + length (dead book (f ∷ []))
  pub stays : MailStays before now
  pub steady : now.mail_faults ≡ before.mail_faults

-- the files of a partner mail, none where there is none
abbrev pub files_in : Option PartnerMail → List Filed
files_in None = []
files_in (Some partner_mail) = partner_mail.files.items
