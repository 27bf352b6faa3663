-- Which message files are dead, and what a purge does.
use Rattle.std.specs.Prelude.{◌≡◌, ◌⊎◌, ℕ, ◌+◌, Bool, true, false, ◌&&◌, nat_le, List, [], ◌∷◌, ◌++◌, filter, IsTrue}
use Rattle.sr_book.specs.declared.book.Book.{Book}
use Rattle.sr_site.specs.Causes.{MailStays, Rose}
use Rattle.sr_site.specs.Happenings.{Happening, removed}
use Rattle.sr_site.specs.Seen.{Seen}
use Rattle.sr_receive_gather.specs.declared.bag.Filed.{Filed}
use Rattle.sr_receive_gather.specs.declared.fault.ReceiveFault.{ReceiveFault}
use Rattle.sr_receive_gather.specs.declared.fault.ReceiveFault.TheVariants.{Disk, Mail, Full, Long, Memory}

-- all that the file brought was received, noted as confirmed and noted as asked
abbrev pub is_dead : Book → Filed → Bool
is_dead book f = nat_le f.upto.0 book.log_received && nat_le f.confirm.0 book.confirm_sent && nat_le f.ask_count book.resend_count

-- the dead files
abbrev pub dead : Book → List Filed → List Filed
dead book files = filter (is_dead book) files

-- they were removed, in order, after what happened before
abbrev pub removals : List ℕ → List Filed → List Happening → List Happening
removals address [] before = before
removals address (f ∷ files) before = removals address files (removed address f.name true ∷ before)

-- these were removed, and at most the removal of the next one failed
abbrev pub Removes : List ℕ → List Filed → List Filed → List Happening → List Happening → Type 0
Removes address done [] before now = now ≡ removals address done before
Removes address done (f ∷ left) before now = (now ≡ removals address done before) ⊎ (now ≡ removed address f.name false ∷ removals address done before)

-- the first of them were removed
pub record PurgedInPart (address : List ℕ) (book : Book) (files : List Filed) (before now : Seen) : Type 0 where
  pub done : List Filed
  pub left : List Filed
  pub parts : dead book files ≡ done ++ left
  pub happened : IsTrue before.observable → Removes address done left before.happened now.happened
  pub stays : MailStays before now

-- why a purge ends before its end: the mail refused; or there is no memory, and no call of the mail failed
abbrev pub PurgeCause : List ℕ → Book → List Filed → Seen → Seen → ReceiveFault → Type 0
PurgeCause address book files before now Disk = ⊥
PurgeCause address book files before now Mail = Rose before.mail_faults now.mail_faults × PurgedInPart address book files before now
PurgeCause address book files before now (Full end need) = ⊥
PurgeCause address book files before now (Long size limit) = ⊥
PurgeCause address book files before now Memory = (now.mail_faults ≡ before.mail_faults) × PurgedInPart address book files before now
