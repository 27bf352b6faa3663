-- Files that are put while a database stands still.
-- Here is what no contract of the program says by itself.
use Rattle.std.specs.Prelude.{◌≡◌, List, IsTrue}
use Rattle.sr_book.specs.Entries.{Name}
use Rattle.sr_database_history.specs.Recorded.{Recorded}
use Rattle.sr_site.specs.Causes.{Stays}
use Rattle.sr_site.specs.Files.{Files}
use Rattle.sr_site.specs.Happenings.{mail_in}
use Rattle.sr_site.specs.Images.{IsImage, IsSettled}
use Rattle.sr_site.specs.Seen.{Seen}
use Rattle.sr_database_meaning.specs.Events.{Event}
use Rattle.sr_database_meaning.specs.Standing.{StandsAs}
use Rattle.sr_database_meaning.specs.Traces.{Went}
use Rattle.sr_send.specs.declared.fault.SendFault.{SendFault}
use Rattle.sr_send.specs.declared.fault.SendFault.TheVariants.{Disk, Mail, Full, Long, Memory}
use Rattle.sr_send.specs.Posting.{PutAlone, LastMayFail, IsDeviceFault}

-- between two moments of a site these files were put and nothing else was changed: a site that was settled on a history went through these
-- puts, and a crash leaves just what it might have left before
pub record Posted (before now : Seen) (events : List Event) : Type 0 where
  pub stays : Stays before now
  pub files : IsTrue before.observable → now.files ≡ before.files
  pub went : IsTrue before.observable → (publisher : Name) (es : List Recorded) → IsSettled (StandsAs publisher es) before → Went before now publisher es events
  pub images : IsTrue before.observable → (image : Files) → IsImage now image → IsImage before image
  pub images_too : IsTrue before.observable → (image : Files) → IsImage before image → IsImage now image
  pub mail : IsTrue before.observable → PutAlone events (mail_in before.happened) (mail_in now.happened)

-- at a site that tells it
abbrev pub EndsAtPut : Seen → Seen → Type 0
EndsAtPut before now = IsTrue before.observable → LastMayFail (mail_in before.happened) (mail_in now.happened)

-- why putting ends: the mail refused, or there was no memory
abbrev pub PutFault : Seen → Seen → SendFault → Type 0
PutFault before now Disk = ⊥
PutFault before now Mail = IsDeviceFault before now Mail
PutFault before now (Full end need) = ⊥
PutFault before now (Long size limit) = ⊥
PutFault before now Memory = IsDeviceFault before now Memory
