-- Steps that read: nothing happens in them, or nothing but syncs.
use Rattle.std.proofs.Common.{◌≡◌, Bool, true, List, ◌∷◌, Result, Ok, Err, refl, sym, ◌∙◌, ap, subst}
use Rattle.std.specs.Prelude.{IsTrue, OnOk}
use Rattle.sr_logfile.specs.Inner.Calls.{HasSynced}
use Rattle.sr_logfile.specs.Inner.Moments.{IsAsRead}
use Rattle.sr_logfile.specs.declared.fault.LogFault.{LogFault}
use Rattle.sr_site.specs.Causes.{DiskStays}
use Rattle.sr_site.specs.Files.{Files, bytes_of}
use Rattle.sr_site.specs.Inner.Growing.{disk_stays_on}
use Rattle.sr_site.specs.Happenings.{Happening, synced}
use Rattle.sr_site.specs.Images.{MayLeave, IsSettled}
use Rattle.sr_site.specs.Seen.{Seen}
use Rattle.sr_site.specs.declared.file.File.{File}
use Rattle.sr_database_files.specs.Inner.Openings.{SyncedAlone, ReadAlone}
use Rattle.sr_database_files.proofs.Images.{its_bytes}
use Rattle.sr_database_files.proofs.Unchanged.{same_stays}
use Rattle.sr_database_files.proofs.Syncs.{synced_on, one_sync, no_sync, still_read}

-- what holds whatever comes out
pub OnOk-always : {T E P : Type 0} (r : Result T E) → P → OnOk r P
OnOk-always (Ok x) holds = holds
OnOk-always (Err fault) holds = tt

pub told_then : (before now : Seen) → DiskStays before now → IsTrue before.observable → IsTrue now.observable
told_then before now stays told = subst IsTrue (sym stays.observable) told

pub read_alone : (before now : Seen) → DiskStays before now → (IsTrue before.observable → now.files ≡ before.files) → (IsTrue before.observable → now.happened ≡ before.happened) → ReadAlone before now
read_alone before now stays files happened = record { stays = stays; files = files; happened = happened }

pub read_same : (seen : Seen) → ReadAlone seen seen
read_same seen = record { stays = same_stays seen; files = λ told. refl; happened = λ told. refl }

pub read_then : (before middle now : Seen) → ReadAlone before middle → ReadAlone middle now → ReadAlone before now
read_then before middle now one other =
    record {
      stays = disk_stays_on before middle now one.stays other.stays;
      files = λ told. other.files (told_then before middle one.stays told) ∙ one.files told;
      happened = λ told. other.happened (told_then before middle one.stays told) ∙ one.happened told;
    }

pub read_synced : (before now : Seen) → ReadAlone before now → SyncedAlone before now
read_synced before now read = record { stays = read.stays; only = λ told. no_sync before now (read.files told) (read.happened told) }

pub sync_alone : (file : File) (done : Bool) (before now : Seen) → DiskStays before now → (IsTrue before.observable → now.files ≡ before.files) → (IsTrue before.observable → now.happened ≡ synced file done (bytes_of before.files file) ∷ before.happened) → SyncedAlone before now
sync_alone file done before now stays files happened = record { stays = stays; only = λ told. one_sync file done before now (files told) (happened told) }

pub synced_then : (before middle now : Seen) → SyncedAlone before middle → SyncedAlone middle now → SyncedAlone before now
synced_then before middle now one other =
    record {
      stays = disk_stays_on before middle now one.stays other.stays;
      only = λ told. synced_on before middle now (one.only told) (other.only (told_then before middle one.stays told));
    }

-- a sync and a read
pub sync_read : (before middle now : Seen) → SyncedAlone before middle → DiskStays middle now → (IsTrue middle.observable → now.files ≡ middle.files) → (IsTrue middle.observable → now.happened ≡ middle.happened) → SyncedAlone before now
sync_read before middle now one stays files happened = synced_then before middle now one (read_synced middle now (read_alone middle now stays files happened))

-- what a log's own opening does
pub open_alone : {T : Type 0} (file : File) (result : Result T LogFault) (before now : Seen) → DiskStays before now → (IsTrue before.observable → now.files ≡ before.files) → (IsTrue before.observable → HasSynced file result before now) → SyncedAlone before now
open_alone file result before now stays files happened = record { stays = stays; only = λ told. one_sync file (happened told).done before now (files told) (happened told).is }

-- after a sync every crash leaves the file as a read gives it
pub settled_sync : (file : File) (before now : Seen) → now.files ≡ before.files → now.happened ≡ synced file true (bytes_of before.files file) ∷ before.happened → IsSettled (IsAsRead file now) now
settled_sync file before now files happened image there =
    let left = subst (λ (h : List Happening). MayLeave now.first h image) happened there in
    ap (λ (f : Files). bytes_of f file) left.2 ∙ its_bytes left.0 file (bytes_of before.files file) ∙ ap (λ (f : Files). bytes_of f file) (sym files)

-- it stays so
pub settled_then : (file : File) (before now : Seen) → SyncedAlone before now → IsTrue before.observable → IsSettled (IsAsRead file before) before → IsSettled (IsAsRead file now) now
settled_then file before now then told settled = still_read file before now then.stays.first (then.only told) settled
