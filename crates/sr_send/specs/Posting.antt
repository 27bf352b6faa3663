-- Files that are put while a database stands still.
use Rattle.std.specs.Prelude.{◌≡◌, ◌≤◌, ⊤, Bool, true, List, [], ◌∷◌, ◌++◌, length, IsTrue}
use Rattle.std.specs.List.{AllByRecursion}
use Rattle.sr_site.specs.Causes.{Rose}
use Rattle.sr_site.specs.Happenings.{Happening, attached, wrote, cut_to, synced, listed, fetched, sent, removed, handed_over, mail_in}
use Rattle.sr_site.specs.Seen.{Seen}
use Rattle.sr_database_meaning.specs.Events.{Event, commit, put}
use Rattle.sr_send.specs.declared.fault.SendFault.{SendFault}
use Rattle.sr_send.specs.declared.fault.SendFault.TheVariants.{Disk, Mail, Full, Long, Memory}

-- nothing happened to the mail but that the files of a trace were put, in order, each with its outcome: the newest stands first
abbrev pub PutAlone : List Event → List Happening → List Happening → Type 0
PutAlone [] before now = now ≡ before
PutAlone (commit r ∷ events) before now = PutAlone events before now
PutAlone (put address name bytes ∷ events) before now = (done : Bool) × PutAlone events (sent address name bytes done ∷ before) now

-- what happened succeeded, if it is a put
abbrev pub PutSucceeded : Happening → Type 0
PutSucceeded (attached name folder done) = ⊤
PutSucceeded (wrote file place bytes done after) = ⊤
PutSucceeded (cut_to file to done after) = ⊤
PutSucceeded (synced file done after) = ⊤
PutSucceeded (listed address folder listing) = ⊤
PutSucceeded (fetched address name limit found) = ⊤
PutSucceeded (sent address name bytes done) = done ≡ true
PutSucceeded (removed address name done) = ⊤
PutSucceeded (handed_over folders noted) = ⊤

-- of what happened to the mail since then no put failed
pub record NoneFailed (before now : List Happening) : Type 0 where
  pub more : List Happening
  pub is : now ≡ more ++ before
  pub done : AllByRecursion PutSucceeded more

-- of what happened to the mail since then no put failed, but the last that happened may have
pub record LastMayFail (before now : List Happening) : Type 0 where
  pub last : List Happening
  pub one : length last ≤ 1
  pub more : List Happening
  pub is : now ≡ last ++ (more ++ before)
  pub done : AllByRecursion PutSucceeded more

-- no device failed, and each put succeeded
pub record IsSteady (before now : Seen) : Type 0 where
  pub observable : now.observable ≡ before.observable
  pub disk : now.disk_faults ≡ before.disk_faults
  pub mail : now.mail_faults ≡ before.mail_faults
  pub done : IsTrue before.observable → NoneFailed (mail_in before.happened) (mail_in now.happened)

-- which device refused, if one did: its count rose, and that of the other stays; where memory was wanting no device did
abbrev pub IsDeviceFault : Seen → Seen → SendFault → Type 0
IsDeviceFault before now Disk = Rose before.disk_faults now.disk_faults × (now.mail_faults ≡ before.mail_faults)
IsDeviceFault before now Mail = Rose before.mail_faults now.mail_faults × (now.disk_faults ≡ before.disk_faults)
IsDeviceFault before now (Full end need) = IsSteady before now
IsDeviceFault before now (Long size limit) = IsSteady before now
IsDeviceFault before now Memory = (now.disk_faults ≡ before.disk_faults) × (now.mail_faults ≡ before.mail_faults)
