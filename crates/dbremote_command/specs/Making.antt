-- What `init` does.
use Rattle.std.specs.Prelude.{◌≡◌, ◌≢◌, ℕ, Bool, List, [], ◌∷◌, ◌++◌, codes, IsTrue}
use Rattle.sr_book.specs.Entries.{Name}
use Rattle.sr_database_files.specs.Fresh.{IsNoneOrNew, IsThere}
use Rattle.sr_database_files.specs.declared.fault.DatabaseFault.{DatabaseFault}
use Rattle.sr_database_files.specs.declared.fault.DatabaseFault.TheVariants as store
use Rattle.sr_session_script.specs.Acts.{line}
use Rattle.sr_site.specs.Causes.{Rose}
use Rattle.sr_site.specs.Happenings.{attached}
use Rattle.sr_site.specs.Images.{IsImage, IsSettled, RestsThroughout}
use Rattle.sr_site.specs.Seen.{Seen}
use Rattle.sr_site.specs.Streams.{Output}
use Rattle.sr_database_meaning.specs.Standing.{StandsFor}
use Rattle.dbremote_command.specs.Outside.{IsAttached}
use Rattle.dbremote_command.specs.Streams.{SaidPart}
use Rattle.dbremote_command.specs.declared.fault.Fault.{Fault}
use Rattle.dbremote_command.specs.declared.fault.Fault.TheVariants.{Words, Database, Source, TooLong, Script, Statement, Sink, Mail}

-- the line of a database that was made
abbrev pub created_line : Name → List ℕ
created_line user = line (codes "created " ++ user)

-- whatever comes of it: where there was no database, a crash leaves none or the new one at each moment; where there was one, it stands
pub record IsGuarded (user : Name) (before now : Seen) : Type 0 where
  pub new : IsTrue before.observable → IsSettled (IsNoneOrNew user) before → RestsThroughout (IsNoneOrNew user) before now
  pub there : IsTrue before.observable → IsSettled IsThere before → RestsThroughout (IsImage before) before now

-- the database was made: there was none, and now every crash leaves it, without an entry
pub record IsMade (name : List ℕ) (user : Name) (before now : Seen) : Type 0 where
  pub attached : IsAttached name [] before now
  pub missing : IsTrue before.observable → before.files.root ≡ []
  pub stands : IsTrue before.observable → StandsFor user [] 0 now.files
  pub settled : IsTrue before.observable → IsSettled (StandsFor user [] 0) now
  pub steady : now.disk_faults ≡ before.disk_faults

-- nothing was made: all that happened is that the site was attached, or that this was refused, and no call of the disk failed
pub record IsUnmade (name : List ℕ) (before now : Seen) : Type 0 where
  pub done : Bool
  pub happened : IsTrue before.observable → now.happened ≡ attached name [] done ∷ before.happened
  pub files : IsTrue before.observable → now.files ≡ before.files
  pub steady : now.disk_faults ≡ before.disk_faults

-- why a database's fault ends it: where there is a database, no call of the disk failed; and without memory nothing was made
abbrev pub StoreCause : List ℕ → Seen → Seen → DatabaseFault → Type 0
StoreCause name before now store.Missing = ⊥
StoreCause name before now store.Exists = (IsTrue before.observable → (before.files.root ≢ []) × (now.files ≡ before.files)) × (now.disk_faults ≡ before.disk_faults)
StoreCause name before now (store.Damaged file at) = ⊥
StoreCause name before now store.Disk = Rose before.disk_faults now.disk_faults
StoreCause name before now (store.Full end need) = ⊥
StoreCause name before now (store.Long size limit) = ⊥
StoreCause name before now store.Memory = IsUnmade name before now

-- why a fault ends it, and what was written before the fault's line
abbrev pub MakeCause : List ℕ → Name → Seen → Seen → Output → Output → Fault → Type 0
MakeCause name user before now old new Words = ⊥
MakeCause name user before now old new (Database fault) = StoreCause name before now fault × (new ≡ old)
MakeCause name user before now old new Source = ⊥
MakeCause name user before now old new TooLong = ⊥
MakeCause name user before now old new (Script at) = ⊥
MakeCause name user before now old new (Statement number fault) = ⊥
MakeCause name user before now old new Sink = IsMade name user before now × SaidPart (created_line user) old new
MakeCause name user before now old new Mail = ⊥
