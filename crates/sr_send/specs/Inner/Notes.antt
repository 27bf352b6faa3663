-- The note that messages were sent, committed or not.
use Rattle.std.specs.Prelude.{◌≡◌, ⊤, ℕ, true, List, [], ◌∷◌, ◌++◌, Result, Ok, Err, IsTrue}
use Rattle.sr_base.specs.declared.offset.Offset.{Offset}
use Rattle.sr_book.specs.Entries.{Name}
use Rattle.sr_database.specs.Causes.{IsTooFar}
use Rattle.sr_database.specs.Inner.Causes.{IsSame, IsSpent}
use Rattle.sr_database.specs.Commits.{HasRoom}
use Rattle.sr_database.specs.Advances.{Advances}
use Rattle.sr_database.specs.Databases.{IsDatabase}
use Rattle.sr_database.specs.Inner.Without.{WasWithout}
use Rattle.sr_database.specs.InForce.{HasLogInForce}
use Rattle.sr_database.specs.Views.{View}
use Rattle.sr_database_files.specs.declared.fault.DatabaseFault.{DatabaseFault}
use Rattle.sr_database_files.specs.declared.fault.DatabaseFault.TheVariants as store
use Rattle.sr_database_history.specs.Recorded.{Recorded, entry_of}
use Rattle.sr_site.specs.Seen.{Seen}
use Rattle.sr_database_meaning.specs.Events.{commit}
use Rattle.sr_database_meaning.specs.Standing.{StandsFor}
use Rattle.sr_database_meaning.specs.Traces.{Went}
use Rattle.sr_send.specs.declared.fault.SendFault.{SendFault}
use Rattle.sr_send.specs.declared.fault.SendFault.TheVariants.{Disk, Mail, Full, Long, Memory}

-- the note was begun: the site went through its commit
abbrev pub WentNote : View → Seen → Seen → Recorded → Type 0
WentNote old before now r = IsTrue before.observable → (publisher : Name) (es : List Recorded) → IsDatabase old publisher es before → Went before now publisher es (commit r ∷ [])

-- it was committed
pub record Noted (old new : View) (before now : Seen) (r : Recorded) : Type 0 where
  pub usable : new.log.usable ≡ true
  pub pending : new.pending ≡ []
  pub room : HasRoom old.log (entry_of r)
  pub steady : now.disk_faults ≡ before.disk_faults
  pub value : Advances old new (r ∷ [])
  pub in_force : IsTrue before.observable → HasLogInForce new now
  pub database : IsTrue before.observable → (publisher : Name) (es : List Recorded) → IsDatabase old publisher es before → IsDatabase new publisher (es ++ r ∷ []) now
  pub without : IsTrue before.observable → (publisher : Name) (es : List Recorded) (base : ℕ) → StandsFor publisher es base now.files → WasWithout old publisher es r before
  pub went : WentNote old before now r

-- why it is not committed
abbrev pub NoteCause : View → View → Seen → Seen → Recorded → SendFault → Type 0
NoteCause old new before now r Disk = IsSpent new before now × HasRoom old.log (entry_of r) × WentNote old before now r
NoteCause old new before now r Mail = ⊥
NoteCause old new before now r (Full end need) = IsTooFar old.log (entry_of r) end need × IsSame old new before now
NoteCause old new before now r (Long size limit) = ⊥
NoteCause old new before now r Memory = IsSame old new before now

-- what its commit may be refused with: an open database is not missing, there or damaged, and a note is never too long
abbrev pub IsNoteRefusal : DatabaseFault → Type 0
IsNoteRefusal store.Missing = ⊥
IsNoteRefusal store.Exists = ⊥
IsNoteRefusal (store.Damaged file at) = ⊥
IsNoteRefusal store.Disk = ⊤
IsNoteRefusal (store.Full end need) = ⊤
IsNoteRefusal (store.Long size limit) = ⊥
IsNoteRefusal store.Memory = ⊤

-- the answer of the commit, as that of a pass
abbrev pub IsNotedAs : Result Offset DatabaseFault → Result (Unit {0}) SendFault → Type 0
IsNotedAs (Ok offset) answer = answer ≡ Ok tt
IsNotedAs (Err store.Missing) answer = ⊥
IsNotedAs (Err store.Exists) answer = ⊥
IsNotedAs (Err (store.Damaged file at)) answer = ⊥
IsNotedAs (Err store.Disk) answer = answer ≡ Err Disk
IsNotedAs (Err (store.Full end need)) answer = answer ≡ Err (Full end need)
IsNotedAs (Err (store.Long size limit)) answer = ⊥
IsNotedAs (Err store.Memory) answer = answer ≡ Err Memory
