-- What was read after an offset of an open log, as a pass takes it.
use Rattle.std.proofs.Common.{◌≡◌, ℕ, List, ◌++◌, Option, None, Result, Ok, Err, refl, sym, subst}
use Rattle.std.specs.Prelude.{◌≢◌, IsTrue, IfOk, IfErr, OnOk}
use Rattle.sr_base.specs.declared.offset.Offset.{Offset}
use Rattle.sr_book.specs.Entries.{Name}
use Rattle.sr_database.specs.Inner.Causes.{EntryCause}
use Rattle.sr_database.specs.Databases.{IsDatabase}
use Rattle.sr_database.specs.Views.{View}
use Rattle.sr_database_files.specs.declared.fault.DatabaseFault.{DatabaseFault}
use Rattle.sr_database_files.specs.declared.fault.DatabaseFault.TheVariants as store
use Rattle.sr_database_history.specs.Folds.{end_of}
use Rattle.sr_database_history.specs.Recorded.{Recorded}
use Rattle.sr_site.specs.Causes.{DiskStays}
use Rattle.sr_site.specs.Seen.{Seen}
use Rattle.sr_site.specs.declared.file.File.{File}
use Rattle.sr_send.specs.Inner.Faults.{IsReadRefusal, IsFoundOrEnd}
use Rattle.sr_send.specs.Posting.{IsSteady}
use Rattle.sr_send.specs.Inner.Stops.{NextFault}
use Rattle.sr_send.specs.declared.fault.SendFault.{SendFault}
use Rattle.sr_send.specs.declared.fault.SendFault.TheVariants.{Disk, Memory}
use Rattle.sr_send.proofs.Posts.{steady_read}

pub read_refused : {T : Type 0} (db : View) (after : Offset) (before now : Seen) (outcome : Result T DatabaseFault) → IfErr outcome (EntryCause db after before now) → IfErr outcome IsReadRefusal
read_refused db after before now (Ok found) cause = tt
read_refused db after before now (Err store.Missing) cause = absurd cause
read_refused db after before now (Err store.Exists) cause = absurd cause
read_refused db after before now (Err (store.Damaged file at)) cause = tt
read_refused db after before now (Err store.Disk) cause = tt
read_refused db after before now (Err (store.Full end need)) cause = absurd cause
read_refused db after before now (Err (store.Long size limit)) cause = absurd cause
read_refused db after before now (Err store.Memory) cause = tt

-- what holds of what was read holds of the answer, where it holds of none after a record that reads as damaged
pub found_holds : {T : Type 0} (holds : Option T → Type 0) (outcome : Result (Option T) DatabaseFault) (answer : Result (Option T) SendFault) → IsFoundOrEnd outcome answer → IfOk outcome holds
    → ((file : File) (at : ℕ) → outcome ≡ Err (store.Damaged file at) → holds None) → IfOk answer holds
found_holds {T} holds (Ok found) answer is so none = subst (λ (r : Result (Option T) SendFault). IfOk r holds) (sym is) so
found_holds holds (Err store.Missing) answer is so none = absurd is
found_holds holds (Err store.Exists) answer is so none = absurd is
found_holds {T} holds (Err (store.Damaged file at)) answer is so none = subst (λ (r : Result (Option T) SendFault). IfOk r holds) (sym is) (none file at refl)
found_holds {T} holds (Err store.Disk) answer is so none = subst (λ (r : Result (Option T) SendFault). IfOk r holds) (sym is) tt
found_holds holds (Err (store.Full end need)) answer is so none = absurd is
found_holds holds (Err (store.Long size limit)) answer is so none = absurd is
found_holds {T} holds (Err store.Memory) answer is so none = subst (λ (r : Result (Option T) SendFault). IfOk r holds) (sym is) tt

-- and of a fault: only the disk's refusal and want of memory are left
fault_holds : {T : Type 0} (holds : DatabaseFault → Type 0) (told : SendFault → Type 0) (outcome : Result (Option T) DatabaseFault) (answer : Result (Option T) SendFault) → IsFoundOrEnd outcome answer → IfErr outcome holds
    → (holds store.Disk → told Disk) → (holds store.Memory → told Memory) → IfErr answer told
fault_holds {T} holds told (Ok found) answer is so disk memory = subst (λ (r : Result (Option T) SendFault). IfErr r told) (sym is) tt
fault_holds holds told (Err store.Missing) answer is so disk memory = absurd is
fault_holds holds told (Err store.Exists) answer is so disk memory = absurd is
fault_holds {T} holds told (Err (store.Damaged file at)) answer is so disk memory = subst (λ (r : Result (Option T) SendFault). IfErr r told) (sym is) tt
fault_holds {T} holds told (Err store.Disk) answer is so disk memory = subst (λ (r : Result (Option T) SendFault). IfErr r told) (sym is) (disk so)
fault_holds holds told (Err (store.Full end need)) answer is so disk memory = absurd is
fault_holds holds told (Err (store.Long size limit)) answer is so disk memory = absurd is
fault_holds {T} holds told (Err store.Memory) answer is so disk memory = subst (λ (r : Result (Option T) SendFault). IfErr r told) (sym is) (memory so)

pub found_cause : {T : Type 0} (db : View) (after : Offset) (before now : Seen) (outcome : Result (Option T) DatabaseFault) (answer : Result (Option T) SendFault) → IsFoundOrEnd outcome answer
    → IfErr outcome (EntryCause db after before now) → IfErr answer (NextFault before now)
found_cause db after before now outcome answer is cause = fault_holds (EntryCause db after before now) (NextFault before now) outcome answer is cause (λ rose. rose) (λ same. same)

-- memory is not wanting where it was not
pub found_kept : {T : Type 0} (outcome : Result (Option T) DatabaseFault) (answer : Result (Option T) SendFault) → IsFoundOrEnd outcome answer → IfErr outcome (λ fault. fault ≢ store.Memory) → IfErr answer (λ fault. fault ≢ Memory)
found_kept outcome answer is so = fault_holds (λ fault. fault ≢ store.Memory) (λ fault. fault ≢ Memory) outcome answer is so (λ other e. absurd cc) (λ never. absurd (never refl))

pub found_steady : {T : Type 0} (db : View) (after : Offset) (before now : Seen) (outcome : Result (Option T) DatabaseFault) (answer : Result (Option T) SendFault) → IsFoundOrEnd outcome answer → DiskStays before now
    → OnOk outcome (now.disk_faults ≡ before.disk_faults) → IfErr outcome (EntryCause db after before now) → OnOk answer (IsSteady before now)
found_steady {T} db after before now (Ok found) answer is stays same cause = subst (λ (r : Result (Option T) SendFault). OnOk r (IsSteady before now)) (sym is) (steady_read before now stays same)
found_steady db after before now (Err store.Missing) answer is stays same cause = absurd is
found_steady db after before now (Err store.Exists) answer is stays same cause = absurd is
found_steady {T} db after before now (Err (store.Damaged file at)) answer is stays same cause = subst (λ (r : Result (Option T) SendFault). OnOk r (IsSteady before now)) (sym is) (steady_read before now stays cause.1)
found_steady {T} db after before now (Err store.Disk) answer is stays same cause = subst (λ (r : Result (Option T) SendFault). OnOk r (IsSteady before now)) (sym is) tt
found_steady db after before now (Err (store.Full end need)) answer is stays same cause = absurd is
found_steady db after before now (Err (store.Long size limit)) answer is stays same cause = absurd is
found_steady {T} db after before now (Err store.Memory) answer is stays same cause = subst (λ (r : Result (Option T) SendFault). OnOk r (IsSteady before now)) (sym is) tt

-- no record of a database's files reads as damaged
not_damaged : {T : Type 0} (db : View) (after : Offset) (before now : Seen) (publisher : Name) (done left : List Recorded) (outcome : Result T DatabaseFault) → IfErr outcome (EntryCause db after before now)
    → IsTrue before.observable → IsDatabase db publisher (done ++ left) before → after.0 ≡ end_of done → (file : File) (place : ℕ) → outcome ≡ Err (store.Damaged file place) → ⊥
not_damaged {T} db after before now publisher done left outcome cause told database at file place damaged =
    let so : EntryCause db after before now (store.Damaged file place) = subst (λ (r : Result T DatabaseFault). IfErr r (EntryCause db after before now)) damaged cause in
    so.0 told (record { publisher = publisher; done = done; left = left; is = database; after_is = at })

pub found_there : {T : Type 0} (holds : Option T → Type 0) (db : View) (after : Offset) (before now : Seen) (publisher : Name) (done left : List Recorded) (outcome : Result (Option T) DatabaseFault) (answer : Result (Option T) SendFault)
    → IsFoundOrEnd outcome answer → IfErr outcome (EntryCause db after before now) → IfOk outcome holds → IsTrue before.observable → IsDatabase db publisher (done ++ left) before → after.0 ≡ end_of done → IfOk answer holds
found_there holds db after before now publisher done left outcome answer is cause so told database at =
    found_holds holds outcome answer is so (λ file place damaged. absurd (not_damaged db after before now publisher done left outcome cause told database at file place damaged))
