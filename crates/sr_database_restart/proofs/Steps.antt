-- The steps of a restart.
use Rattle.std.proofs.Common.{◌≡◌, ◌≤◌, Bool, List, [], ◌∷◌, ℕ, refl, sym, ◌∙◌, subst, arith}
use Rattle.std.specs.Prelude.{IsTrue, Result, Ok, Err, IfErr, IsErrAnd}
use Rattle.sr_database_restart.specs.Inner.Restarting.{RestartCause}
use Rattle.sr_database_restart.specs.Inner.Writing.{Touches}
use Rattle.sr_database_restart.specs.declared.fault.RestartFault.{RestartFault}
use Rattle.sr_database_restart.specs.declared.fault.RestartFault.TheVariants.{Disk, Memory, Long, Damaged}
use Rattle.sr_logfile_carry.proofs.Steps.{happened_on}
use Rattle.sr_site.specs.Causes.{DiskStays, Rose}
use Rattle.sr_site.specs.Happenings.{wrote, synced}
use Rattle.sr_site.specs.Inner.Growing.{disk_stays_on}
use Rattle.sr_site.specs.Seen.{Seen}
use Rattle.sr_site.specs.declared.file.File.{File}
use Rattle.sr_snapshot.specs.Parts.{longest}

pub touch_wrote : (file : File) (place : ℕ) (bytes after : List ℕ) (done : Bool) (before now : Seen) → DiskStays before now → (IsTrue before.observable → now.happened ≡ wrote file place bytes done after ∷ before.happened) → Touches file before now
touch_wrote file place bytes after done before now stays is = record { stays = stays; on = λ told. record { more = wrote file place bytes done after ∷ []; is = is told; on = (refl, tt) } }

pub touch_synced : (file : File) (after : List ℕ) (done : Bool) (before now : Seen) → DiskStays before now → (IsTrue before.observable → now.happened ≡ synced file done after ∷ before.happened) → Touches file before now
touch_synced file after done before now stays is = record { stays = stays; on = λ told. record { more = synced file done after ∷ []; is = is told; on = (refl, tt) } }

pub touch_on : (file : File) (before middle now : Seen) → Touches file before middle → Touches file middle now → Touches file before now
touch_on file before middle now one other = record {
  stays = disk_stays_on before middle now one.stays other.stays;
  on = λ told. happened_on file before.happened middle.happened now.happened (one.on told) (other.on (subst (λ (b : Bool). IsTrue b) (sym one.stays.observable) told));
}

-- what holds of a fault holds of the answer that is it
pub if_fault : {T : Type 0} (holds : RestartFault → Type 0) (fault : RestartFault) (result : Result T RestartFault) → IsErrAnd result (λ e. e ≡ fault) → holds fault → IfErr result holds
if_fault holds fault (Ok x) is so = tt
if_fault holds fault (Err e) is so = subst holds (sym is) so

-- why a restart gave nothing behind a call that left the disk's faults as they were
pub cause_later : (size : ℕ) (log : File) (before middle now : Seen) → size ≤ longest → middle.observable ≡ before.observable → middle.disk_faults ≡ before.disk_faults
    → (fault : RestartFault) → RestartCause size log middle now fault → RestartCause size log before now fault
cause_later size log before middle now short told steady Disk cause = (cause.0, subst (λ (n : ℕ). Rose n now.disk_faults) steady cause.1)
cause_later size log before middle now short told steady Memory cause = (cause.0 ∙ steady, λ long. absurd (omega (arith, short, long)))
cause_later size log before middle now short told steady (Long found limit) cause = absurd (omega (arith, short, cause.2))
cause_later size log before middle now short told steady (Damaged file at) cause =
    (cause.0, λ seen. cause.1 (subst (λ (b : Bool). IsTrue b) (sym told) seen), cause.2, cause.3 ∙ steady)
