-- A file that is written anew.
use Rattle.std.proofs.Common.{◌≡◌, ◌≤◌, ℕ, true, List, [], ◌∷◌, ◌++◌, take, sym, ◌∙◌, ap, subst, arith}
use Rattle.std.proofs.lemmas.List.{append-nil}
use Rattle.std.specs.Prelude.{IsTrue}
use Rattle.sr_site.specs.Causes.{Rose}
use Rattle.sr_site.specs.Files.{Files, bytes_of, with_bytes}
use Rattle.sr_site.specs.Happenings.{Happening, synced}
use Rattle.sr_site.specs.Images.{MayLeave}
use Rattle.sr_site.specs.Seen.{Seen}
use Rattle.sr_site.specs.declared.file.File.{File}
use Rattle.sr_snapshot.proofs.Puts.{its_bytes, only_on, put_on, replaced_again, told_then}
use Rattle.sr_snapshot.specs.Parts.{longest}
use Rattle.sr_snapshot.specs.Inner.Writing.{HasPut, IsFilled, IsWritten, OnlyOn, PutCause, WriteCause}
use Rattle.sr_snapshot.specs.declared.fault.SnapFault.{SnapFault}
use Rattle.sr_snapshot.specs.declared.fault.SnapFault.TheVariants.{Disk, Long, Damaged, Memory}

-- all was put and nothing waits
pub filled : (file : File) (bytes : List ℕ) (before middle now : Seen) (waiting left : List ℕ) (place next : ℕ) → (IsTrue before.observable → bytes_of before.files file ≡ []) → HasPut file bytes before middle [] waiting place
    → HasPut file [] middle now waiting left next → left ≡ [] → IsFilled file bytes before now
filled file bytes before middle now waiting left place next empty put flushed none =
    let all = put_on file bytes [] before middle now [] waiting left place next put flushed in
    record {
      only = all.only;
      steady = all.steady;
      files = λ told.
          let its : bytes_of now.files file ≡ bytes =
          sym (append-nil (bytes_of now.files file)) ∙ ap (λ (l : List ℕ). bytes_of now.files file ++ l) (sym none) ∙ all.all told ∙ ap (λ (l : List ℕ). (l ++ []) ++ (bytes ++ [])) (empty told) ∙ append-nil bytes in
          all.others told ∙ ap (λ (l : List ℕ). with_bytes before.files file l) its;
    }

-- it was cut, filled and synced
pub written : (file : File) (bytes : List ℕ) (before cut full now : Seen) → OnlyOn file before cut → cut.disk_faults ≡ before.disk_faults → (IsTrue before.observable → cut.files ≡ with_bytes before.files file (take 0 (bytes_of before.files file)))
    → IsFilled file bytes cut full → OnlyOn file full now → now.disk_faults ≡ full.disk_faults → (IsTrue full.observable → now.files ≡ full.files)
    → (IsTrue full.observable → now.happened ≡ synced file true (bytes_of full.files file) ∷ full.happened) → IsWritten file bytes before now
written file bytes before cut full now only_cut steady_cut cut_files fill only_sync steady_sync sync_files sync_happened =
    let up : OnlyOn file before full = only_on file before cut full only_cut fill.only in
    record {
      only = only_on file before full now up only_sync;
      steady = steady_sync ∙ fill.steady ∙ steady_cut;
      replaced = λ told.
          let at_cut = told_then file before cut only_cut told in
          let at_full = told_then file before full up told in
          let files : full.files ≡ with_bytes before.files file bytes =
          fill.files at_cut ∙ ap (λ (f : Files). with_bytes f file bytes) (cut_files told) ∙ replaced_again before.files file (take 0 (bytes_of before.files file)) bytes in
          let its : bytes_of full.files file ≡ bytes = ap (λ (f : Files). bytes_of f file) files ∙ its_bytes before.files file bytes in
          record {
            files = sync_files at_full ∙ files;
            settled = λ image there.
                let left = subst (λ (h : List Happening). MayLeave now.first h image) (sync_happened at_full) there in
                ap (λ (f : Files). bytes_of f file) left.2 ∙ its_bytes left.0 file (bytes_of full.files file) ∙ its;
          };
    }

-- why it was not, behind what was done
pub cause_then : (file : File) (before middle now : Seen) (fault : SnapFault) → OnlyOn file before middle → middle.disk_faults ≡ before.disk_faults → PutCause file middle now fault → PutCause file before now fault
cause_then file before middle now Disk only steady cause = (only_on file before middle now only cause.0, subst (λ (n : ℕ). Rose n now.disk_faults) steady cause.1)
cause_then file before middle now (Long size limit) only steady cause = cause
cause_then file before middle now (Damaged at) only steady cause = cause
cause_then file before middle now Memory only steady cause = (only_on file before middle now only cause.0, cause.1 ∙ steady)

pub cause_only : (file : File) (before now : Seen) (fault : SnapFault) → PutCause file before now fault → OnlyOn file before now
cause_only file before now Disk cause = cause.0
cause_only file before now (Long size limit) cause = absurd cause
cause_only file before now (Damaged at) cause = absurd cause
cause_only file before now Memory cause = cause.0

pub cause_written : (file : File) (size : ℕ) (before now : Seen) (fault : SnapFault) → size ≤ longest → PutCause file before now fault → WriteCause size before now fault
cause_written file size before now Disk short cause = (short, cause.1)
cause_written file size before now (Long found limit) short cause = absurd cause
cause_written file size before now (Damaged at) short cause = absurd cause
cause_written file size before now Memory short cause = (cause.1, λ long. absurd (omega (arith, short, long)))
