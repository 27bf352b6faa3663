-- A file whose state was read, or why it was not.
use Rattle.std.proofs.Common.{◌≡◌, ◌≤◌, ◌<◌, ℕ, List, [], ◌++◌, length, drop, sym, ap, subst, ◌∙◌, arith, inl, inr}
use Rattle.std.proofs.lemmas.List.{append-nil}
use Rattle.std.specs.Prelude.{IsTrue}
use Rattle.sr_site.specs.Causes.{Rose}
use Rattle.sr_site.specs.Files.{bytes_of}
use Rattle.sr_site.specs.Seen.{Seen}
use Rattle.sr_site.specs.declared.file.File.{File}
use Rattle.sr_snapshot.specs.Beginnings.{Beginning, IsBeginning}
use Rattle.sr_snapshot.specs.Parts.{longest}
use Rattle.sr_snapshot.specs.Snapshots.{snapshot_spelling, IsSnapshot}
use Rattle.sr_snapshot.specs.declared.fault.SnapFault.{SnapFault}
use Rattle.sr_snapshot.specs.declared.fault.SnapFault.TheVariants.{Disk, Long, Damaged, Memory}
use Rattle.sr_snapshot_read.proofs.Exclusion.{damage_excludes}
use Rattle.sr_snapshot_read.proofs.Windows.{same_bytes, then_told}
use Rattle.sr_snapshot_read.specs.Damages.{IsDamagedSnapshot, StateBreaks}
use Rattle.sr_snapshot_read.specs.Inner.Reading.{BreaksAt, HasTaken, IsOver, ReadAlone, TakeCause}
use Rattle.sr_snapshot_read.specs.Inner.StateRead.{IsNoSnapshot, ReadCause}
use Rattle.sr_snapshot_read.specs.Inner.Views.{View}

-- before its first byte
pub first_over : (view : View) (bytes : List ℕ) → view.held ≡ [] → view.place ≡ 0 → view.size ≡ length bytes → IsOver view bytes
first_over view bytes held place size = record { size_is = size; behind = drop view.place bytes; parts = sym (ap (λ (l : List ℕ). l ++ drop view.place bytes) held) }

-- all of the file was taken
pub whole_file : (file : File) (b : Beginning) (before middle now : Seen) (v0 v1 : View) → IsBeginning b → ReadAlone before middle → v0.place ≡ 0 → (IsTrue before.observable → length (bytes_of before.files file) ≤ longest)
    → HasTaken file (snapshot_spelling b) middle now v0 v1 → (IsTrue middle.observable → drop v1.place (bytes_of middle.files file) ≡ []) → IsTrue before.observable → IsSnapshot b (bytes_of before.files file)
whole_file file b before middle now v0 v1 is read place short taken ends told =
    let bytes = bytes_of before.files file in
    let same = same_bytes file before middle read told in
    let then = then_told before middle read told in
    let parts : drop v0.place bytes ≡ snapshot_spelling b ++ drop v1.place bytes = subst (λ (l : List ℕ). drop v0.place l ≡ snapshot_spelling b ++ drop v1.place l) same (taken.parts then) in
    let end : drop v1.place bytes ≡ [] = subst (λ (l : List ℕ). drop v1.place l ≡ []) same (ends then) in
    record {
      is = is;
      bytes_are = sym (ap (λ (n : ℕ). drop n bytes) place) ∙ parts ∙ ap (λ (l : List ℕ). snapshot_spelling b ++ l) end ∙ append-nil (snapshot_spelling b);
      short = short told;
    }

no_snapshot : (bytes : List ℕ) (at : ℕ) → IsDamagedSnapshot bytes at → IsNoSnapshot bytes at
no_snapshot bytes at damaged = record { damaged = damaged; none = λ b is. damage_excludes b bytes at damaged is }

pub long_cause : (file : File) (before now : Seen) (at size : ℕ) (fault : SnapFault) → now.disk_faults ≡ before.disk_faults → fault ≡ Damaged at → at ≡ longest → longest < size → (IsTrue before.observable → size ≡ length (bytes_of before.files file))
    → ReadCause file before now fault
long_cause file before now at size fault steady is place long told =
    let cause : ReadCause file before now (Damaged at) = (steady, λ t. no_snapshot (bytes_of before.files file) at (inl (omega (arith, long, told t), place))) in
    subst (λ (e : SnapFault). ReadCause file before now e) (sym is) cause

-- what breaks from the first byte on, behind a call that told the length
pub state_cause : (file : File) (before middle now : Seen) (view : View) (fault : SnapFault) → ReadAlone before middle → middle.disk_faults ≡ before.disk_faults → view.place ≡ 0 → (IsTrue before.observable → length (bytes_of before.files file) ≤ longest)
    → TakeCause file StateBreaks middle now view fault → ReadCause file before now fault
state_cause file before middle now view Disk read steady place short cause = subst (λ (n : ℕ). Rose n now.disk_faults) steady cause.1
state_cause file before middle now view (Long size limit) read steady place short cause = cause
state_cause file before middle now view (Damaged at) read steady place short cause = (
  cause.1 ∙ steady,
  λ told.
      let bytes = bytes_of before.files file in
      let found = subst (λ (l : List ℕ). BreaksAt StateBreaks l view.place at) (same_bytes file before middle read told) (cause.2 (then_told before middle read told)) in
      let broken : StateBreaks bytes found.left = subst (λ (n : ℕ). StateBreaks (drop n bytes) found.left) place found.broken in
      no_snapshot bytes at (inr (short told, (found.left, broken, found.at_is))),
)
state_cause file before middle now view Memory read steady place short cause = cause.1 ∙ steady

pub cause_read : (file : File) (breaks : List ℕ → ℕ → Type 0) (before now : Seen) (view : View) (fault : SnapFault) → TakeCause file breaks before now view fault → ReadAlone before now
cause_read file breaks before now view Disk cause = cause.0
cause_read file breaks before now view (Long size limit) cause = absurd cause
cause_read file breaks before now view (Damaged at) cause = cause.0
cause_read file breaks before now view Memory cause = cause.0
