-- A snapshot that is read, once it is synced.
use Rattle.std.proofs.Common.{◌≡◌, ℕ, List, Result, Ok, Err, refl, sym, ◌∙◌, ap, subst, arith, ◌≤◌}
use Rattle.std.specs.Prelude.{IsTrue, IfOk}
use Rattle.sr_site.specs.Files.{Files, bytes_of}
use Rattle.sr_site.specs.Seen.{Seen}
use Rattle.sr_site.specs.declared.file.File.{File}
use Rattle.sr_snapshot.specs.Inner.Beginnings.{beginning_in}
use Rattle.sr_snapshot.specs.Snapshots.{IsSnapshot}
use Rattle.sr_snapshot.specs.declared.fault.SnapFault.{SnapFault}
use Rattle.sr_snapshot.specs.declared.fault.SnapFault.TheVariants as snaps
use Rattle.sr_snapshot.specs.declared.state.State.{State}
use Rattle.sr_snapshot_read.specs.Damages.{IsDamagedSnapshot}
use Rattle.sr_snapshot_read.specs.Inner.Reading.{ReadAlone as ReadsAlone}
use Rattle.sr_snapshot_read.specs.Inner.StateRead.{ReadCause}
use Rattle.sr_database_files.specs.Inner.Openings.{ReadAlone, SyncedAlone, IsSnapFault, SnapshotCause}
use Rattle.sr_database_files.specs.declared.fault.DatabaseFault.{DatabaseFault}
use Rattle.sr_database_files.specs.declared.fault.DatabaseFault.TheVariants.{Damaged}
use Rattle.sr_database_files.proofs.Quiet.{read_alone, read_synced, synced_then, told_then}

pub same_alone : (before now : Seen) → ReadsAlone before now → ReadAlone before now
same_alone before now read = read_alone before now read.stays read.files read.happened

module _ (snapshot : File) (before middle now : Seen) (one : SyncedAlone before middle) (read : ReadsAlone middle now) where
  pub snapshot_synced : SyncedAlone before now
  snapshot_synced = synced_then before middle now one (read_synced middle now (same_alone middle now read))

  pub state_read : (result : Result State SnapFault) → IsTrue before.observable → (IsTrue middle.observable → IfOk result (λ state. IsSnapshot (beginning_in state) (bytes_of middle.files snapshot)))
      → IfOk result (λ state. IsSnapshot (beginning_in state) (bytes_of before.files snapshot))
  state_read (Ok state) told is = subst (λ (f : Files). IsSnapshot (beginning_in state) (bytes_of f snapshot)) (one.only told).files (is (told_then before middle one.stays told))
  state_read (Err fault) told is = tt

  pub snapshot_refused : middle.disk_faults ≡ before.disk_faults → (fault : SnapFault) (answer : DatabaseFault) → IsSnapFault snapshot fault answer → ReadCause snapshot middle now fault → SnapshotCause snapshot before now answer
  snapshot_refused steady snaps.Disk answer is cause =
      let later : before.disk_faults ≤ middle.disk_faults = one.stays.later in
      subst (λ (a : DatabaseFault). SnapshotCause snapshot before now a) (sym is) (omega arith)
  snapshot_refused steady (snaps.Long size limit) answer is cause = absurd cause
  snapshot_refused steady (snaps.Damaged at) answer is cause = subst (λ (a : DatabaseFault). SnapshotCause snapshot before now a) (sym is) (
    refl,
    λ told. subst (λ (f : Files). IsDamagedSnapshot (bytes_of f snapshot) at) (one.only told).files (cause.1 (told_then before middle one.stays told)).damaged,
    cause.0 ∙ steady,
  )
  snapshot_refused steady snaps.Memory answer is cause = subst (λ (a : DatabaseFault). SnapshotCause snapshot before now a) (sym is) (cause ∙ steady)
