use Rattle.std.proofs.Common.{refl}
use Rattle.sr_database_files.proofs.Quiet.{read_same, read_synced}
use Rattle.sr_database_files.proofs.SnapshotRead.{same_alone, snapshot_refused}
use Rattle.sr_database.proofs.restarting.kept_state.Goals as goal

pub returns-in-Ok-clause-read : goal.returns-in-Ok-clause-read
returns-in-Ok-clause-read g c = same_alone _ _ c.read_state.ensures.read

pub returns-in-Err-clause-read : goal.returns-in-Err-clause-read
returns-in-Err-clause-read g c = same_alone _ _ c.read_state.ensures.read

pub returns-in-Err-clause-cause : goal.returns-in-Err-clause-cause
returns-in-Err-clause-cause g c =
    let before = g.S.Held.seen c.args.site.now in
    let now = g.S.Held.seen c.read_state.new.site in
    snapshot_refused c.args.snapshot before before now (read_synced before before (read_same before)) c.read_state.ensures.read refl c.in-Err.fault c.snapshot_fault.result c.snapshot_fault.ensures c.in-Err.ensures.cause
