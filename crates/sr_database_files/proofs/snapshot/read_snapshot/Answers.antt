use Rattle.sr_database_files.proofs.Quiet.{told_then, sync_alone, read_synced, settled_sync, settled_then}
use Rattle.sr_database_files.proofs.SnapshotRead.{same_alone, snapshot_synced, state_read, snapshot_refused}
use Rattle.sr_database_files.proofs.snapshot.read_snapshot.Goals as goal

pub returns-in_err-sync-clause-synced : goal.returns-in_err-sync-clause-synced
returns-in_err-sync-clause-synced g c = sync_alone c.args.snapshot _ _ _ c.sync.ensures.stays c.sync.ensures.files c.sync.ensures.happened

pub returns-in-Ok-clause-synced : goal.returns-in-Ok-clause-synced
returns-in-Ok-clause-synced g c = snapshot_synced c.args.snapshot _ _ _ (sync_alone c.args.snapshot _ _ _ c.sync.ensures.stays c.sync.ensures.files c.sync.ensures.happened) c.read_state.ensures.read

pub returns-in-Err-clause-synced : goal.returns-in-Err-clause-synced
returns-in-Err-clause-synced g c = snapshot_synced c.args.snapshot _ _ _ (sync_alone c.args.snapshot _ _ _ c.sync.ensures.stays c.sync.ensures.files c.sync.ensures.happened) c.read_state.ensures.read
