use Rattle.sr_database_files.proofs.Quiet.{read_alone, read_then}
use Rattle.sr_database_replay.proofs.ReadRecords.{gate_cause}
use Rattle.sr_database_replay.proofs.replaying.next_entry.Goals as goal

pub returns-in_err-read_record-in-Ok-Some-clause-read : goal.returns-in_err-read_record-in-Ok-Some-clause-read
returns-in_err-read_record-in-Ok-Some-clause-read g c = read_then _ _ _ (read_alone _ _ c.record_end.ensures.stays c.record_end.ensures.files c.record_end.ensures.happened) c.read_record.ensures.read

pub returns-in_ok-read_record-in-Ok-Some-clause-read : goal.returns-in_ok-read_record-in-Ok-Some-clause-read
returns-in_ok-read_record-in-Ok-Some-clause-read g c = read_then _ _ _ (read_alone _ _ c.record_end.ensures.stays c.record_end.ensures.files c.record_end.ensures.happened) c.read_record.ensures.read

pub returns-in-Err-clause-cause : goal.returns-in-Err-clause-cause
returns-in-Err-clause-cause g c =
    gate_cause c.args.log c.args.replay.now.catalog c.args.replay.now.rows c.args.replay.now.books c.args.base c.args.position (g.S.Held.seen c.args.site.now) (g.S.Held.seen c.record_end.new.site)
    c.in-Err.fault c.log_fault.result c.log_fault.ensures c.in-Err.ensures.cause
