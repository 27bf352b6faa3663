use Rattle.std.proofs.Common.{length}
use Rattle.sr_snapshot.specs.Inner.Beginnings.{beginning_in}
use Rattle.sr_snapshot.specs.Snapshots.{snapshot_spelling}
use Rattle.sr_database_restart.proofs.writing.write_snapshot.Goals as goal

pub returns-in-Err-clause-cause : goal.returns-in-Err-clause-cause
returns-in-Err-clause-cause g c log =
    c.snapshot_fault.ensures.cause (length (snapshot_spelling (beginning_in c.args.state.now))) log (g.S.Held.seen c.args.site.now) (g.S.Held.seen c.write_state.new.site) c.in-Err.ensures.cause
