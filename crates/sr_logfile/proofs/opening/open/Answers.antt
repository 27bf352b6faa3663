use Rattle.sr_logfile.proofs.Openings.{spelled_log, damaged_log}
use Rattle.sr_logfile.proofs.Starts.{opened}
use Rattle.sr_logfile.proofs.opening.open.Goals as goal

pub returns-clause-spelled : goal.returns-clause-spelled
returns-clause-spelled g c told = spelled_log c.args.file (g.S.Held.seen c.args.site.now) (g.S.Held.seen c.read_records.new.site) told (c.read_records.ensures.files told) _ (c.read_records.ensures.log told) c.read_records.ensures.usable c.read_records.ensures.cause

pub returns-clause-damaged : goal.returns-clause-damaged
returns-clause-damaged g c told = damaged_log c.args.file (g.S.Held.seen c.args.site.now) (g.S.Held.seen c.read_records.new.site) told (c.read_records.ensures.files told) _ (c.read_records.ensures.log told) c.read_records.ensures.usable c.read_records.ensures.cause

pub returns-clause-beside : goal.returns-clause-beside
returns-clause-beside g c told =
    let synced = c.read_records.ensures.happened told in
    opened c.args.file (g.S.Held.seen c.args.site.now) (g.S.Held.seen c.read_records.new.site) synced.done _ synced.is
