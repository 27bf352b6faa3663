use Rattle.std.proofs.Common.{[]}
use Rattle.sr_site.specs.Inner.Growing.{disk_stays_on}
use Rattle.dbremote_command.proofs.Keeping.{kept_in}
use Rattle.dbremote_command.proofs.Opened.{tried_more}
use Rattle.dbremote_command.proofs.Scripts.{stopped_open}
use Rattle.dbremote_command.proofs.running.run_sql.Goals as goal

pub returns-in-Ok-ran-clause-done : goal.returns-in-Ok-ran-clause-done
returns-in-Ok-ran-clause-done g c = c.in-Ok-ran.ensures.done c.args.name.now (g.S.Held.seen c.args.site.now) c.in-Ok.ensures.opened

pub returns-in-Ok-ran-clause-tried : goal.returns-in-Ok-ran-clause-tried
returns-in-Ok-ran-clause-tried g c = tried_more c.args.name.now [] (g.S.Held.seen c.args.site.now) (g.S.Held.seen c.open_alone.new.site) (g.S.Held.seen c.read_and_run-ran.new.site) c.open_alone.ensures.stays c.in-Ok.ensures.opened.attached c.read_and_run-ran.ensures.stays.grows c.read_and_run-ran.ensures.attached

pub returns-in-Err-ran-clause-stopped : goal.returns-in-Err-ran-clause-stopped
returns-in-Err-ran-clause-stopped g c = c.in-Err-ran.ensures.stopped c.args.name.now (g.S.Held.seen c.args.site.now) c.in-Ok.ensures.opened

pub returns-in-Err-ran-clause-tried : goal.returns-in-Err-ran-clause-tried
returns-in-Err-ran-clause-tried g c = tried_more c.args.name.now [] (g.S.Held.seen c.args.site.now) (g.S.Held.seen c.open_alone.new.site) (g.S.Held.seen c.read_and_run-ran.new.site) c.open_alone.ensures.stays c.in-Ok.ensures.opened.attached c.read_and_run-ran.ensures.stays.grows c.read_and_run-ran.ensures.attached

pub returns-in-Err-clause-stopped : goal.returns-in-Err-clause-stopped
returns-in-Err-clause-stopped g c = stopped_open c.args.name.now (g.S.Held.seen c.args.site.now) (g.S.Held.seen c.open_alone.new.site) (g.I.Source.seen c.args.input.now) (g.O.Sink.seen c.args.output.now) c.in-Err.fault c.open_alone.ensures.untouched c.in-Err.ensures.cause

pub returns-in-Ok-ran-clause-stays : goal.returns-in-Ok-ran-clause-stays
returns-in-Ok-ran-clause-stays g c = disk_stays_on (g.S.Held.seen c.args.site.now) (g.S.Held.seen c.open_alone.new.site) (g.S.Held.seen c.read_and_run-ran.new.site) c.open_alone.ensures.stays c.read_and_run-ran.ensures.stays

pub returns-in-Err-ran-clause-stays : goal.returns-in-Err-ran-clause-stays
returns-in-Err-ran-clause-stays g c = disk_stays_on (g.S.Held.seen c.args.site.now) (g.S.Held.seen c.open_alone.new.site) (g.S.Held.seen c.read_and_run-ran.new.site) c.open_alone.ensures.stays c.read_and_run-ran.ensures.stays

pub returns-in-Ok-ran-clause-kept : goal.returns-in-Ok-ran-clause-kept
returns-in-Ok-ran-clause-kept g c = kept_in c.keep.new.kept c.read_and_run-ran.new.database (g.S.Held.seen c.read_and_run-ran.new.site) c.keep.ensures.kept c.in-Ok-ran.ensures.kept

pub returns-in-Err-clause-tried : goal.returns-in-Err-clause-tried
returns-in-Err-clause-tried g c = c.open_alone.ensures.tried

pub returns-in-Err-clause-stays : goal.returns-in-Err-clause-stays
returns-in-Err-clause-stays g c = c.open_alone.ensures.stays
