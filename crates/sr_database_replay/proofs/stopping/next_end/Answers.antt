use Rattle.std.proofs.Common.{ℕ, Option, subst}
use Rattle.sr_database_replay.proofs.Stopped.{ends_cause, last_cause}
use Rattle.sr_database_replay.specs.Inner.Replays.{IsNextEntry}
use Rattle.sr_database_replay.proofs.stopping.next_end.Goals as goal

pub returns-in-Ok-Some-clause-on : goal.returns-in-Ok-Some-clause-on
returns-in-Ok-Some-clause-on g c =
    subst (λ (o : Option ℕ). IsNextEntry c.args.replay.now.catalog c.next_entry.new.replay.catalog c.args.replay.now.rows c.next_entry.new.replay.rows c.args.replay.now.books c.next_entry.new.replay.books c.args.base c.args.position c.args.log
    (g.S.Held.seen c.args.site.now) o) c.in-Ok-Some.field-0-is c.in-Ok-Some.ensures.next

pub returns-in-Ok-None-clause-cause : goal.returns-in-Ok-None-clause-cause
returns-in-Ok-None-clause-cause g c =
    ends_cause c.args.log c.args.replay.now.catalog c.args.replay.now.rows c.args.replay.now.books c.args.base c.args.position (g.S.Held.seen c.args.site.now) (g.S.Held.seen c.next_entry.new.site)
    c.next_entry.new.replay.catalog c.next_entry.new.replay.rows c.next_entry.new.replay.books c.place_in.result
    (subst (λ (o : Option ℕ). IsNextEntry c.args.replay.now.catalog c.next_entry.new.replay.catalog c.args.replay.now.rows c.next_entry.new.replay.rows c.args.replay.now.books c.next_entry.new.replay.books c.args.base c.args.position c.args.log
    (g.S.Held.seen c.args.site.now) o) c.in-Ok-None.field-0-is c.in-Ok-None.ensures.next) c.in-Ok-None.ensures.steady

pub returns-in-Err-clause-cause : goal.returns-in-Err-clause-cause
returns-in-Err-clause-cause g c =
    last_cause c.args.log c.args.replay.now.catalog c.args.replay.now.rows c.args.replay.now.books c.args.base c.args.position (g.S.Held.seen c.args.site.now) (g.S.Held.seen c.next_entry.new.site) c.in-Err.fault c.in-Err.ensures.cause
