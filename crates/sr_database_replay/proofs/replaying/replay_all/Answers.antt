use Rattle.std.proofs.lemmas.Result.{err_from_is_err_and}
use Rattle.sr_database_replay.proofs.Looped.{begins_reading, reading_on, reading_end, reading_cause}
use Rattle.sr_database_files.proofs.Quiet.{read_then}
use Rattle.sr_database_replay.proofs.replaying.replay_all.Goals as goal

pub entries-init : goal.entries-init
entries-init g c = begins_reading c.args.log c.args.replay.now.catalog c.args.replay.now.rows c.args.replay.now.books c.args.base c.args.size (g.S.Held.seen c.args.site.now) c.requires.base c.requires.replayed c.requires.header c.requires.size

pub entries-preserved : goal.entries-preserved
entries-preserved g c =
    reading_on c.args.log c.args.replay.now.catalog c.entries.replay.catalog c.next_entry.new.replay.catalog c.args.replay.now.rows c.entries.replay.rows c.next_entry.new.replay.rows
    c.args.replay.now.books c.entries.replay.books c.next_entry.new.replay.books c.args.base c.entries.position c.args.size (g.S.Held.seen c.args.site.now) (g.S.Held.seen c.entries.site) c.entries.invariant
    (g.S.Held.seen c.next_entry.new.site) c.in_ok-end.field-0 c.in-Some.end c.in-Some.is c.in_ok-end.ensures.next c.in_ok-end.ensures.onward c.next_entry.ensures.read c.in_ok-end.ensures.steady

pub returns-in_err-end-clause-read : goal.returns-in_err-end-clause-read
returns-in_err-end-clause-read g c = let kept = c.entries.invariant in read_then _ _ _ kept.alone c.next_entry.ensures.read

pub returns-in_err-end-clause-cause : goal.returns-in_err-end-clause-cause
returns-in_err-end-clause-cause g c b beginning =
    let p = err_from_is_err_and c.from_residual.result c.from_residual.ensures.1 in
    rw (p.1, p.2) (reading_cause c.args.log c.args.replay.now.catalog c.entries.replay.catalog c.args.replay.now.rows c.entries.replay.rows c.args.replay.now.books c.entries.replay.books c.args.base c.entries.position c.args.size
    (g.S.Held.seen c.args.site.now) (g.S.Held.seen c.entries.site) (g.S.Held.seen c.next_entry.new.site) c.entries.invariant b beginning c.in_err-end.field-0.0 c.in_err-end.ensures.cause)

pub returns-clause-read : goal.returns-clause-read
returns-clause-read g c = let kept = c.entries.invariant in read_then _ _ _ kept.alone c.next_entry.ensures.read

pub returns-clause-replayed : goal.returns-clause-replayed
returns-clause-replayed g c =
    reading_end c.args.log c.args.replay.now.catalog c.entries.replay.catalog c.next_entry.new.replay.catalog c.args.replay.now.rows c.entries.replay.rows c.next_entry.new.replay.rows
    c.args.replay.now.books c.entries.replay.books c.next_entry.new.replay.books c.args.base c.entries.position c.args.size (g.S.Held.seen c.args.site.now) (g.S.Held.seen c.entries.site) c.entries.invariant
    c.in_ok-end.field-0 c.in_default.not-Some c.in_ok-end.ensures.next
