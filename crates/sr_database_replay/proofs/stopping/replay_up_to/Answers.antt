use Rattle.std.proofs.Common.{◌≡◌, ◌<◌, arith}
use Rattle.std.proofs.lemmas.Result.{err_from_is_err_and}
use Rattle.sr_database_files.proofs.Quiet.{read_then}
use Rattle.sr_database_replay.proofs.Looped.{size_now}
use Rattle.sr_database_replay.proofs.Stopped.{begins_stopping, passed, stop_cause, stopped, stopping_on}
use Rattle.sr_database_replay.proofs.stopping.replay_up_to.Goals as goal

pub entries-init : goal.entries-init
entries-init g c =
    begins_stopping c.args.log c.args.replay.now.catalog c.args.replay.now.rows c.args.replay.now.books c.args.base c.args.keep c.args.size (g.S.Held.seen c.args.site.now) c.requires.order c.requires.replayed c.requires.header c.requires.size

pub next_end-requires-clause-size : goal.next_end-requires-clause-size
next_end-requires-clause-size g c = let kept = c.entries.invariant in size_now c.args.log c.args.size (g.S.Held.seen c.args.site.now) (g.S.Held.seen c.entries.site) kept.alone kept.size_is

pub entries-preserved : goal.entries-preserved
entries-preserved g c =
    let below : c.entries.position < c.args.keep = omega arith in
    stopping_on c.args.log c.args.replay.now.catalog c.entries.replay.catalog c.args.replay.now.rows c.entries.replay.rows c.args.replay.now.books c.entries.replay.books c.args.base c.entries.position c.args.keep c.args.size
    (g.S.Held.seen c.args.site.now) (g.S.Held.seen c.entries.site) c.entries.invariant c.next_end.new.replay.catalog c.next_end.new.replay.rows c.next_end.new.replay.books (g.S.Held.seen c.next_end.new.site) c.in_ok-end.end
    below c.in_ok-end.ensures.on c.in_ok-end.ensures.onward c.next_end.ensures.read c.in_ok-end.ensures.steady

pub returns-in_err-end-clause-read : goal.returns-in_err-end-clause-read
returns-in_err-end-clause-read g c = let kept = c.entries.invariant in read_then _ _ _ kept.alone c.next_end.ensures.read

pub returns-in_err-end-clause-cause : goal.returns-in_err-end-clause-cause
returns-in_err-end-clause-cause g c b beginning =
    let below : c.entries.position < c.args.keep = omega arith in
    let p = err_from_is_err_and c.from_residual.result c.from_residual.ensures.1 in
    rw (p.1, p.2) (stop_cause c.args.log c.args.replay.now.catalog c.entries.replay.catalog c.args.replay.now.rows c.entries.replay.rows c.args.replay.now.books c.entries.replay.books c.args.base c.entries.position c.args.keep c.args.size
    (g.S.Held.seen c.args.site.now) (g.S.Held.seen c.entries.site) c.entries.invariant b beginning (g.S.Held.seen c.next_end.new.site) below c.in_err-end.field-0.0 c.in_err-end.ensures.cause)

pub returns-then-keep-position-clause-read : goal.returns-then-keep-position-clause-read
returns-then-keep-position-clause-read g c = let kept = c.entries.invariant in kept.alone

pub returns-then-keep-position-clause-cause : goal.returns-then-keep-position-clause-cause
returns-then-keep-position-clause-cause g c b beginning =
    let past : c.args.keep < c.entries.position = omega arith in
    passed c.args.log c.args.replay.now.catalog c.entries.replay.catalog c.args.replay.now.rows c.entries.replay.rows c.args.replay.now.books c.entries.replay.books c.args.base c.entries.position c.args.keep c.args.size
    (g.S.Held.seen c.args.site.now) (g.S.Held.seen c.entries.site) c.entries.invariant b beginning c.place_in.result past

pub returns-clause-read : goal.returns-clause-read
returns-clause-read g c = let kept = c.entries.invariant in kept.alone

pub returns-clause-stopped : goal.returns-clause-stopped
returns-clause-stopped g c b beginning =
    let same : c.entries.position ≡ c.args.keep = omega arith in
    stopped c.args.log c.args.replay.now.catalog c.entries.replay.catalog c.args.replay.now.rows c.entries.replay.rows c.args.replay.now.books c.entries.replay.books c.args.base c.entries.position c.args.keep c.args.size
    (g.S.Held.seen c.args.site.now) (g.S.Held.seen c.entries.site) c.entries.invariant b beginning same

pub returns-clause-steady : goal.returns-clause-steady
returns-clause-steady g c = let kept = c.entries.invariant in kept.steady
