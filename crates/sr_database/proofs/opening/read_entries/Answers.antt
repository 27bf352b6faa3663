use Rattle.std.proofs.Common.{refl, sym, subst}
use Rattle.std.specs.Prelude.{IsTrue}
use Rattle.std.proofs.lemmas.Result.{err_from_is_err_and}
use Rattle.sr_logfile.specs.Records.{HasHeader}
use Rattle.sr_site.specs.Files.{Files, bytes_of}
use Rattle.sr_database_replay.proofs.Looped.{size_now, replay_cause_before}
use Rattle.sr_database_files.proofs.Quiet.{told_then, read_alone, read_then}
use Rattle.sr_snapshot.specs.Inner.Beginnings.{beginning_in}
use Rattle.sr_database.proofs.Reopened.{replayed_behind, opened_of}
use Rattle.sr_database_files.proofs.Shapes.{whole_header}
use Rattle.sr_database.proofs.opening.read_entries.Goals as goal

pub replay_all-requires-clause-size : goal.replay_all-requires-clause-size
replay_all-requires-clause-size g c = size_now c.args.log _ _ _ (read_alone _ _ c.length.ensures.stays c.length.ensures.files c.length.ensures.happened) c.in_ok-size.ensures.length

pub replay_all-requires-clause-header : goal.replay_all-requires-clause-header
replay_all-requires-clause-header g c told =
    let before = subst IsTrue c.length.ensures.stays.observable told in
    subst (λ (f : Files). HasHeader c.args.state.offset.0 (bytes_of f c.args.log)) (sym (c.length.ensures.files before)) (whole_header c.args.state.offset.0 _ (c.requires.whole before))

pub database_of-requires-clause-replayed : goal.database_of-requires-clause-replayed
database_of-requires-clause-replayed g c = replayed_behind _ _ _ _ _ (beginning_in c.args.state) c.args.log _ (c.in-Ok.ensures.replayed (beginning_in c.args.state) c.in_ok-replay.ensures.new) c.in_ok-base_catalog.ensures.equal

pub returns-in_err-replay-clause-cause : goal.returns-in_err-replay-clause-cause
returns-in_err-replay-clause-cause g c =
    let p = err_from_is_err_and c.from_residual-in_err-replay.result c.from_residual-in_err-replay.ensures.1 in
    rw (p.1, p.2) c.in_ok-size.ensures.steady

pub returns-in-Err-clause-read : goal.returns-in-Err-clause-read
returns-in-Err-clause-read g c = read_then _ _ _ (read_alone _ _ c.length.ensures.stays c.length.ensures.files c.length.ensures.happened) c.replay_all.ensures.read

pub returns-in-Err-clause-cause : goal.returns-in-Err-clause-cause
returns-in-Err-clause-cause g c =
    replay_cause_before c.args.log (beginning_in c.args.state) (g.S.Held.seen c.args.site.now) (g.S.Held.seen c.length.new.self) (g.S.Held.seen c.replay_all.new.site)
    (read_alone _ _ c.length.ensures.stays c.length.ensures.files c.length.ensures.happened) c.in_ok-size.ensures.steady c.in-Err.fault (c.in-Err.ensures.cause (beginning_in c.args.state) c.in_ok-replay.ensures.new)

pub returns-in-Ok-clause-read : goal.returns-in-Ok-clause-read
returns-in-Ok-clause-read g c = read_then _ _ _ (read_alone _ _ c.length.ensures.stays c.length.ensures.files c.length.ensures.happened) c.replay_all.ensures.read

pub returns-in-Ok-clause-opened : goal.returns-in-Ok-clause-opened
returns-in-Ok-clause-opened g c =
    opened_of _ _ _ _ _ (beginning_in c.args.state) c.args.log _ _ c.database_of.ensures.file (c.in-Ok.ensures.replayed (beginning_in c.args.state) c.in_ok-replay.ensures.new)
    (λ es is. c.database_of.ensures.is (beginning_in c.args.state) es is refl c.in_ok-base_catalog.ensures.equal) (told_then _ _ c.length.ensures.stays) c.length.ensures.files
