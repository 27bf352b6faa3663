use Rattle.std.proofs.Common.{◌∙◌}
use Rattle.std.proofs.lemmas.Result.{err_from_is_err_and}
use Rattle.sr_snapshot.specs.Inner.Beginnings.{beginning_in}
use Rattle.sr_database_files.proofs.Quiet.{synced_then}
use Rattle.sr_database.proofs.Refused.{root_cause, snapshot_cause, log_refused}
use Rattle.sr_database.proofs.Reopened.{opened_database}
use Rattle.sr_database.proofs.opening.open_files.Goals as goal

pub returns-in_err-files-clause-cause : goal.returns-in_err-files-clause-cause
returns-in_err-files-clause-cause g c =
    let p = err_from_is_err_and c.from_residual.result c.from_residual.ensures.1 in
    rw (p.1, p.2) (root_cause (g.S.Held.seen c.args.site.now) (g.S.Held.seen c.files_in_force.new.site) c.in_err-files.field-0.0 c.in_err-files.ensures.cause)

pub returns-in_err-state-clause-synced : goal.returns-in_err-state-clause-synced
returns-in_err-state-clause-synced g c = synced_then _ _ _ c.files_in_force.ensures.synced c.read_snapshot.ensures.synced

pub returns-in_err-state-clause-cause : goal.returns-in_err-state-clause-cause
returns-in_err-state-clause-cause g c =
    let p = err_from_is_err_and c.from_residual-in_err-state.result c.from_residual-in_err-state.ensures.1 in
    rw (p.1, p.2) (snapshot_cause (g.S.Held.seen c.args.site.now) (g.S.Held.seen c.files_in_force.new.site) (g.S.Held.seen c.read_snapshot.new.site) c.in_ok-files.files.snapshot c.in_ok-files.files.log
    c.files_in_force.ensures.synced c.in_ok-files.ensures.named c.in_ok-files.ensures.steady c.in_err-state.field-0.0 c.in_err-state.ensures.cause)

pub returns-clause-opened : goal.returns-clause-opened
returns-clause-opened g c told =
    opened_database (g.S.Held.seen c.args.site.now) (g.S.Held.seen c.files_in_force.new.site) (g.S.Held.seen c.read_snapshot.new.site) (g.S.Held.seen c.open_log.new.site) c.in_ok-files.files.snapshot c.in_ok-files.files.log
    c.files_in_force.ensures.synced c.read_snapshot.ensures.synced c.open_log.ensures.synced c.in_ok-files.ensures.named (beginning_in c.in_ok-state.state)
    c.in_ok-files.ensures.settled c.in_ok-state.ensures.snapshot c.in_ok-state.ensures.settled _ told c.open_log.ensures.settled c.open_log.ensures.opened

pub returns-clause-synced : goal.returns-clause-synced
returns-clause-synced g c = synced_then _ _ _ (synced_then _ _ _ c.files_in_force.ensures.synced c.read_snapshot.ensures.synced) c.open_log.ensures.synced

pub returns-clause-cause : goal.returns-clause-cause
returns-clause-cause g c =
    log_refused (g.S.Held.seen c.args.site.now) (g.S.Held.seen c.read_snapshot.new.site) (g.S.Held.seen c.open_log.new.site) c.in_ok-files.files.snapshot c.in_ok-files.files.log
    (synced_then _ _ _ c.files_in_force.ensures.synced c.read_snapshot.ensures.synced) c.in_ok-files.ensures.named (c.in_ok-state.ensures.steady ∙ c.in_ok-files.ensures.steady) (beginning_in c.in_ok-state.state) (g.S.Held.seen c.files_in_force.new.site) c.files_in_force.ensures.synced c.in_ok-state.ensures.snapshot _ c.open_log.ensures.cause
