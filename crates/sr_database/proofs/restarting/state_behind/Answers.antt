use Rattle.std.proofs.Common.{sym, ◌∙◌, arith}
use Rattle.std.proofs.lemmas.Result.{err_from_is_err_and}
use Rattle.sr_database_files.proofs.Quiet.{read_alone, read_then}
use Rattle.sr_database_replay.proofs.Looped.{size_now}
use Rattle.sr_snapshot.specs.Inner.Beginnings.{beginning_in}
use Rattle.sr_database.proofs.StatesBehind.{all_refused, header_there, other_place, snapshot_state, state_begins, state_offset, state_parted}
use Rattle.sr_database.proofs.restarting.state_behind.Goals as goal

pub returns-in_err-state-clause-read : goal.returns-in_err-state-clause-read
returns-in_err-state-clause-read g c = read_then _ _ _ (read_alone _ _ c.length.ensures.stays c.length.ensures.files c.length.ensures.happened) c.kept_state.ensures.read

pub returns-in_err-state-clause-cause : goal.returns-in_err-state-clause-cause
returns-in_err-state-clause-cause g c =
    let p = err_from_is_err_and c.from_residual-in_err-state.result c.from_residual-in_err-state.ensures.1 in
    rw (p.1, p.2) (snapshot_state c.args.log.now c.args.keep.0 (g.S.Held.seen c.args.site.now) (g.S.Held.seen c.length.new.self) (g.S.Held.seen c.kept_state.new.site) c.file-file.result c.snapshot_beside.result c.file-file.ensures.file c.snapshot_beside.ensures
    (read_alone _ _ c.length.ensures.stays c.length.ensures.files c.length.ensures.happened) c.kept_state.ensures.read c.in_ok-size.ensures.steady c.in_err-state.field-0.0 c.in_err-state.ensures.cause)

pub returns-then-found-base-clause-read : goal.returns-then-found-base-clause-read
returns-then-found-base-clause-read g c = read_then _ _ _ (read_alone _ _ c.length.ensures.stays c.length.ensures.files c.length.ensures.happened) c.kept_state.ensures.read

pub returns-then-found-base-clause-cause : goal.returns-then-found-base-clause-cause
returns-then-found-base-clause-cause g c =
    other_place c.args.log.now c.args.keep.0 (g.S.Held.seen c.args.site.now) (g.S.Held.seen c.length.new.self) (g.S.Held.seen c.kept_state.new.site) c.file-file.result c.snapshot_beside.result c.file-file.ensures.file c.snapshot_beside.ensures
    (read_alone _ _ c.length.ensures.stays c.length.ensures.files c.length.ensures.happened) c.kept_state.ensures.read (beginning_in c.in_ok-state.state) c.in_ok-state.ensures.snapshot
    (λ same. c.if-found-base.true (same ∙ sym c.base-base.ensures.base)) (c.in_ok-state.ensures.steady ∙ c.in_ok-size.ensures.steady) 8

pub state_at-requires-clause-order : goal.state_at-requires-clause-order
state_at-requires-clause-order g c = record { order = omega (arith, c.if-found-base.false, c.base-base.ensures.base, c.requires.order.0); limit = omega (arith, c.requires.order.1, c.base-base.ensures.order.limit) }

pub state_at-requires-clause-size : goal.state_at-requires-clause-size
state_at-requires-clause-size g c =
    size_now c.file-file.result _ _ _ (read_then _ _ _ (read_alone _ _ c.length.ensures.stays c.length.ensures.files c.length.ensures.happened) c.kept_state.ensures.read) c.in_ok-size.ensures.length

pub state_at-requires-clause-header : goal.state_at-requires-clause-header
state_at-requires-clause-header g c =
    header_there c.args.log.now c.args.keep.0 (g.S.Held.seen c.args.site.now) (g.S.Held.seen c.length.new.self) (g.S.Held.seen c.kept_state.new.site) c.file-file.result c.snapshot_beside.result c.file-file.ensures.file c.snapshot_beside.ensures
    (read_alone _ _ c.length.ensures.stays c.length.ensures.files c.length.ensures.happened) c.kept_state.ensures.read (beginning_in c.in_ok-state.state) c.in_ok-state.ensures.snapshot c.requires.stands

pub returns-clause-beginning : goal.returns-clause-beginning
returns-clause-beginning g c = state_begins (beginning_in c.in_ok-state.state) c.args.keep.0 c.file-file.result (g.S.Held.seen c.kept_state.new.site) _ c.state_at.ensures.state

pub returns-clause-offset : goal.returns-clause-offset
returns-clause-offset g c = state_offset (beginning_in c.in_ok-state.state) c.args.keep.0 c.file-file.result (g.S.Held.seen c.kept_state.new.site) _ c.state_at.ensures.state

pub returns-clause-parted : goal.returns-clause-parted
returns-clause-parted g c told b es from =
    state_parted c.args.log.now c.args.keep.0 (g.S.Held.seen c.args.site.now) (g.S.Held.seen c.length.new.self) (g.S.Held.seen c.kept_state.new.site) c.file-file.result c.snapshot_beside.result c.file-file.ensures.file c.snapshot_beside.ensures
    (read_alone _ _ c.length.ensures.stays c.length.ensures.files c.length.ensures.happened) c.kept_state.ensures.read (beginning_in c.in_ok-state.state) c.in_ok-state.ensures.snapshot _ told c.state_at.ensures.state b es from

pub returns-clause-read : goal.returns-clause-read
returns-clause-read g c = read_then _ _ _ (read_then _ _ _ (read_alone _ _ c.length.ensures.stays c.length.ensures.files c.length.ensures.happened) c.kept_state.ensures.read) c.state_at.ensures.read

pub returns-clause-cause : goal.returns-clause-cause
returns-clause-cause g c =
    all_refused c.args.log.now c.args.keep.0 (g.S.Held.seen c.args.site.now) (g.S.Held.seen c.length.new.self) (g.S.Held.seen c.kept_state.new.site) c.file-file.result c.snapshot_beside.result c.file-file.ensures.file c.snapshot_beside.ensures
    (read_alone _ _ c.length.ensures.stays c.length.ensures.files c.length.ensures.happened) c.kept_state.ensures.read (beginning_in c.in_ok-state.state) c.in_ok-state.ensures.snapshot (g.S.Held.seen c.state_at.new.site)
    (c.in_ok-state.ensures.steady ∙ c.in_ok-size.ensures.steady) _ c.state_at.ensures.cause
