use Rattle.std.proofs.Common.{inl, refl}
use Rattle.sr_database_files.proofs.Quiet.{read_same}
use Rattle.sr_snapshot.specs.Inner.Beginnings.{beginning_in}
use Rattle.sr_database.proofs.AtEnd.{own_parted, own_place}
use Rattle.sr_database.proofs.Begun.{begin_cause, has_begun, may_go, not_disk, short_or_still}
use Rattle.sr_database.proofs.StatesBehind.{is_parted}
use Rattle.sr_database.proofs.at_end.begin_at_end.Goals as goal

pub restart_files-restarted-requires-clause-parted : goal.restart_files-restarted-requires-clause-parted
restart_files-restarted-requires-clause-parted g c =
    let before = g.S.Held.seen c.args.site.now in
    let found = beginning_in c.in_ok-state.state in
    is_parted c.args.log.now c.args.keep.0 c.in_ok-state.state.offset.0 before before (λ told. told) (λ told. refl) (own_place (beginning_in c.in_ok-state.state) c.args.catalog.now c.args.rows.now.rows c.args.books.now c.args.keep.0 c.in_ok-state.ensures.state) c.requires.stands found
    (own_parted c.args.log.now c.args.keep.0 c.args.catalog.now c.args.rows.now.rows c.args.books.now before c.requires.own found c.in_ok-state.ensures.state)

-- ---- begun anew

pub returns-in-Ok-clause-begun : goal.returns-in-Ok-clause-begun
returns-in-Ok-clause-begun g c told b es from =
    let before = g.S.Held.seen c.args.site.now in
    let now = g.S.Held.seen c.restart_files-restarted.new.site in
    let found = beginning_in c.in_ok-state.state in
    let parted = own_parted c.args.log.now c.args.keep.0 c.args.catalog.now c.args.rows.now.rows c.args.books.now before c.requires.own found c.in_ok-state.ensures.state told b es from in
    has_begun c.args.log.now c.args.keep.0 before before now (read_same before) refl found told b es from parted c.give_back-base_catalog.result c.give_back-base_catalog.ensures.catalog c.in-Ok.ensures.short (c.in-Ok.ensures.restarted told)

pub returns-in-Ok-clause-moments : goal.returns-in-Ok-clause-moments
returns-in-Ok-clause-moments g c told b es from =
    let before = g.S.Held.seen c.args.site.now in
    let now = g.S.Held.seen c.restart_files-restarted.new.site in
    let found = beginning_in c.in_ok-state.state in
    let parted = own_parted c.args.log.now c.args.keep.0 c.args.catalog.now c.args.rows.now.rows c.args.books.now before c.requires.own found c.in_ok-state.ensures.state told b es from in
    may_go c.args.log.now c.args.keep.0 before before now (read_same before) refl found told b es from parted (inl c.in-Ok.ensures.short) (c.restart_files-restarted.ensures.moments told)

-- ---- not begun anew

pub returns-in-Err-clause-moments : goal.returns-in-Err-clause-moments
returns-in-Err-clause-moments g c told b es from =
    let before = g.S.Held.seen c.args.site.now in
    let now = g.S.Held.seen c.restart_files-restarted.new.site in
    let found = beginning_in c.in_ok-state.state in
    let parted = own_parted c.args.log.now c.args.keep.0 c.args.catalog.now c.args.rows.now.rows c.args.books.now before c.requires.own found c.in_ok-state.ensures.state told b es from in
    may_go c.args.log.now c.args.keep.0 before before now (read_same before) refl found told b es from parted
    (short_or_still c.args.log.now c.args.keep.0 before before now (read_same before) refl found c.args.log.now.file c.in-Err.fault c.in-Err.ensures.cause)
    (c.restart_files-restarted.ensures.moments told)

pub returns-in-Err-clause-stopped : goal.returns-in-Err-clause-stopped
returns-in-Err-clause-stopped g c told other = c.in-Err.ensures.stopped told (not_disk c.in-Err.fault c.restart_fault.result c.restart_fault.ensures other)

pub returns-in-Err-clause-cause : goal.returns-in-Err-clause-cause
returns-in-Err-clause-cause g c =
    let before = g.S.Held.seen c.args.site.now in
    let now = g.S.Held.seen c.restart_files-restarted.new.site in
    let found = beginning_in c.in_ok-state.state in
    begin_cause c.args.log.now c.args.keep.0 before before now (read_same before) refl found
    (own_parted c.args.log.now c.args.keep.0 c.args.catalog.now c.args.rows.now.rows c.args.books.now before c.requires.own found c.in_ok-state.ensures.state) c.in-Err.fault c.restart_fault.result c.restart_fault.ensures c.in-Err.ensures.cause
