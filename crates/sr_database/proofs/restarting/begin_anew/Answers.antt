use Rattle.std.proofs.Common.{ℕ, inl, sym, ◌∙◌, ap, subst, arith}
use Rattle.std.proofs.lemmas.Result.{err_from_is_err_and}
use Rattle.std.specs.Prelude.{IsTrue}
use Rattle.sr_catalog_schema.specs.Catalogs.{Lists}
use Rattle.sr_catalog_script_laws.specs.Scripts.{IsSpellable}
use Rattle.sr_database_files.proofs.Quiet.{told_then}
use Rattle.sr_database_meaning.specs.Generations.{log_of, generation_of, other_of}
use Rattle.sr_database_restart.proofs.Quiet.{quiet_on}
use Rattle.sr_logfile_carry.specs.Carried.{carried}
use Rattle.sr_site.specs.Inner.Growing.{disk_stays_on}
use Rattle.sr_snapshot.specs.Inner.Beginnings.{beginning_in}
use Rattle.sr_database.proofs.Begun.{begin_cause, has_begun, kept_read, may_go, not_disk, quiet_read, short_or_still, state_cause, stopped_before}
use Rattle.sr_database.proofs.StatesBehind.{is_parted, its_generation}
use Rattle.sr_database.proofs.restarting.begin_anew.Goals as goal

-- ---- no state was found

pub returns-in_err-state-clause-moments : goal.returns-in_err-state-clause-moments
returns-in_err-state-clause-moments g c told b es from = inl (kept_read (generation_of c.args.log.now.file) (g.S.Held.seen c.args.site.now) (g.S.Held.seen c.state_behind.new.site) c.state_behind.ensures.read told)

pub returns-in_err-state-clause-stopped : goal.returns-in_err-state-clause-stopped
returns-in_err-state-clause-stopped g c told =
    let p = err_from_is_err_and c.from_residual.result c.from_residual.ensures.1 in
    rw (p.1, p.2) (λ other. kept_read (generation_of c.args.log.now.file) (g.S.Held.seen c.args.site.now) (g.S.Held.seen c.state_behind.new.site) c.state_behind.ensures.read told)

pub returns-in_err-state-clause-quiet : goal.returns-in_err-state-clause-quiet
returns-in_err-state-clause-quiet g c told = quiet_read (g.S.Held.seen c.args.site.now) (g.S.Held.seen c.state_behind.new.site) c.state_behind.ensures.read told

pub returns-in_err-state-clause-stays : goal.returns-in_err-state-clause-stays
returns-in_err-state-clause-stays g c = c.state_behind.ensures.read.stays

pub returns-in_err-state-clause-cause : goal.returns-in_err-state-clause-cause
returns-in_err-state-clause-cause g c =
    let p = err_from_is_err_and c.from_residual.result c.from_residual.ensures.1 in
    rw (p.1, p.2) (state_cause c.args.log.now c.args.keep.0 (g.S.Held.seen c.args.site.now) (g.S.Held.seen c.state_behind.new.site) c.in_err-state.field-0.0 c.in_err-state.ensures.cause)

-- ---- one was

pub restart_files-requires-clause-file : goal.restart_files-requires-clause-file
restart_files-requires-clause-file g c told =
    let has = c.requires.stands (subst IsTrue c.state_behind.ensures.read.stays.observable told) in
    (its_generation c.args.log.now has.beginning has.es (g.S.Held.seen c.args.site.now) has.is).0

pub restart_files-requires-clause-order : goal.restart_files-requires-clause-order
restart_files-requires-clause-order g c = (omega (arith, c.in_ok-state.ensures.offset, c.requires.order.0), omega (arith, c.in_ok-state.ensures.offset, c.requires.order.1))

pub restart_files-requires-clause-parted : goal.restart_files-requires-clause-parted
restart_files-requires-clause-parted g c =
    is_parted c.args.log.now c.args.keep.0 c.in_ok-state.state.offset.0 (g.S.Held.seen c.args.site.now) (g.S.Held.seen c.state_behind.new.site) (λ told. subst IsTrue c.state_behind.ensures.read.stays.observable told) c.state_behind.ensures.read.files
    c.in_ok-state.ensures.offset c.requires.stands (beginning_in c.in_ok-state.state) c.in_ok-state.ensures.parted

pub returns-in-Ok-clause-log : goal.returns-in-Ok-clause-log
returns-in-Ok-clause-log g c =
    c.anew_of.ensures.log ∙ c.in-Ok.ensures.log ∙ ap (λ (n : ℕ). carried c.args.log.now n (log_of (other_of (generation_of c.args.log.now.file)))) c.in_ok-state.ensures.offset

pub returns-in-Ok-clause-catalog : goal.returns-in-Ok-clause-catalog
returns-in-Ok-clause-catalog g c = subst (λ (k : Lists). IsSpellable k) (sym c.anew_of.ensures.catalog) c.in_ok-state.ensures.beginning.catalog

pub returns-in-Ok-clause-begun : goal.returns-in-Ok-clause-begun
returns-in-Ok-clause-begun g c told b es from =
    let before = g.S.Held.seen c.args.site.now in
    let middle = g.S.Held.seen c.state_behind.new.site in
    let now = g.S.Held.seen c.restart_files.new.site in
    has_begun c.args.log.now c.args.keep.0 before middle now c.state_behind.ensures.read c.in_ok-state.ensures.steady (beginning_in c.in_ok-state.state) told b es from (c.in_ok-state.ensures.parted told b es from)
    c.anew_of.result.base_catalog c.anew_of.ensures.catalog c.in-Ok.ensures.short (c.in-Ok.ensures.restarted (told_then before middle c.state_behind.ensures.read.stays told))

pub returns-in-Ok-clause-moments : goal.returns-in-Ok-clause-moments
returns-in-Ok-clause-moments g c told b es from =
    let before = g.S.Held.seen c.args.site.now in
    let middle = g.S.Held.seen c.state_behind.new.site in
    let now = g.S.Held.seen c.restart_files.new.site in
    may_go c.args.log.now c.args.keep.0 before middle now c.state_behind.ensures.read c.in_ok-state.ensures.steady (beginning_in c.in_ok-state.state) told b es from (c.in_ok-state.ensures.parted told b es from)
    (inl c.in-Ok.ensures.short) (c.restart_files.ensures.moments (told_then before middle c.state_behind.ensures.read.stays told))

pub returns-in-Ok-clause-quiet : goal.returns-in-Ok-clause-quiet
returns-in-Ok-clause-quiet g c told =
    let before = g.S.Held.seen c.args.site.now in
    let middle = g.S.Held.seen c.state_behind.new.site in
    let now = g.S.Held.seen c.restart_files.new.site in
    quiet_on before.happened middle.happened now.happened (quiet_read before middle c.state_behind.ensures.read told) (c.restart_files.ensures.quiet (told_then before middle c.state_behind.ensures.read.stays told))

pub returns-in-Ok-clause-stays : goal.returns-in-Ok-clause-stays
returns-in-Ok-clause-stays g c = disk_stays_on _ (g.S.Held.seen c.state_behind.new.site) _ c.state_behind.ensures.read.stays c.restart_files.ensures.stays

pub returns-in-Ok-clause-steady : goal.returns-in-Ok-clause-steady
returns-in-Ok-clause-steady g c = c.in-Ok.ensures.steady ∙ c.in_ok-state.ensures.steady

-- ---- the files were not begun anew

pub returns-in-Err-clause-moments : goal.returns-in-Err-clause-moments
returns-in-Err-clause-moments g c told b es from =
    let before = g.S.Held.seen c.args.site.now in
    let middle = g.S.Held.seen c.state_behind.new.site in
    let now = g.S.Held.seen c.restart_files.new.site in
    may_go c.args.log.now c.args.keep.0 before middle now c.state_behind.ensures.read c.in_ok-state.ensures.steady (beginning_in c.in_ok-state.state) told b es from (c.in_ok-state.ensures.parted told b es from)
    (short_or_still c.args.log.now c.args.keep.0 before middle now c.state_behind.ensures.read c.in_ok-state.ensures.steady (beginning_in c.in_ok-state.state) c.args.log.now.file c.in-Err.fault c.in-Err.ensures.cause)
    (c.restart_files.ensures.moments (told_then before middle c.state_behind.ensures.read.stays told))

pub returns-in-Err-clause-stopped : goal.returns-in-Err-clause-stopped
returns-in-Err-clause-stopped g c told other =
    let before = g.S.Held.seen c.args.site.now in
    let middle = g.S.Held.seen c.state_behind.new.site in
    let now = g.S.Held.seen c.restart_files.new.site in
    stopped_before c.args.log.now c.args.keep.0 before middle now c.state_behind.ensures.read c.in_ok-state.ensures.steady (beginning_in c.in_ok-state.state) told
    (c.in-Err.ensures.stopped (told_then before middle c.state_behind.ensures.read.stays told) (not_disk c.in-Err.fault c.restart_fault.result c.restart_fault.ensures other))

pub returns-in-Err-clause-quiet : goal.returns-in-Err-clause-quiet
returns-in-Err-clause-quiet g c told =
    let before = g.S.Held.seen c.args.site.now in
    let middle = g.S.Held.seen c.state_behind.new.site in
    let now = g.S.Held.seen c.restart_files.new.site in
    quiet_on before.happened middle.happened now.happened (quiet_read before middle c.state_behind.ensures.read told) (c.restart_files.ensures.quiet (told_then before middle c.state_behind.ensures.read.stays told))

pub returns-in-Err-clause-stays : goal.returns-in-Err-clause-stays
returns-in-Err-clause-stays g c = disk_stays_on _ (g.S.Held.seen c.state_behind.new.site) _ c.state_behind.ensures.read.stays c.restart_files.ensures.stays

pub returns-in-Err-clause-cause : goal.returns-in-Err-clause-cause
returns-in-Err-clause-cause g c =
    begin_cause c.args.log.now c.args.keep.0 (g.S.Held.seen c.args.site.now) (g.S.Held.seen c.state_behind.new.site) (g.S.Held.seen c.restart_files.new.site) c.state_behind.ensures.read c.in_ok-state.ensures.steady (beginning_in c.in_ok-state.state)
    c.in_ok-state.ensures.parted c.in-Err.fault c.restart_fault.result c.restart_fault.ensures c.in-Err.ensures.cause
