use Rattle.std.proofs.Common.{[], ◌∷◌}
use Rattle.sr_logfile_carry.proofs.Steps.{cause_on, has_written, if_fault, only_synced, only_wrote, settled_by}
use Rattle.sr_logfile_carry.specs.Inner.Carrying.{StepCause}
use Rattle.sr_logfile_carry.specs.declared.fault.CarryFault.TheVariants.{Disk}
use Rattle.sr_logfile_carry.proofs.carrying.close.Goals as goal

pub returns-in_err-write_at-clause-cause : goal.returns-in_err-write_at-clause-cause
returns-in_err-write_at-clause-cause g c =
    let before = g.S.Held.seen c.args.site.now in
    let now = g.S.Held.seen c.write_at.new.self in
    if_fault (StepCause c.args.into before now) Disk c.from_residual.result c.from_residual.ensures.1
    (only_wrote c.args.into _ _ _ _ before now c.write_at.ensures.stays c.write_at.ensures.happened c.write_at.ensures.others, c.in_err-write_at.ensures.cause)

pub returns-in_err-sync-clause-cause : goal.returns-in_err-sync-clause-cause
returns-in_err-sync-clause-cause g c =
    let before = g.S.Held.seen c.args.site.now in
    let middle = g.S.Held.seen c.write_at.new.self in
    let now = g.S.Held.seen c.sync.new.self in
    if_fault (StepCause c.args.into before now) Disk c.from_residual-in_err-sync.result c.from_residual-in_err-sync.ensures.1
    (cause_on c.args.into before middle now Disk (only_wrote c.args.into _ _ _ _ before middle c.write_at.ensures.stays c.write_at.ensures.happened c.write_at.ensures.others) c.in_ok-write_at.ensures.steady
    (only_synced c.args.into _ _ middle now c.sync.ensures.stays c.sync.ensures.happened c.sync.ensures.files, c.in_err-sync.ensures.cause))

pub returns-clause-closed : goal.returns-clause-closed
returns-clause-closed g c =
    let before = g.S.Held.seen c.args.site.now in
    let middle = g.S.Held.seen c.write_at.new.self in
    let now = g.S.Held.seen c.sync.new.self in
    settled_by c.args.into _ before middle now
    (has_written c.args.into c.args.at (0 ∷ []) before middle (only_wrote c.args.into _ _ _ _ before middle c.write_at.ensures.stays c.write_at.ensures.happened c.write_at.ensures.others) c.in_ok-write_at.ensures.steady c.requires.target c.in_ok-write_at.ensures.written)
    (only_synced c.args.into _ _ middle now c.sync.ensures.stays c.sync.ensures.happened c.sync.ensures.files) c.in_ok-sync.ensures.steady c.sync.ensures.files c.in_ok-sync.ensures.happened
