use Rattle.sr_logfile_carry.proofs.Steps.{begun, cause_on, if_fault, only_cut, only_wrote}
use Rattle.sr_logfile_carry.specs.Inner.Carrying.{StepCause}
use Rattle.sr_logfile_carry.specs.declared.fault.CarryFault.TheVariants.{Disk}
use Rattle.sr_logfile_carry.proofs.carrying.begin.Goals as goal

pub returns-in_err-cut-clause-cause : goal.returns-in_err-cut-clause-cause
returns-in_err-cut-clause-cause g c =
    let before = g.S.Held.seen c.args.site.now in
    let now = g.S.Held.seen c.cut.new.self in
    if_fault (StepCause c.args.into before now) Disk c.from_residual.result c.from_residual.ensures.1
    (only_cut c.args.into _ _ _ before now c.cut.ensures.stays c.cut.ensures.happened c.cut.ensures.others, c.in_err-cut.ensures.cause)

pub returns-in_err-write_at-clause-cause : goal.returns-in_err-write_at-clause-cause
returns-in_err-write_at-clause-cause g c =
    let before = g.S.Held.seen c.args.site.now in
    let middle = g.S.Held.seen c.cut.new.self in
    let now = g.S.Held.seen c.write_at.new.self in
    if_fault (StepCause c.args.into before now) Disk c.from_residual-in_err-write_at.result c.from_residual-in_err-write_at.ensures.1
    (cause_on c.args.into before middle now Disk (only_cut c.args.into _ _ _ before middle c.cut.ensures.stays c.cut.ensures.happened c.cut.ensures.others) c.in_ok-cut.ensures.steady
    (only_wrote c.args.into _ _ _ _ middle now c.write_at.ensures.stays c.write_at.ensures.happened c.write_at.ensures.others, c.in_err-write_at.ensures.cause))

pub returns-clause-begun : goal.returns-clause-begun
returns-clause-begun g c =
    let before = g.S.Held.seen c.args.site.now in
    let middle = g.S.Held.seen c.cut.new.self in
    let now = g.S.Held.seen c.write_at.new.self in
    begun c.args.into _ _ before middle now (only_cut c.args.into _ _ _ before middle c.cut.ensures.stays c.cut.ensures.happened c.cut.ensures.others) c.in_ok-cut.ensures.steady c.in_ok-cut.ensures.cut
    (only_wrote c.args.into _ _ _ _ middle now c.write_at.ensures.stays c.write_at.ensures.happened c.write_at.ensures.others) c.in_ok-write_at.ensures.steady c.in_ok-write_at.ensures.written c.header_of-bytes.ensures
