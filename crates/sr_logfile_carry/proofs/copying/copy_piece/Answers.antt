use Rattle.std.proofs.Common.{◌≡◌, length, arith}
use Rattle.sr_logfile_carry.proofs.Copied.{piece_copied}
use Rattle.sr_logfile_carry.proofs.Steps.{cause_on, if_fault, only_read, only_wrote}
use Rattle.sr_logfile_carry.specs.Inner.Carrying.{StepCause}
use Rattle.sr_logfile_carry.specs.declared.fault.CarryFault.TheVariants.{Disk}
use Rattle.sr_logfile_carry.proofs.copying.copy_piece.Goals as goal

pub returns-in_err-write_at-clause-cause : goal.returns-in_err-write_at-clause-cause
returns-in_err-write_at-clause-cause g c =
    let before = g.S.Held.seen c.args.site.now in
    let middle = g.S.Held.seen c.read_at.new.self in
    let now = g.S.Held.seen c.write_at.new.self in
    if_fault (StepCause c.args.into before now) Disk c.from_residual-in_err-write_at.result c.from_residual-in_err-write_at.ensures.1
    (cause_on c.args.into before middle now Disk (only_read c.args.into before middle c.read_at.ensures.stays c.read_at.ensures.happened c.read_at.ensures.files) c.in_ok-count.ensures.steady
    (only_wrote c.args.into _ _ _ _ middle now c.write_at.ensures.stays c.write_at.ensures.happened c.write_at.ensures.others, c.in_err-write_at.ensures.cause))

pub returns-clause-copied : goal.returns-clause-copied
returns-clause-copied g c =
    let before = g.S.Held.seen c.args.site.now in
    let middle = g.S.Held.seen c.read_at.new.self in
    let now = g.S.Held.seen c.write_at.new.self in
    let long : length c.read_at.new.buffer ≡ length c.args.piece.now = omega arith in
    piece_copied c.args.from c.args.into c.args.at c.args.to (length c.args.piece.now) c.in_ok-count.count c.read_at.new.buffer before middle now
    (only_read c.args.into before middle c.read_at.ensures.stays c.read_at.ensures.happened c.read_at.ensures.files) c.in_ok-count.ensures.steady c.read_at.ensures.files c.in_ok-count.ensures.read c.if-count-piece.false long
    (only_wrote c.args.into _ _ _ _ middle now c.write_at.ensures.stays c.write_at.ensures.happened c.write_at.ensures.others) c.in_ok-write_at.ensures.steady c.requires.target c.in_ok-write_at.ensures.written
