use Rattle.std.proofs.Common.{◌+◌, length, arith}
use Rattle.sr_logfile_carry.proofs.Copied.{copying_on}
use Rattle.sr_logfile_carry.proofs.Steps.{cause_on, if_fault}
use Rattle.sr_logfile_carry.specs.Inner.Carrying.{StepCause}
use Rattle.sr_logfile_carry.proofs.copying.copy.Goals as goal

pub returns-in_err-copy_piece-clause-cause : goal.returns-in_err-copy_piece-clause-cause
returns-in_err-copy_piece-clause-cause g c =
    let before = g.S.Held.seen c.args.site.now in
    let middle = g.S.Held.seen c.pieces.site in
    let now = g.S.Held.seen c.copy_piece.new.site in
    let has = c.pieces.invariant.has in
    if_fault (StepCause c.args.into before now) c.in_err-copy_piece.field-0.0 c.from_residual.result c.from_residual.ensures.1
    (cause_on c.args.into before middle now c.in_err-copy_piece.field-0.0 has.only has.steady c.in_err-copy_piece.ensures.cause)

pub pieces-preserved : goal.pieces-preserved
pieces-preserved g c =
    let before = g.S.Held.seen c.args.site.now in
    let middle = g.S.Held.seen c.pieces.site in
    let now = g.S.Held.seen c.copy_piece.new.site in
    copying_on c.args.part c.args.into c.pieces.place before middle c.requires.other c.pieces.invariant (length c.split_at_mut-piece.result.0.now) (c.pieces.place + c.smaller-wanted.result) now (omega arith) (omega arith) c.in_ok-copy_piece.ensures.copied
