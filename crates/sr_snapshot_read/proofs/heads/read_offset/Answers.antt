use Rattle.std.proofs.Common.{ℕ, inl, sym, subst}
use Rattle.std.specs.Int.{w64, to_be_bytes}
use Rattle.sr_base.specs.Reading.{number_at}
use Rattle.sr_snapshot.proofs.Puts.{if_fault}
use Rattle.sr_snapshot_read.specs.Damages.{OffsetBreaks, FieldBreaks}
use Rattle.sr_snapshot_read.proofs.Heres.{here_cause, far_offset}
use Rattle.sr_snapshot_read.proofs.Windows.{cause_as}
use Rattle.sr_snapshot_read.specs.Inner.Reading.{HasTaken, TakeCause}
use Rattle.sr_snapshot_read.proofs.heads.read_offset.Goals as goal

pub returns-in_err-number-clause-cause : goal.returns-in_err-number-clause-cause
returns-in_err-number-clause-cause g c =
    let before = g.S.Held.seen c.args.site.now in
    let now = g.S.Held.seen c.read_number.new.site in
    let fault = c.in_err-number.field-0.0 in
    if_fault (TakeCause c.args.file OffsetBreaks before now c.args.window.now) fault c.from_residual.result c.from_residual.ensures.1
    (cause_as c.args.file (FieldBreaks (number_at w64)) OffsetBreaks before now c.args.window.now fault (λ bytes left broken. inl broken) c.in_err-number.ensures.cause)

pub returns-in_err-offset-clause-cause : goal.returns-in_err-offset-clause-cause
returns-in_err-offset-clause-cause g c =
    let before = g.S.Held.seen c.args.site.now in
    let now = g.S.Held.seen c.read_number.new.site in
    let fault = c.in_err-offset.field-0.0 in
    if_fault (TakeCause c.args.file OffsetBreaks before now c.args.window.now) fault c.from_residual-in_err-offset.result c.from_residual-in_err-offset.ensures.1
    (here_cause c.args.file OffsetBreaks (to_be_bytes w64 c.in_ok-number.number) before now c.args.window.now c.read_number.new.window c.place-place.result fault c.in_err-offset.ensures.place c.place-place.ensures.place c.place-place.ensures.within c.requires.over
    c.in_ok-number.ensures.taken (far_offset c.in_ok-number.number c.in_ok-number.ensures.short c.in_err-offset.ensures.far))

pub returns-clause-taken : goal.returns-clause-taken
returns-clause-taken g c =
    subst (λ (x : ℕ). HasTaken c.args.file (to_be_bytes w64 x) (g.S.Held.seen c.args.site.now) (g.S.Held.seen c.read_number.new.site) c.args.window.now c.read_number.new.window) (sym c.in_ok-offset.ensures.offset) c.in_ok-number.ensures.taken
