use Rattle.sr_snapshot.proofs.Puts.{if_fault}
use Rattle.std.specs.Int.{w64}
use Rattle.sr_base.specs.Reading.{number_at}
use Rattle.sr_snapshot_read.proofs.Windows.{cause_as, number_breaks}
use Rattle.sr_snapshot_read.specs.Inner.Reading.{TakeCause}
use Rattle.sr_snapshot_read.specs.Damages.{FieldBreaks}
use Rattle.sr_snapshot_read.proofs.fields.read_number.Goals as goal

pub returns-in_err-number-clause-cause : goal.returns-in_err-number-clause-cause
returns-in_err-number-clause-cause g c =
    let before = g.S.Held.seen c.args.site.now in
    let now = g.S.Held.seen c.read_field.new.site in
    if_fault (TakeCause c.args.file (FieldBreaks (number_at w64)) before now c.args.window.now) c.in_err-number.field-0.0 c.from_residual.result c.from_residual.ensures.1
    (cause_as c.args.file _ _ before now c.args.window.now c.in_err-number.field-0.0 number_breaks c.in_err-number.ensures.cause)
