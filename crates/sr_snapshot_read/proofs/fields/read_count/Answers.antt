use Rattle.sr_snapshot.proofs.Puts.{if_fault}
use Rattle.std.specs.Int.{w32}
use Rattle.sr_base.specs.Reading.{number_at}
use Rattle.sr_snapshot_read.proofs.Windows.{cause_as, count_breaks}
use Rattle.sr_snapshot_read.specs.Inner.Reading.{TakeCause}
use Rattle.sr_snapshot_read.specs.Damages.{FieldBreaks}
use Rattle.sr_snapshot_read.proofs.fields.read_count.Goals as goal

pub returns-in_err-count-clause-cause : goal.returns-in_err-count-clause-cause
returns-in_err-count-clause-cause g c =
    let before = g.S.Held.seen c.args.site.now in
    let now = g.S.Held.seen c.read_field.new.site in
    if_fault (TakeCause c.args.file (FieldBreaks (number_at w32)) before now c.args.window.now) c.in_err-count.field-0.0 c.from_residual.result c.from_residual.ensures.1
    (cause_as c.args.file _ _ before now c.args.window.now c.in_err-count.field-0.0 count_breaks c.in_err-count.ensures.cause)
