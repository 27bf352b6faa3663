use Rattle.std.proofs.Common.{sym, subst}
use Rattle.sr_base.specs.Fields.{name_at}
use Rattle.sr_snapshot.specs.declared.fault.SnapFault.{SnapFault}
use Rattle.sr_snapshot_read.proofs.Places.{cause_by}
use Rattle.sr_snapshot_read.proofs.Windows.{cause_as, name_breaks}
use Rattle.sr_snapshot_read.specs.Places.{name_in}
use Rattle.sr_snapshot_read.specs.Inner.Reading.{TakeCause}
use Rattle.sr_snapshot_read.specs.Damages.{FieldBreaks}
use Rattle.sr_snapshot_read.proofs.fields.read_name.Goals as goal

pub returns-in-Err-clause-cause : goal.returns-in-Err-clause-cause
returns-in-Err-clause-cause g c =
    let before = g.S.Held.seen c.args.site.now in
    let now = g.S.Held.seen c.read_field.new.site in
    subst (λ (e : SnapFault). TakeCause c.args.file (FieldBreaks name_in) before now c.args.window.now e) (sym c.within.ensures)
    (cause_by c.args.file 0 name_at before now c.args.window.now c.place-place.result c.in-Err.fault c.place-place.ensures.place
    (cause_as c.args.file _ _ before now c.args.window.now c.in-Err.fault name_breaks c.in-Err.ensures.cause))
