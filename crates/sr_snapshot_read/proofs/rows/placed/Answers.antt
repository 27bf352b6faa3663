use Rattle.sr_snapshot_read.proofs.TablesRead.{early_found, has_place, misfit_found, own_key}
use Rattle.sr_snapshot_read.proofs.rows.placed.Goals as goal

pub returns-then-not-is_row-clause-cause : goal.returns-then-not-is_row-clause-cause
returns-then-not-is_row-clause-cause c =
    misfit_found c.args.table.now c.args.after.now c.args.found c.in-Some.row c.values.result.now c.as_slice.result.now c.args.place c.is_row.result c.in-Some.is c.as_slice.ensures.items c.values.ensures.values c.is_row.ensures.fits c.if-not-is_row.true

pub returns-then-not-is_past-clause-cause : goal.returns-then-not-is_past-clause-cause
returns-then-not-is_past-clause-cause c =
    early_found c.args.table.now c.args.after.now c.args.found c.in-Some.row c.values-2.result.now c.in_ok-key.key c.as_slice-2.result.now c.args.place c.is_past.result c.in-Some.is c.as_slice-2.ensures.items c.values-2.ensures.values c.in_ok-key.ensures.key
    c.is_past.ensures.past c.if-not-is_past.true

pub returns-clause-placed : goal.returns-clause-placed
returns-clause-placed c =
    has_place c.args.table.now c.args.after.now c.in-Some.row c.values.result.now c.values-2.result.now c.in_ok-key.key c.as_slice.result.now c.as_slice-2.result.now c.is_row.result c.is_past.result c.as_slice.ensures.items c.values.ensures.values
    c.as_slice-2.ensures.items c.values-2.ensures.values c.in_ok-key.ensures.key c.is_row.ensures.fits c.if-not-is_row.false c.is_past.ensures.past c.if-not-is_past.false

pub returns-clause-key : goal.returns-clause-key
returns-clause-key c = own_key c.args.table.now c.in-Some.row c.values-2.result.now c.in_ok-key.key c.as_slice-2.result.now c.as_slice-2.ensures.items c.values-2.ensures.values c.in_ok-key.ensures.key
