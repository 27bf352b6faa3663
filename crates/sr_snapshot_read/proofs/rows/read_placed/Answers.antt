use Rattle.std.proofs.Common.{List, length, sym, ap, subst}
use Rattle.sr_catalog_schema.specs.declared.table.Column.{Column}
use Rattle.sr_snapshot.specs.declared.fault.SnapFault.{SnapFault}
use Rattle.sr_snapshot.proofs.Puts.{if_fault}
use Rattle.sr_snapshot_read.proofs.TablesRead.{field_cause, placed_cause, placed_taken}
use Rattle.sr_snapshot_read.specs.Inner.Reading.{TakeCause}
use Rattle.sr_snapshot_read.specs.Inner.TablesRead.{RowBreaks}
use Rattle.sr_snapshot_read.proofs.rows.read_placed.Goals as goal

pub returns-in_err-found-clause-cause : goal.returns-in_err-found-clause-cause
returns-in_err-found-clause-cause g c =
    let before = g.S.Held.seen c.args.site.now in
    let now = g.S.Held.seen c.read_row.new.site in
    let fault = c.in_err-found.field-0.0 in
    if_fault (TakeCause c.args.file (RowBreaks c.args.table.now c.args.after.now) before now c.args.window.now) fault c.from_residual.result c.from_residual.ensures.1
    (field_cause c.args.file c.args.table.now c.args.after.now before now c.args.window.now fault c.in_err-found.ensures.cause)

pub returns-in_err-key-clause-cause : goal.returns-in_err-key-clause-cause
returns-in_err-key-clause-cause g c =
    let before = g.S.Held.seen c.args.site.now in
    let now = g.S.Held.seen c.read_row.new.site in
    let fault = c.in_err-key.field-0.0 in
    if_fault (TakeCause c.args.file (RowBreaks c.args.table.now c.args.after.now) before now c.args.window.now) fault c.from_residual-in_err-key.result c.from_residual-in_err-key.ensures.1
    (placed_cause c.args.file c.args.table.now c.args.after.now _ before now c.args.window.now c.read_row.new.window c.place-place.result c.in_ok-found.found fault (ap (λ (l : List Column). length l) c.as_slice-width.ensures.items) c.place-place.ensures.place
    c.place-place.ensures.within c.requires.over c.in_ok-found.ensures.taken c.in_err-key.ensures.cause)

pub returns-in_err-put-clause-cause : goal.returns-in_err-put-clause-cause
returns-in_err-put-clause-cause g c =
    let before = g.S.Held.seen c.args.site.now in
    let now = g.S.Held.seen c.read_row.new.site in
    let fault = c.in_err-put.field-0.0 in
    if_fault (TakeCause c.args.file (RowBreaks c.args.table.now c.args.after.now) before now c.args.window.now) fault c.from_residual-in_err-put.result c.from_residual-in_err-put.ensures.1
    (subst (λ (e : SnapFault). TakeCause c.args.file (RowBreaks c.args.table.now c.args.after.now) before now c.args.window.now e) (sym c.in_err-put.ensures.cause) (c.in_ok-found.ensures.taken.taken.read, c.in_ok-found.ensures.taken.taken.steady))

pub returns-clause-taken : goal.returns-clause-taken
returns-clause-taken g c =
    placed_taken c.args.file c.args.table.now _ (g.S.Held.seen c.args.site.now) (g.S.Held.seen c.read_row.new.site) c.args.window.now c.read_row.new.window c.args.after.now c.put.new.after c.in_ok-found.found c.in_ok-key.key c.in_ok-key.row
    c.args.rows.now c.put.new.rows c.in_ok-found.ensures.taken c.in_ok-key.ensures.row c.in_ok-key.ensures.placed c.in_ok-key.ensures.key c.in_ok-put.ensures.last c.in_ok-put.ensures.put
