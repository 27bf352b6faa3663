use Rattle.std.proofs.Common.{None, refl, arith}
use Rattle.sr_snapshot.proofs.Puts.{if_fault}
use Rattle.sr_snapshot_read.proofs.TablesRead.{rows_begin, rows_cause, rows_end, rows_marked, rows_more}
use Rattle.sr_snapshot_read.proofs.Windows.{taken_over}
use Rattle.sr_snapshot_read.specs.Damages.{RowsBreak}
use Rattle.sr_snapshot_read.specs.Inner.Reading.{TakeCause}
use Rattle.sr_snapshot_read.proofs.rows.read_rows.Goals as goal

pub rows-init : goal.rows-init
rows-init g c = rows_begin c.args.file c.args.table.now c.args.count (g.S.Held.seen c.args.site.now) c.args.window.now None c.args.rows.now c.requires.over refl c.requires.marked

pub read_placed-requires : goal.read_placed-requires
read_placed-requires g c = record {
  over = taken_over c.args.file _ (g.S.Held.seen c.args.site.now) (g.S.Held.seen c.rows.site) c.args.window.now c.rows.window c.rows.invariant.taken;
  marked = rows_marked c.args.file c.args.table.now c.args.count c.rows.left (g.S.Held.seen c.args.site.now) (g.S.Held.seen c.rows.site) c.args.window.now c.rows.window c.rows.after c.args.rows.now c.rows.rows c.rows.invariant;
}

pub rows-preserved : goal.rows-preserved
rows-preserved g c =
    rows_more c.args.file c.args.table.now c.args.count c.rows.left _ (g.S.Held.seen c.args.site.now) (g.S.Held.seen c.rows.site) (g.S.Held.seen c.read_placed.new.site) c.args.window.now c.rows.window c.read_placed.new.window c.rows.after
    c.read_placed.new.after c.args.rows.now c.rows.rows c.read_placed.new.rows (omega arith) c.rows.invariant c.in_ok-read_placed.ensures.taken

pub returns-in_err-read_placed-clause-cause : goal.returns-in_err-read_placed-clause-cause
returns-in_err-read_placed-clause-cause g c =
    let first = g.S.Held.seen c.args.site.now in
    let now = g.S.Held.seen c.read_placed.new.site in
    let fault = c.in_err-read_placed.field-0.0 in
    if_fault (TakeCause c.args.file (RowsBreak c.args.table.now None c.args.count) first now c.args.window.now) fault c.from_residual.result c.from_residual.ensures.1
    (rows_cause c.args.file c.args.table.now c.args.count c.rows.left first (g.S.Held.seen c.rows.site) now c.args.window.now c.rows.window c.rows.after c.args.rows.now c.rows.rows fault (omega arith) c.rows.invariant
    c.in_err-read_placed.ensures.cause)

pub returns-clause-taken : goal.returns-clause-taken
returns-clause-taken g c =
    rows_end c.args.file c.args.table.now c.args.count c.rows.left (g.S.Held.seen c.args.site.now) (g.S.Held.seen c.rows.site) c.args.window.now c.rows.window c.rows.after c.args.rows.now c.rows.rows (omega arith) c.rows.invariant
