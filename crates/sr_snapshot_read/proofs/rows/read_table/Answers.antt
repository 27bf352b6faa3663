use Rattle.sr_snapshot.proofs.Puts.{if_fault}
use Rattle.std.proofs.Common.{[], ◌∷◌}
use Rattle.sr_snapshot_read.proofs.TablesRead.{count_cause, its_cause, name_cause, table_taken}
use Rattle.sr_snapshot_read.proofs.Windows.{taken_over}
use Rattle.sr_snapshot_read.specs.Inner.Damages.{NeverBreaks}
use Rattle.sr_snapshot_read.specs.Damages.{TablesBreak}
use Rattle.sr_snapshot_read.specs.Inner.Reading.{TakeCause}
use Rattle.sr_snapshot_read.proofs.rows.read_table.Goals as goal

pub returns-in_err-name-clause-cause : goal.returns-in_err-name-clause-cause
returns-in_err-name-clause-cause g c =
    let before = g.S.Held.seen c.args.site.now in
    let now = g.S.Held.seen c.read_this_name.new.site in
    let fault = c.in_err-name.field-0.0 in
    if_fault (TakeCause c.args.file (TablesBreak (c.args.table.now ∷ []) NeverBreaks) before now c.args.window.now) fault c.from_residual.result c.from_residual.ensures.1
    (name_cause c.args.file c.args.table.now before now c.args.window.now fault c.in_err-name.ensures.cause)

pub read_count-requires : goal.read_count-requires
read_count-requires g c = record { over = taken_over c.args.file _ (g.S.Held.seen c.args.site.now) (g.S.Held.seen c.read_this_name.new.site) c.args.window.now c.read_this_name.new.window c.in_ok-name.ensures.taken }

pub returns-in_err-count-clause-cause : goal.returns-in_err-count-clause-cause
returns-in_err-count-clause-cause g c =
    let before = g.S.Held.seen c.args.site.now in
    let middle = g.S.Held.seen c.read_this_name.new.site in
    let now = g.S.Held.seen c.read_count.new.site in
    let fault = c.in_err-count.field-0.0 in
    if_fault (TakeCause c.args.file (TablesBreak (c.args.table.now ∷ []) NeverBreaks) before now c.args.window.now) fault c.from_residual-in_err-count.result c.from_residual-in_err-count.ensures.1
    (count_cause c.args.file c.args.table.now before middle now c.args.window.now c.read_this_name.new.window fault c.in_ok-name.ensures.taken c.in_err-count.ensures.cause)

pub read_rows-requires : goal.read_rows-requires
read_rows-requires g c = record {
  over = taken_over c.args.file _ (g.S.Held.seen c.read_this_name.new.site) (g.S.Held.seen c.read_count.new.site) c.read_this_name.new.window c.read_count.new.window c.in_ok-count.ensures.taken;
  marked = c.requires.marked;
}

pub returns-in_err-read_rows-clause-cause : goal.returns-in_err-read_rows-clause-cause
returns-in_err-read_rows-clause-cause g c =
    let before = g.S.Held.seen c.args.site.now in
    let middle = g.S.Held.seen c.read_this_name.new.site in
    let later = g.S.Held.seen c.read_count.new.site in
    let now = g.S.Held.seen c.read_rows.new.site in
    let fault = c.in_err-read_rows.field-0.0 in
    if_fault (TakeCause c.args.file (TablesBreak (c.args.table.now ∷ []) NeverBreaks) before now c.args.window.now) fault c.from_residual-in_err-read_rows.result c.from_residual-in_err-read_rows.ensures.1
    (its_cause c.args.file c.args.table.now c.in_ok-count.count before middle later now c.args.window.now c.read_this_name.new.window c.read_count.new.window fault c.in_ok-count.ensures.short c.in_ok-name.ensures.taken c.in_ok-count.ensures.taken
    c.in_err-read_rows.ensures.cause)

pub returns-clause-taken : goal.returns-clause-taken
returns-clause-taken g c =
    table_taken c.args.file c.args.table.now c.in_ok-count.count (g.S.Held.seen c.args.site.now) (g.S.Held.seen c.read_this_name.new.site) (g.S.Held.seen c.read_count.new.site) (g.S.Held.seen c.read_rows.new.site) c.args.window.now
    c.read_this_name.new.window c.read_count.new.window c.read_rows.new.window c.args.rows.now c.read_rows.new.rows c.in_ok-count.ensures.short c.in_ok-name.ensures.taken c.in_ok-count.ensures.taken c.in_ok-read_rows.ensures.taken
