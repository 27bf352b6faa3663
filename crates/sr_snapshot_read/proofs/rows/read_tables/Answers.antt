use Rattle.std.proofs.Common.{◌≡◌, []}
use Rattle.sr_snapshot.proofs.Puts.{if_fault, no_length, none_there}
use Rattle.sr_snapshot_read.proofs.TablesRead.{tables_begin, tables_cause, tables_each, tables_held, tables_more, tables_taken}
use Rattle.sr_snapshot_read.proofs.Windows.{taken_over}
use Rattle.sr_snapshot_read.specs.Inner.Damages.{NeverBreaks}
use Rattle.sr_snapshot_read.specs.Damages.{TablesBreak}
use Rattle.sr_snapshot_read.specs.Inner.Reading.{TakeCause}
use Rattle.sr_snapshot_read.proofs.rows.read_tables.Goals as goal

pub tables-init : goal.tables-init
tables-init g c =
    tables_begin c.args.file c.args.tables.now (g.S.Held.seen c.args.site.now) c.args.window.now c.new-rows.result c.requires.over c.new-rows.ensures.rows c.new-rows.ensures.marked c.new-rows.ensures.trail

pub read_table-requires : goal.read_table-requires
read_table-requires g c = record {
  over = taken_over c.args.file _ (g.S.Held.seen c.args.site.now) (g.S.Held.seen c.tables.site) c.args.window.now c.tables.window c.tables.invariant.taken;
  marked = c.tables.invariant.marked;
}

pub tables-preserved : goal.tables-preserved
tables-preserved g c =
    tables_more c.args.file c.args.tables.now c.tables.left.now c.in-Some.rest.now c.in-Some.table.now (g.S.Held.seen c.args.site.now) (g.S.Held.seen c.tables.site) (g.S.Held.seen c.read_table.new.site) c.args.window.now c.tables.window
    c.read_table.new.window c.tables.rows c.read_table.new.rows c.requires.distinct c.in-Some.ensures.cases.0 c.tables.invariant c.in_ok-read_table.ensures.taken

pub returns-in_err-read_table-clause-cause : goal.returns-in_err-read_table-clause-cause
returns-in_err-read_table-clause-cause g c =
    let first = g.S.Held.seen c.args.site.now in
    let now = g.S.Held.seen c.read_table.new.site in
    let fault = c.in_err-read_table.field-0.0 in
    if_fault (TakeCause c.args.file (TablesBreak c.args.tables.now NeverBreaks) first now c.args.window.now) fault c.from_residual.result c.from_residual.ensures.1
    (tables_cause c.args.file c.args.tables.now c.tables.left.now c.in-Some.rest.now c.in-Some.table.now first (g.S.Held.seen c.tables.site) now c.args.window.now c.tables.window c.tables.rows fault c.in-Some.ensures.cases.0 c.tables.invariant
    c.in_err-read_table.ensures.cause)

pub returns-clause-taken : goal.returns-clause-taken
returns-clause-taken g c =
    let none : c.tables.left.now ≡ [] = no_length _ (none_there c.split_first.result _ _ c.in_default.not-Some c.split_first.ensures.cases) in
    tables_taken c.args.file c.args.tables.now c.tables.left.now (g.S.Held.seen c.args.site.now) (g.S.Held.seen c.tables.site) c.args.window.now c.tables.window c.tables.rows none c.tables.invariant

pub returns-clause-each : goal.returns-clause-each
returns-clause-each g c =
    let none : c.tables.left.now ≡ [] = no_length _ (none_there c.split_first.result _ _ c.in_default.not-Some c.split_first.ensures.cases) in
    tables_each c.args.file c.args.tables.now c.tables.left.now (g.S.Held.seen c.args.site.now) (g.S.Held.seen c.tables.site) c.args.window.now c.tables.window c.tables.rows none c.tables.invariant

pub returns-clause-held : goal.returns-clause-held
returns-clause-held g c =
    let none : c.tables.left.now ≡ [] = no_length _ (none_there c.split_first.result _ _ c.in_default.not-Some c.split_first.ensures.cases) in
    tables_held c.args.file c.args.tables.now c.tables.left.now (g.S.Held.seen c.args.site.now) (g.S.Held.seen c.tables.site) c.args.window.now c.tables.window c.tables.rows none c.tables.invariant

pub returns-clause-marked : goal.returns-clause-marked
returns-clause-marked g c = c.tables.invariant.marked
