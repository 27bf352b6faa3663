use Rattle.std.proofs.Common.{List, map, sym, subst}
use Rattle.sr_catalog_schema.specs.Members.{table_name}
use Rattle.sr_catalog_schema.specs.declared.table.Table.{Table}
use Rattle.sr_logform.specs.Rules.{AreDistinct}
use Rattle.sr_snapshot.proofs.Puts.{if_fault}
use Rattle.sr_snapshot_read.proofs.Standing.{distinct_tables}
use Rattle.sr_snapshot_read.proofs.StateRead.{all_taken, is_beginning, lists_cause, lists_end, script_cause}
use Rattle.sr_snapshot_read.proofs.Windows.{taken_over}
use Rattle.sr_snapshot_read.specs.Damages.{StateBreaks}
use Rattle.sr_snapshot_read.specs.Inner.Reading.{TakeCause}
use Rattle.sr_snapshot_read.proofs.loading.read_all.Goals as goal

pub read_script-requires : goal.read_script-requires
read_script-requires g c = record { over = taken_over c.args.file _ (g.S.Held.seen c.args.site.now) (g.S.Held.seen c.read_head.new.site) c.args.window.now c.read_head.new.window c.in_ok-offset.ensures.taken }

pub returns-in_err-catalog-clause-cause : goal.returns-in_err-catalog-clause-cause
returns-in_err-catalog-clause-cause g c =
    let before = g.S.Held.seen c.args.site.now in
    let middle = g.S.Held.seen c.read_head.new.site in
    let now = g.S.Held.seen c.read_script.new.site in
    let fault = c.in_err-catalog.field-0.0 in
    if_fault (TakeCause c.args.file StateBreaks before now c.args.window.now) fault c.from_residual-in_err-catalog.result c.from_residual-in_err-catalog.ensures.1
    (script_cause c.args.file c.in_ok-offset.offset.0 c.in_ok-offset.publisher before middle now c.args.window.now c.read_head.new.window fault c.in_ok-offset.ensures.near c.in_ok-offset.ensures.name c.in_ok-offset.ensures.taken
    c.in_err-catalog.ensures.cause)

pub read_lists-requires : goal.read_lists-requires
read_lists-requires g c = record {
  over = taken_over c.args.file _ (g.S.Held.seen c.read_head.new.site) (g.S.Held.seen c.read_script.new.site) c.read_head.new.window c.read_script.new.window c.in_ok-catalog.ensures.taken.taken;
  distinct = subst (λ (l : List Table). AreDistinct (map table_name l)) (sym c.tables.ensures.tables) (distinct_tables c.in_ok-catalog.catalog c.is_made.ensures.made.made);
}

pub returns-in_err-rows-clause-cause : goal.returns-in_err-rows-clause-cause
returns-in_err-rows-clause-cause g c =
    let before = g.S.Held.seen c.args.site.now in
    let middle = g.S.Held.seen c.read_head.new.site in
    let later = g.S.Held.seen c.read_script.new.site in
    let now = g.S.Held.seen c.read_lists.new.site in
    let fault = c.in_err-rows.field-0.0 in
    if_fault (TakeCause c.args.file StateBreaks before now c.args.window.now) fault c.from_residual-in_err-rows.result c.from_residual-in_err-rows.ensures.1
    (lists_cause c.args.file c.in_ok-offset.offset.0 c.in_ok-offset.publisher c.in_ok-catalog.catalog c.tables.result.now c.users.result.now before middle later now c.args.window.now c.read_head.new.window c.read_script.new.window fault
    c.in_ok-offset.ensures.near c.in_ok-offset.ensures.name c.tables.ensures.tables c.users.ensures.users c.in_ok-offset.ensures.taken c.in_ok-catalog.ensures.taken c.in_err-rows.ensures.cause)

pub returns-clause-beginning : goal.returns-clause-beginning
returns-clause-beginning g c =
    is_beginning c.args.file c.in_ok-offset.offset.0 c.in_ok-offset.publisher c.in_ok-catalog.catalog c.tables.result.now c.users.result.now c.in_ok-rows.rows.rows c.in_ok-rows.books (g.S.Held.seen c.read_head.new.site)
    (g.S.Held.seen c.read_script.new.site) c.read_head.new.window c.read_script.new.window c.in_ok-offset.ensures.near c.in_ok-offset.ensures.name c.in_ok-catalog.ensures.taken c.is_made.ensures.made c.tables.ensures.tables c.users.ensures.users
    c.in_ok-rows.ensures.held c.in_ok-rows.ensures.users c.in_ok-rows.ensures.numbers

pub returns-clause-taken : goal.returns-clause-taken
returns-clause-taken g c =
    all_taken c.args.file c.in_ok-offset.offset.0 c.in_ok-offset.publisher c.in_ok-catalog.catalog c.tables.result.now c.in_ok-rows.rows.rows c.in_ok-rows.books (g.S.Held.seen c.args.site.now) (g.S.Held.seen c.read_head.new.site)
    (g.S.Held.seen c.read_script.new.site) (g.S.Held.seen c.read_lists.new.site) c.args.window.now c.read_head.new.window c.read_script.new.window c.read_lists.new.window c.tables.ensures.tables c.in_ok-offset.ensures.taken
    c.in_ok-catalog.ensures.taken c.in_ok-rows.ensures.taken

pub returns-clause-ends : goal.returns-clause-ends
returns-clause-ends g c told =
    lists_end c.args.file c.in_ok-offset.publisher c.in_ok-catalog.catalog _ (g.S.Held.seen c.args.site.now) (g.S.Held.seen c.read_head.new.site) (g.S.Held.seen c.read_script.new.site) c.args.window.now c.read_head.new.window
    c.read_script.new.window c.read_lists.new.window.place c.in_ok-offset.ensures.taken c.in_ok-catalog.ensures.taken c.in_ok-rows.ensures.ends told
