use Rattle.sr_snapshot.proofs.Puts.{if_fault}
use Rattle.sr_snapshot_read.proofs.StateRead.{ends_then, lists_count, lists_last, lists_tables, lists_taken}
use Rattle.sr_snapshot_read.proofs.Windows.{taken_on, taken_over}
use Rattle.sr_snapshot_read.specs.Damages.{ListsBreak}
use Rattle.sr_snapshot_read.specs.Inner.Reading.{TakeCause}
use Rattle.sr_snapshot_read.proofs.loading.read_lists.Goals as goal

pub returns-in_err-read_this_count-clause-cause : goal.returns-in_err-read_this_count-clause-cause
returns-in_err-read_this_count-clause-cause g c =
    let before = g.S.Held.seen c.args.site.now in
    let now = g.S.Held.seen c.read_this_count.new.site in
    let fault = c.in_err-read_this_count.field-0.0 in
    if_fault (TakeCause c.args.file (ListsBreak c.args.tables.now c.args.users.now) before now c.args.window.now) fault c.from_residual.result c.from_residual.ensures.1
    (lists_count c.args.file c.args.tables.now c.args.users.now before now c.args.window.now fault c.in_err-read_this_count.ensures.cause)

pub read_tables-requires : goal.read_tables-requires
read_tables-requires g c = record {
  over = taken_over c.args.file _ (g.S.Held.seen c.args.site.now) (g.S.Held.seen c.read_this_count.new.site) c.args.window.now c.read_this_count.new.window c.in_ok-read_this_count.ensures.taken;
  distinct = c.requires.distinct;
}

pub returns-in_err-rows-clause-cause : goal.returns-in_err-rows-clause-cause
returns-in_err-rows-clause-cause g c =
    let before = g.S.Held.seen c.args.site.now in
    let middle = g.S.Held.seen c.read_this_count.new.site in
    let now = g.S.Held.seen c.read_tables.new.site in
    let fault = c.in_err-rows.field-0.0 in
    if_fault (TakeCause c.args.file (ListsBreak c.args.tables.now c.args.users.now) before now c.args.window.now) fault c.from_residual-in_err-rows.result c.from_residual-in_err-rows.ensures.1
    (lists_tables c.args.file c.args.tables.now c.args.users.now before middle now c.args.window.now c.read_this_count.new.window fault c.in_ok-read_this_count.ensures.taken c.in_err-rows.ensures.cause)

pub read_last-requires : goal.read_last-requires
read_last-requires g c = record {
  over = taken_over c.args.file _ (g.S.Held.seen c.read_this_count.new.site) (g.S.Held.seen c.read_tables.new.site) c.read_this_count.new.window c.read_tables.new.window c.in_ok-rows.ensures.taken;
}

pub returns-in_err-books-clause-cause : goal.returns-in_err-books-clause-cause
returns-in_err-books-clause-cause g c =
    let before = g.S.Held.seen c.args.site.now in
    let middle = g.S.Held.seen c.read_this_count.new.site in
    let later = g.S.Held.seen c.read_tables.new.site in
    let now = g.S.Held.seen c.read_last.new.site in
    let fault = c.in_err-books.field-0.0 in
    if_fault (TakeCause c.args.file (ListsBreak c.args.tables.now c.args.users.now) before now c.args.window.now) fault c.from_residual-in_err-books.result c.from_residual-in_err-books.ensures.1
    (lists_last c.args.file c.args.tables.now c.args.users.now c.in_ok-rows.rows.rows before middle later now c.args.window.now c.read_this_count.new.window c.read_tables.new.window fault c.in_ok-rows.ensures.each
    c.in_ok-read_this_count.ensures.taken c.in_ok-rows.ensures.taken c.in_err-books.ensures.cause)

pub returns-clause-taken : goal.returns-clause-taken
returns-clause-taken g c =
    lists_taken c.args.file c.args.tables.now c.in_ok-rows.rows.rows c.in_ok-books.books (g.S.Held.seen c.args.site.now) (g.S.Held.seen c.read_this_count.new.site) (g.S.Held.seen c.read_tables.new.site) (g.S.Held.seen c.read_last.new.site)
    c.args.window.now c.read_this_count.new.window c.read_tables.new.window c.read_last.new.window c.in_ok-read_this_count.ensures.taken c.in_ok-rows.ensures.taken c.in_ok-books.ensures.taken

pub returns-clause-ends : goal.returns-clause-ends
returns-clause-ends g c told =
    ends_then c.args.file _ (g.S.Held.seen c.args.site.now) (g.S.Held.seen c.read_tables.new.site) c.args.window.now c.read_tables.new.window c.read_last.new.window.place
    (taken_on c.args.file _ _ (g.S.Held.seen c.args.site.now) (g.S.Held.seen c.read_this_count.new.site) (g.S.Held.seen c.read_tables.new.site) c.args.window.now c.read_this_count.new.window c.read_tables.new.window
    c.in_ok-read_this_count.ensures.taken c.in_ok-rows.ensures.taken) c.in_ok-books.ensures.ends told
