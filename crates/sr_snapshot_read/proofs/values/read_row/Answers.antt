use Rattle.std.proofs.Common.{ℕ, Some, None, ◌∙◌, arith}
use Rattle.std.proofs.lemmas.Result.{err_from_is_err_and}
use Rattle.std.specs.Int.{w32, to_be_bytes}
use Rattle.sr_base.specs.Reading.{items_at, list_at, number_at}
use Rattle.sr_snapshot.proofs.Puts.{if_fault}
use Rattle.sr_snapshot_read.proofs.RowsRead.{count_in_row, memory_behind, row_taken, values_in_row}
use Rattle.sr_snapshot_read.proofs.Windows.{cause_as, cause_behind, taken_over}
use Rattle.sr_snapshot_read.specs.Places.{value_in}
use Rattle.sr_snapshot_read.specs.Inner.Reading.{TakeCause}
use Rattle.sr_snapshot_read.specs.Damages.{FieldBreaks}
use Rattle.sr_snapshot_read.proofs.values.read_row.Goals as goal

pub returns-in_err-count-clause-cause : goal.returns-in_err-count-clause-cause
returns-in_err-count-clause-cause g c =
    let before = g.S.Held.seen c.args.site.now in
    let now = g.S.Held.seen c.read_count.new.site in
    let fault = c.in_err-count.field-0.0 in
    if_fault (TakeCause c.args.file (FieldBreaks (list_at value_in)) before now c.args.window.now) fault c.from_residual.result c.from_residual.ensures.1
    (cause_as c.args.file (FieldBreaks (number_at w32)) (FieldBreaks (list_at value_in)) before now c.args.window.now fault count_in_row c.in_err-count.ensures.cause)

pub read_values-requires : goal.read_values-requires
read_values-requires g c = record { over = taken_over c.args.file _ (g.S.Held.seen c.args.site.now) (g.S.Held.seen c.read_count.new.site) c.args.window.now c.read_count.new.window c.in_ok-count.ensures.taken }

pub returns-in_err-values-clause-cause : goal.returns-in_err-values-clause-cause
returns-in_err-values-clause-cause g c =
    let before = g.S.Held.seen c.args.site.now in
    let middle = g.S.Held.seen c.read_count.new.site in
    let now = g.S.Held.seen c.read_values.new.site in
    let fault = c.in_err-values.field-0.0 in
    let count : ℕ = c.in_ok-count.count in
    if_fault (TakeCause c.args.file (FieldBreaks (list_at value_in)) before now c.args.window.now) fault c.from_residual-in_err-values.result c.from_residual-in_err-values.ensures.1
    (cause_behind c.args.file (FieldBreaks (items_at value_in count)) (FieldBreaks (list_at value_in)) (to_be_bytes w32 count) before middle now c.args.window.now c.read_count.new.window fault c.in_ok-count.ensures.taken
    (λ bytes rest left is broken. values_in_row count bytes rest left c.in_ok-count.ensures.short is broken) c.in_err-values.ensures.cause)

pub returns-in_err-row-clause-cause : goal.returns-in_err-row-clause-cause
returns-in_err-row-clause-cause g c =
    let p = err_from_is_err_and c.from_residual-in_err-row.result c.from_residual-in_err-row.ensures.1 in
    rw (p.1, p.2) (memory_behind c.args.file (FieldBreaks (list_at value_in)) (g.S.Held.seen c.args.site.now) (g.S.Held.seen c.read_count.new.site) (g.S.Held.seen c.read_values.new.site) _ _ _ c.in_ok-count.ensures.taken
    c.in_ok-values.ensures.taken.taken)

pub returns-then-count-width-clause-taken : goal.returns-then-count-width-clause-taken
returns-then-count-width-clause-taken g c =
    row_taken c.args.file c.in_ok-count.count c.args.width (g.S.Held.seen c.args.site.now) (g.S.Held.seen c.read_count.new.site) (g.S.Held.seen c.read_values.new.site) c.args.window.now c.read_count.new.window c.read_values.new.window _
    c.in_ok-count.ensures.short c.in_ok-count.ensures.taken c.in_ok-values.ensures.taken None (λ same. absurd (omega (arith, same)))

pub returns-clause-taken : goal.returns-clause-taken
returns-clause-taken g c =
    row_taken c.args.file c.in_ok-count.count c.args.width (g.S.Held.seen c.args.site.now) (g.S.Held.seen c.read_count.new.site) (g.S.Held.seen c.read_values.new.site) c.args.window.now c.read_count.new.window c.read_values.new.window _
    c.in_ok-count.ensures.short c.in_ok-count.ensures.taken c.in_ok-values.ensures.taken (Some c.in_ok-row.row) (omega arith, c.in_ok-row.ensures.values ∙ c.from_vec.ensures.items)
