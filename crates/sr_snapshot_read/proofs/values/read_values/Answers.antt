use Rattle.std.proofs.Common.{arith}
use Rattle.std.proofs.lemmas.Result.{err_from_is_err_and}
use Rattle.sr_base.specs.Reading.{items_at}
use Rattle.sr_snapshot.proofs.Puts.{if_fault}
use Rattle.sr_snapshot_read.proofs.RowsRead.{memory_behind, values_begin, values_cause, values_end, values_more}
use Rattle.sr_snapshot_read.proofs.Windows.{taken_over}
use Rattle.sr_snapshot_read.specs.Places.{value_in}
use Rattle.sr_snapshot_read.specs.Inner.Reading.{TakeCause}
use Rattle.sr_snapshot_read.specs.Damages.{FieldBreaks}
use Rattle.sr_snapshot_read.proofs.values.read_values.Goals as goal

pub values-init : goal.values-init
values-init g c = values_begin c.args.file c.args.count c.args.width (g.S.Held.seen c.args.site.now) c.args.window.now _ c.requires.over c.new-values.ensures.items

pub read_value-requires : goal.read_value-requires
read_value-requires g c = record { over = taken_over c.args.file _ (g.S.Held.seen c.args.site.now) (g.S.Held.seen c.values.site) c.args.window.now c.values.window c.values.invariant.taken }

pub values-preserved : goal.values-preserved
values-preserved g c =
    values_more c.args.file c.args.count c.args.width c.values.left _ (g.S.Held.seen c.args.site.now) (g.S.Held.seen c.values.site) (g.S.Held.seen c.read_value.new.site) c.args.window.now c.values.window c.read_value.new.window c.values.values.items
    c.keep.new.values.items c.in_ok-value.value (omega arith) c.values.invariant c.in_ok-value.ensures.taken c.in_ok-value.ensures.value (c.in_ok-keep.ensures.kept c.values.invariant.values c.values.invariant.kept_is)

pub returns-in_err-value-clause-cause : goal.returns-in_err-value-clause-cause
returns-in_err-value-clause-cause g c =
    let first = g.S.Held.seen c.args.site.now in
    let now = g.S.Held.seen c.read_value.new.site in
    let fault = c.in_err-value.field-0.0 in
    if_fault (TakeCause c.args.file (FieldBreaks (items_at value_in c.args.count)) first now c.args.window.now) fault c.from_residual.result c.from_residual.ensures.1
    (values_cause c.args.file c.args.count c.args.width c.values.left first (g.S.Held.seen c.values.site) now c.args.window.now c.values.window c.values.values.items fault (omega arith) c.values.invariant c.in_err-value.ensures.cause)

pub returns-in_err-keep-clause-cause : goal.returns-in_err-keep-clause-cause
returns-in_err-keep-clause-cause g c =
    let p = err_from_is_err_and c.from_residual-in_err-keep.result c.from_residual-in_err-keep.ensures.1 in
    rw (p.1, p.2) (memory_behind c.args.file (FieldBreaks (items_at value_in c.args.count)) (g.S.Held.seen c.args.site.now) (g.S.Held.seen c.values.site) (g.S.Held.seen c.read_value.new.site) _ _ _ c.values.invariant.taken c.in_ok-value.ensures.taken)

pub returns-clause-taken : goal.returns-clause-taken
returns-clause-taken g c = values_end c.args.file c.args.count c.args.width c.values.left (g.S.Held.seen c.args.site.now) (g.S.Held.seen c.values.site) c.args.window.now c.values.window c.values.values.items (omega arith) c.values.invariant
