use Rattle.std.proofs.Common.{[], ◌∷◌, arith}
use Rattle.sr_snapshot.proofs.Puts.{if_fault}
use Rattle.sr_snapshot_read.proofs.BooksRead.{four_taken, number_cause, number_on}
use Rattle.sr_snapshot_read.proofs.RowsRead.{taken_nothing}
use Rattle.sr_snapshot_read.proofs.Windows.{taken_over}
use Rattle.sr_snapshot_read.specs.Inner.Damages.{NeverBreaks}
use Rattle.sr_snapshot_read.specs.Damages.{NumbersBreak}
use Rattle.sr_snapshot_read.specs.Inner.Reading.{TakeCause}
use Rattle.sr_snapshot_read.proofs.books.read_four.Goals as goal

pub read_number-requires-2 : goal.read_number-requires-2
read_number-requires-2 g c = record { over = taken_over c.args.file _ (g.S.Held.seen c.args.site.now) (g.S.Held.seen c.read_number.new.site) c.args.window.now c.read_number.new.window c.in_ok-one.ensures.taken }

pub read_number-requires-3 : goal.read_number-requires-3
read_number-requires-3 g c = record { over = taken_over c.args.file _ (g.S.Held.seen c.read_number.new.site) (g.S.Held.seen c.read_number-2.new.site) c.read_number.new.window c.read_number-2.new.window c.in_ok-two.ensures.taken }

pub read_number-requires-4 : goal.read_number-requires-4
read_number-requires-4 g c = record { over = taken_over c.args.file _ (g.S.Held.seen c.read_number-2.new.site) (g.S.Held.seen c.read_number-3.new.site) c.read_number-2.new.window c.read_number-3.new.window c.in_ok-three.ensures.taken }

pub returns-in_err-one-clause-cause : goal.returns-in_err-one-clause-cause
returns-in_err-one-clause-cause g c =
    let t0 = taken_nothing c.args.file (g.S.Held.seen c.args.site.now) c.args.window.now c.requires.over in
    if_fault (TakeCause c.args.file (NumbersBreak 4 NeverBreaks) (g.S.Held.seen c.args.site.now) (g.S.Held.seen c.read_number.new.site) c.args.window.now) c.in_err-one.field-0.0 c.from_residual.result c.from_residual.ensures.1
    (number_cause c.args.file [] (g.S.Held.seen c.args.site.now) (g.S.Held.seen c.args.site.now) (g.S.Held.seen c.read_number.new.site) c.args.window.now c.args.window.now c.in_err-one.field-0.0 tt (omega arith) t0 c.in_err-one.ensures.cause)

pub returns-in_err-two-clause-cause : goal.returns-in_err-two-clause-cause
returns-in_err-two-clause-cause g c =
    let t0 = taken_nothing c.args.file (g.S.Held.seen c.args.site.now) c.args.window.now c.requires.over in
    let t1 = number_on c.args.file [] c.in_ok-one.one (g.S.Held.seen c.args.site.now) (g.S.Held.seen c.args.site.now) (g.S.Held.seen c.read_number.new.site) c.args.window.now c.args.window.now c.read_number.new.window t0 c.in_ok-one.ensures.taken in
    if_fault (TakeCause c.args.file (NumbersBreak 4 NeverBreaks) (g.S.Held.seen c.args.site.now) (g.S.Held.seen c.read_number-2.new.site) c.args.window.now) c.in_err-two.field-0.0 c.from_residual-in_err-two.result c.from_residual-in_err-two.ensures.1
    (number_cause c.args.file (c.in_ok-one.one ∷ []) (g.S.Held.seen c.args.site.now) (g.S.Held.seen c.read_number.new.site) (g.S.Held.seen c.read_number-2.new.site) c.args.window.now c.read_number.new.window c.in_err-two.field-0.0 (c.in_ok-one.ensures.short, tt) (omega arith) t1 c.in_err-two.ensures.cause)

pub returns-in_err-three-clause-cause : goal.returns-in_err-three-clause-cause
returns-in_err-three-clause-cause g c =
    let t0 = taken_nothing c.args.file (g.S.Held.seen c.args.site.now) c.args.window.now c.requires.over in
    let t1 = number_on c.args.file [] c.in_ok-one.one (g.S.Held.seen c.args.site.now) (g.S.Held.seen c.args.site.now) (g.S.Held.seen c.read_number.new.site) c.args.window.now c.args.window.now c.read_number.new.window t0 c.in_ok-one.ensures.taken in
    let t2 = number_on c.args.file (c.in_ok-one.one ∷ []) c.in_ok-two.two (g.S.Held.seen c.args.site.now) (g.S.Held.seen c.read_number.new.site) (g.S.Held.seen c.read_number-2.new.site) c.args.window.now c.read_number.new.window c.read_number-2.new.window t1 c.in_ok-two.ensures.taken in
    if_fault (TakeCause c.args.file (NumbersBreak 4 NeverBreaks) (g.S.Held.seen c.args.site.now) (g.S.Held.seen c.read_number-3.new.site) c.args.window.now) c.in_err-three.field-0.0 c.from_residual-in_err-three.result c.from_residual-in_err-three.ensures.1
    (number_cause c.args.file (c.in_ok-one.one ∷ c.in_ok-two.two ∷ []) (g.S.Held.seen c.args.site.now) (g.S.Held.seen c.read_number-2.new.site) (g.S.Held.seen c.read_number-3.new.site) c.args.window.now c.read_number-2.new.window c.in_err-three.field-0.0 (c.in_ok-one.ensures.short, (c.in_ok-two.ensures.short, tt)) (omega arith) t2 c.in_err-three.ensures.cause)

pub returns-in_err-four-clause-cause : goal.returns-in_err-four-clause-cause
returns-in_err-four-clause-cause g c =
    let t0 = taken_nothing c.args.file (g.S.Held.seen c.args.site.now) c.args.window.now c.requires.over in
    let t1 = number_on c.args.file [] c.in_ok-one.one (g.S.Held.seen c.args.site.now) (g.S.Held.seen c.args.site.now) (g.S.Held.seen c.read_number.new.site) c.args.window.now c.args.window.now c.read_number.new.window t0 c.in_ok-one.ensures.taken in
    let t2 = number_on c.args.file (c.in_ok-one.one ∷ []) c.in_ok-two.two (g.S.Held.seen c.args.site.now) (g.S.Held.seen c.read_number.new.site) (g.S.Held.seen c.read_number-2.new.site) c.args.window.now c.read_number.new.window c.read_number-2.new.window t1 c.in_ok-two.ensures.taken in
    let t3 = number_on c.args.file (c.in_ok-one.one ∷ c.in_ok-two.two ∷ []) c.in_ok-three.three (g.S.Held.seen c.args.site.now) (g.S.Held.seen c.read_number-2.new.site) (g.S.Held.seen c.read_number-3.new.site) c.args.window.now c.read_number-2.new.window c.read_number-3.new.window t2 c.in_ok-three.ensures.taken in
    if_fault (TakeCause c.args.file (NumbersBreak 4 NeverBreaks) (g.S.Held.seen c.args.site.now) (g.S.Held.seen c.read_number-4.new.site) c.args.window.now) c.in_err-four.field-0.0 c.from_residual-in_err-four.result c.from_residual-in_err-four.ensures.1
    (number_cause c.args.file (c.in_ok-one.one ∷ c.in_ok-two.two ∷ c.in_ok-three.three ∷ []) (g.S.Held.seen c.args.site.now) (g.S.Held.seen c.read_number-3.new.site) (g.S.Held.seen c.read_number-4.new.site) c.args.window.now c.read_number-3.new.window c.in_err-four.field-0.0 (c.in_ok-one.ensures.short, (c.in_ok-two.ensures.short, (c.in_ok-three.ensures.short, tt))) (omega arith) t3 c.in_err-four.ensures.cause)

pub returns-clause-taken : goal.returns-clause-taken
returns-clause-taken g c =
    let t0 = taken_nothing c.args.file (g.S.Held.seen c.args.site.now) c.args.window.now c.requires.over in
    let t1 = number_on c.args.file [] c.in_ok-one.one (g.S.Held.seen c.args.site.now) (g.S.Held.seen c.args.site.now) (g.S.Held.seen c.read_number.new.site) c.args.window.now c.args.window.now c.read_number.new.window t0 c.in_ok-one.ensures.taken in
    let t2 = number_on c.args.file (c.in_ok-one.one ∷ []) c.in_ok-two.two (g.S.Held.seen c.args.site.now) (g.S.Held.seen c.read_number.new.site) (g.S.Held.seen c.read_number-2.new.site) c.args.window.now c.read_number.new.window c.read_number-2.new.window t1 c.in_ok-two.ensures.taken in
    let t3 = number_on c.args.file (c.in_ok-one.one ∷ c.in_ok-two.two ∷ []) c.in_ok-three.three (g.S.Held.seen c.args.site.now) (g.S.Held.seen c.read_number-2.new.site) (g.S.Held.seen c.read_number-3.new.site) c.args.window.now c.read_number-2.new.window c.read_number-3.new.window t2 c.in_ok-three.ensures.taken in
    let t4 = number_on c.args.file (c.in_ok-one.one ∷ c.in_ok-two.two ∷ c.in_ok-three.three ∷ []) c.in_ok-four.four (g.S.Held.seen c.args.site.now) (g.S.Held.seen c.read_number-3.new.site) (g.S.Held.seen c.read_number-4.new.site) c.args.window.now c.read_number-3.new.window c.read_number-4.new.window t3 c.in_ok-four.ensures.taken in
    four_taken c.args.file c.in_ok-one.one c.in_ok-two.two c.in_ok-three.three c.in_ok-four.four (g.S.Held.seen c.args.site.now) (g.S.Held.seen c.read_number-4.new.site) c.args.window.now c.read_number-4.new.window t4

pub returns-clause-short : goal.returns-clause-short
returns-clause-short g c = (c.in_ok-one.ensures.short, (c.in_ok-two.ensures.short, (c.in_ok-three.ensures.short, (c.in_ok-four.ensures.short, tt))))
