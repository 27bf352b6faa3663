use Rattle.std.proofs.Common.{ℕ, inl, subst}
use Rattle.std.specs.Int.{w32, to_be_bytes}
use Rattle.sr_base.specs.Reading.{number_at}
use Rattle.sr_snapshot.proofs.Puts.{if_fault}
use Rattle.sr_snapshot_read.specs.Damages.{CountBreaks, FieldBreaks}
use Rattle.sr_snapshot_read.proofs.Heres.{here_cause, other_count}
use Rattle.sr_snapshot_read.proofs.Windows.{cause_as}
use Rattle.sr_snapshot_read.specs.Inner.Reading.{HasTaken, TakeCause}
use Rattle.sr_snapshot_read.proofs.heads.read_this_count.Goals as goal

pub returns-in_err-count-clause-cause : goal.returns-in_err-count-clause-cause
returns-in_err-count-clause-cause g c =
    let before = g.S.Held.seen c.args.site.now in
    let now = g.S.Held.seen c.read_count.new.site in
    let fault = c.in_err-count.field-0.0 in
    if_fault (TakeCause c.args.file (CountBreaks c.args.items) before now c.args.window.now) fault c.from_residual.result c.from_residual.ensures.1
    (cause_as c.args.file (FieldBreaks (number_at w32)) (CountBreaks c.args.items) before now c.args.window.now fault (λ bytes left broken. inl broken) c.in_err-count.ensures.cause)

pub returns-in_err-as_many-clause-cause : goal.returns-in_err-as_many-clause-cause
returns-in_err-as_many-clause-cause g c =
    let before = g.S.Held.seen c.args.site.now in
    let now = g.S.Held.seen c.read_count.new.site in
    let fault = c.in_err-as_many.field-0.0 in
    if_fault (TakeCause c.args.file (CountBreaks c.args.items) before now c.args.window.now) fault c.from_residual-in_err-as_many.result c.from_residual-in_err-as_many.ensures.1
    (here_cause c.args.file (CountBreaks c.args.items) (to_be_bytes w32 c.in_ok-count.count) before now c.args.window.now c.read_count.new.window c.place-place.result fault c.in_err-as_many.ensures.place c.place-place.ensures.place c.place-place.ensures.within c.requires.over
    c.in_ok-count.ensures.taken (other_count c.args.items c.in_ok-count.count c.in_ok-count.ensures.short c.in_err-as_many.ensures.other))

pub returns-clause-taken : goal.returns-clause-taken
returns-clause-taken g c =
    subst (λ (x : ℕ). HasTaken c.args.file (to_be_bytes w32 x) (g.S.Held.seen c.args.site.now) (g.S.Held.seen c.read_count.new.site) c.args.window.now c.read_count.new.window) c.in_ok-as_many.ensures.same c.in_ok-count.ensures.taken
