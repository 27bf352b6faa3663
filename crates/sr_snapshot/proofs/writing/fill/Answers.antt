use Rattle.std.proofs.Common.{ℕ, List, length, sym, ap, subst}
use Rattle.sr_snapshot.proofs.Puts.{at_then, if_fault}
use Rattle.sr_snapshot.proofs.Written.{cause_then, filled}
use Rattle.sr_snapshot.specs.Inner.Beginnings.{beginning_in}
use Rattle.sr_snapshot.specs.Snapshots.{snapshot_spelling}
use Rattle.sr_snapshot.specs.Inner.Writing.{HasPut, PutCause}
use Rattle.sr_snapshot.proofs.writing.fill.Goals as goal

pub put_state-requires : goal.put_state-requires
put_state-requires g c = record {
  texts = c.requires.texts;
  short = c.requires.short;
  at = λ told. sym (ap length (c.requires.empty told));
}

pub flush-requires : goal.flush-requires
flush-requires g c = record { at = at_then c.args.file _ (g.S.Held.seen c.args.site.now) (g.S.Held.seen c.put_state.new.site) _ _ _ c.in_ok-put_state.ensures.put }

pub returns-in_err-flush-clause-cause : goal.returns-in_err-flush-clause-cause
returns-in_err-flush-clause-cause g c =
    let first = g.S.Held.seen c.args.site.now in
    let middle = g.S.Held.seen c.put_state.new.site in
    let now = g.S.Held.seen c.flush.new.site in
    if_fault (PutCause c.args.file first now) c.in_err-flush.field-0.0 c.from_residual-in_err-flush.result c.from_residual-in_err-flush.ensures.1
    (cause_then c.args.file first middle now c.in_err-flush.field-0.0 c.in_ok-put_state.ensures.put.only c.in_ok-put_state.ensures.put.steady c.in_err-flush.ensures.cause)

pub returns-clause-filled : goal.returns-clause-filled
returns-clause-filled g c =
    let first = g.S.Held.seen c.args.site.now in
    let middle = g.S.Held.seen c.put_state.new.site in
    let bytes = snapshot_spelling (beginning_in c.args.state.now) in
    filled c.args.file bytes first middle (g.S.Held.seen c.flush.new.site) _ _ _ _ c.requires.empty
    (subst (λ (l : List ℕ). HasPut c.args.file bytes first middle l c.put_state.new.out.buffer.items c.put_state.new.out.place) c.new.ensures.items c.in_ok-put_state.ensures.put) c.in_ok-flush.ensures.put c.in_ok-flush.ensures.empty
