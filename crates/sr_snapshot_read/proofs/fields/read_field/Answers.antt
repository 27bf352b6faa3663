use Rattle.std.proofs.Common.{◌+◌, ℕ, List, length, ap, sym, subst, arith}
use Rattle.sr_base.specs.Inner.Reading.{IsBad}
use Rattle.sr_base.specs.declared.broken.Bad.{Bad}
use Rattle.sr_snapshot.proofs.Puts.{if_fault}
use Rattle.sr_snapshot.specs.declared.fault.SnapFault.TheVariants.{Damaged}
use Rattle.sr_snapshot_read.proofs.FieldReads.{broke, ready_cause, taken_within, took}
use Rattle.sr_snapshot_read.specs.Inner.Reading.{BreaksWithin, TakeCause}
use Rattle.sr_snapshot_read.proofs.fields.read_field.Goals as goal

pub returns-in_err-ready-clause-cause : goal.returns-in_err-ready-clause-cause
returns-in_err-ready-clause-cause g c =
    let before = g.S.Held.seen c.args.site.now in
    let now = g.S.Held.seen c.ready.new.site in
    if_fault (TakeCause c.args.file (BreaksWithin g.T.Field.reading c.args.need) before now c.args.window.now) c.in_err-ready.field-0.0 c.from_residual.result c.from_residual.ensures.1
    (ready_cause c.args.file _ before now c.args.window.now c.in_err-ready.field-0.0 c.in_err-ready.ensures.read c.in_err-ready.ensures.cause)

pub skip-requires : goal.skip-requires
skip-requires g c = record {
  there = omega (arith, taken_within c.held.result.now (g.T.Field.spelling c.in-Ok.value) c.in-Ok.taken c.in-Ok.ensures.found.1, ap (λ (l : List ℕ). length l) c.held.ensures.held);
}

pub returns-in-Ok-clause-taken : goal.returns-in-Ok-clause-taken
returns-in-Ok-clause-taken g c =
    took c.args.file (g.S.Held.seen c.args.site.now) (g.S.Held.seen c.ready.new.site) c.args.window.now c.ready.new.self c.skip.new.self c.held.result.now (g.T.Field.spelling c.in-Ok.value) c.in-Ok.taken c.in_ok-ready.ensures.read
    c.in_ok-ready.ensures.steady c.in_ok-ready.ensures.over c.in_ok-ready.ensures.place c.held.ensures.held c.in-Ok.ensures.found.1 c.skip.ensures.held c.skip.ensures.place c.skip.ensures.size

pub returns-in-Err-Field-clause-cause : goal.returns-in-Err-Field-clause-cause
returns-in-Err-Field-clause-cause g c =
    let before = g.S.Held.seen c.args.site.now in
    let now = g.S.Held.seen c.ready.new.site in
    let at : ℕ = c.in-Err-Field.at in
    let bad = subst (λ (b : Bad). IsBad (g.T.Field.reading c.held.result.now) (length c.held.result.now) b) c.in-Err-Field.field-0-is c.in-Err-Field.ensures.place in
    subst (λ (n : ℕ). TakeCause c.args.file (BreaksWithin g.T.Field.reading c.args.need) before now c.args.window.now (Damaged (n + at))) (sym c.place.ensures.place)
    (broke c.args.file g.T.Field.reading c.args.need before now c.args.window.now c.ready.new.self c.held.result.now at bad.0 c.in_ok-ready.ensures.read c.in_ok-ready.ensures.steady c.in_ok-ready.ensures.over c.in_ok-ready.ensures.enough
    c.in_ok-ready.ensures.place c.held.ensures.within c.held.ensures.held bad.1 bad.2)
