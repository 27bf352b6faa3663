use Rattle.std.proofs.Common.{ℕ, List, length, refl, ap, ◌∙◌, arith}
use Rattle.sr_snapshot.proofs.Puts.{if_fault}
use Rattle.sr_snapshot.specs.Parts.{magic}
use Rattle.sr_snapshot_read.proofs.FieldReads.{ready_cause, took}
use Rattle.sr_snapshot_read.proofs.Heres.{magic_cause, magic_first, magic_front}
use Rattle.sr_snapshot_read.specs.Damages.{LacksMagic}
use Rattle.sr_snapshot_read.specs.Inner.Reading.{TakeCause}
use Rattle.sr_snapshot_read.proofs.heads.read_magic.Goals as goal

pub returns-in_err-ready-clause-cause : goal.returns-in_err-ready-clause-cause
returns-in_err-ready-clause-cause g c =
    let before = g.S.Held.seen c.args.site.now in
    let now = g.S.Held.seen c.ready.new.site in
    if_fault (TakeCause c.args.file LacksMagic before now c.args.window.now) c.in_err-ready.field-0.0 c.from_residual.result c.from_residual.ensures.1
    (ready_cause c.args.file LacksMagic before now c.args.window.now c.in_err-ready.field-0.0 c.in_err-ready.ensures.read c.in_err-ready.ensures.cause)

pub returns-in_err-magic_in-clause-cause : goal.returns-in_err-magic_in-clause-cause
returns-in_err-magic_in-clause-cause g c =
    let before = g.S.Held.seen c.args.site.now in
    let now = g.S.Held.seen c.ready.new.site in
    let fault = c.in_err-magic_in.field-0.0 in
    if_fault (TakeCause c.args.file LacksMagic before now c.args.window.now) fault c.from_residual-in_err-magic_in.result c.from_residual-in_err-magic_in.ensures.1
    (magic_cause c.args.file before now c.args.window.now c.ready.new.self c.place.result fault c.in_err-magic_in.ensures.place c.place.ensures.place c.in_ok-ready.ensures.place c.held.ensures.within c.in_ok-ready.ensures.read
    c.in_ok-ready.ensures.steady c.in_ok-ready.ensures.over c.in_ok-ready.ensures.enough (λ rest is. c.in_err-magic_in.ensures.none (magic_first c.held.result.now rest (c.held.ensures.held ∙ is))))

pub skip-requires : goal.skip-requires
skip-requires g c = record { there = omega (arith, c.in_ok-magic_in.ensures.long, ap (λ (l : List ℕ). length l) c.held.ensures.held) }

pub returns-clause-taken : goal.returns-clause-taken
returns-clause-taken g c =
    took c.args.file (g.S.Held.seen c.args.site.now) (g.S.Held.seen c.ready.new.site) c.args.window.now c.ready.new.self c.skip.new.self c.held.result.now magic 8 c.in_ok-ready.ensures.read c.in_ok-ready.ensures.steady c.in_ok-ready.ensures.over
    c.in_ok-ready.ensures.place c.held.ensures.held (record { taken_all = refl; prefix = magic_front c.held.result.now c.in_ok-magic_in.ensures.there }) c.skip.ensures.held c.skip.ensures.place c.skip.ensures.size
