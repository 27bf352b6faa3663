use Rattle.std.proofs.Common.{◌≤◌, ◌+◌, ℕ, List, length, drop, sym, subst, ◌∙◌}
use Rattle.sr_base.specs.Reading.{text_at}
use Rattle.sr_site.specs.Files.{bytes_of}
use Rattle.sr_snapshot.proofs.Puts.{if_fault}
use Rattle.sr_snapshot.specs.declared.fault.SnapFault.{SnapFault}
use Rattle.sr_snapshot_read.proofs.FieldReads.{ready_cause}
use Rattle.sr_snapshot_read.proofs.Places.{cause_by}
use Rattle.sr_snapshot_read.proofs.Readied.{cause_readied, spelled_length, taken_readied, text_told}
use Rattle.sr_snapshot_read.proofs.Windows.{over_then, text_breaks}
use Rattle.sr_snapshot_read.specs.Places.{text_in}
use Rattle.sr_snapshot_read.specs.Inner.Reading.{BreaksWithin, TakeCause}
use Rattle.sr_snapshot_read.specs.Damages.{FieldBreaks}
use Rattle.sr_snapshot_read.proofs.values.read_text.Goals as goal

pub returns-in_err-ready-clause-cause : goal.returns-in_err-ready-clause-cause
returns-in_err-ready-clause-cause g c =
    let before = g.S.Held.seen c.args.site.now in
    let now = g.S.Held.seen c.ready.new.site in
    if_fault (TakeCause c.args.file (FieldBreaks text_in) before now c.args.window.now) c.in_err-ready.field-0.0 c.from_residual.result c.from_residual.ensures.1
    (ready_cause c.args.file _ before now c.args.window.now c.in_err-ready.field-0.0 c.in_err-ready.ensures.read c.in_err-ready.ensures.cause)

pub read_field-requires : goal.read_field-requires
read_field-requires g c = record {
  over = over_then c.args.file (g.S.Held.seen c.args.site.now) (g.S.Held.seen c.ready.new.site) c.ready.new.self c.in_ok-ready.ensures.read c.in_ok-ready.ensures.over;
}

pub returns-in-Err-clause-cause : goal.returns-in-Err-clause-cause
returns-in-Err-clause-cause g c =
    let before = g.S.Held.seen c.args.site.now in
    let middle = g.S.Held.seen c.ready.new.site in
    let now = g.S.Held.seen c.read_field.new.site in
    let view = c.ready.new.self in
    let need = c.text_need-need.result in
    let fault = c.in-Err.fault in
    subst (λ (e : SnapFault). TakeCause c.args.file (FieldBreaks text_in) before now c.args.window.now e) (sym c.within.ensures)
    (cause_by c.args.file 0 text_at before now c.args.window.now c.place-place.result fault (c.place-place.ensures.place ∙ c.in_ok-ready.ensures.place)
    (cause_readied c.args.file (BreaksWithin text_at need) (FieldBreaks text_at) before middle now c.args.window.now view fault c.in_ok-ready.ensures.read c.in_ok-ready.ensures.steady c.in_ok-ready.ensures.place
    (λ told left broken.
    let bytes = bytes_of before.files c.args.file in
    let over = c.in_ok-ready.ensures.over told in
    text_breaks need (drop view.place bytes) left c.text_need-need.ensures.least
    (text_told view bytes over c.left.result c.left.ensures.left need (c.in_ok-ready.ensures.enough told) (λ four room. subst (λ (l : List ℕ). 4 + spelled_length l ≤ need) c.held.ensures.held (c.text_need-need.ensures.all (subst (λ (l : List ℕ). 4 ≤ length l) (sym c.held.ensures.held) four) (subst (λ (l : List ℕ). 4 + spelled_length l ≤ c.left.result) (sym c.held.ensures.held) room)))) broken)
    c.in-Err.ensures.cause))

pub returns-in-Ok-clause-taken : goal.returns-in-Ok-clause-taken
returns-in-Ok-clause-taken g c =
    taken_readied c.args.file _ (g.S.Held.seen c.args.site.now) (g.S.Held.seen c.ready.new.site) (g.S.Held.seen c.read_field.new.site) c.args.window.now c.ready.new.self c.read_field.new.window c.in_ok-ready.ensures.read c.in_ok-ready.ensures.steady
    c.in_ok-ready.ensures.place c.in-Ok.ensures.taken
