use Rattle.sr_snapshot.proofs.Puts.{if_fault}
use Rattle.sr_snapshot_read.proofs.ScriptRead.{field_cause, refused_cause}
use Rattle.sr_snapshot_read.specs.Inner.Reading.{TakeCause}
use Rattle.sr_snapshot_read.specs.Inner.ScriptRead.{TextBreaks}
use Rattle.sr_snapshot_read.proofs.script.read_next.Goals as goal

pub returns-in_err-text-clause-cause : goal.returns-in_err-text-clause-cause
returns-in_err-text-clause-cause g c =
    let before = g.S.Held.seen c.args.site.now in
    let now = g.S.Held.seen c.read_text.new.site in
    let fault = c.in_err-text.field-0.0 in
    if_fault (TakeCause c.args.file (TextBreaks c.args.catalog.now) before now c.args.window.now) fault c.from_residual.result c.from_residual.ensures.1
    (field_cause c.args.file c.args.catalog.now before now c.args.window.now fault c.in_err-text.ensures.cause)

pub returns-in_err-change_by-clause-cause : goal.returns-in_err-change_by-clause-cause
returns-in_err-change_by-clause-cause g c =
    let before = g.S.Held.seen c.args.site.now in
    let now = g.S.Held.seen c.read_text.new.site in
    let fault = c.in_err-change_by.field-0.0 in
    if_fault (TakeCause c.args.file (TextBreaks c.args.catalog.now) before now c.args.window.now) fault c.from_residual-in_err-change_by.result c.from_residual-in_err-change_by.ensures.1
    (refused_cause c.args.file c.args.catalog.now c.in_ok-text.text before now c.args.window.now c.read_text.new.window c.place-place.result fault c.in_ok-text.ensures.text c.place-place.ensures.place c.place-place.ensures.within c.requires.over
    c.in_ok-text.ensures.taken c.in_err-change_by.ensures.cause)

pub returns-clause-taken : goal.returns-clause-taken
returns-clause-taken g c = record { text = c.in_ok-text.text; taken = c.in_ok-text.ensures.taken; is = c.in_ok-text.ensures.text; makes = c.in_ok-change_by.ensures.makes }
