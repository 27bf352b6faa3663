use Rattle.std.proofs.Common.{refl, arith}
use Rattle.sr_snapshot.proofs.Puts.{if_fault}
use Rattle.sr_snapshot_read.proofs.ScriptRead.{repeat_begin, repeat_end, repeat_field, repeat_more, repeat_other}
use Rattle.sr_snapshot_read.proofs.Windows.{taken_over}
use Rattle.sr_snapshot_read.specs.Inner.Reading.{TakeCause}
use Rattle.sr_snapshot_read.specs.Inner.ScriptRead.{RepeatBreaks}
use Rattle.sr_snapshot_read.proofs.script.read_again.Goals as goal

pub texts-init : goal.texts-init
texts-init g c = repeat_begin c.args.file c.args.script.now c.args.script.now c.args.count (g.S.Held.seen c.args.site.now) c.args.window.now c.requires.over refl

pub read_text-requires : goal.read_text-requires
read_text-requires g c = record { over = taken_over c.args.file _ (g.S.Held.seen c.args.site.now) (g.S.Held.seen c.texts.site) c.args.window.now c.texts.window c.texts.invariant.taken }

pub texts-preserved : goal.texts-preserved
texts-preserved g c =
    repeat_more c.args.file c.args.script.now c.texts.lines.now c.in_ok-later.later.now c.in_ok-text.text c.args.count c.texts.left _ (g.S.Held.seen c.args.site.now) (g.S.Held.seen c.texts.site) (g.S.Held.seen c.read_text.new.site)
    c.args.window.now c.texts.window c.read_text.new.window (omega arith) c.texts.invariant c.in_ok-text.ensures.taken c.in_ok-text.ensures.text c.in_ok-later.ensures.first

pub returns-in_err-text-clause-cause : goal.returns-in_err-text-clause-cause
returns-in_err-text-clause-cause g c =
    let first = g.S.Held.seen c.args.site.now in
    let now = g.S.Held.seen c.read_text.new.site in
    let fault = c.in_err-text.field-0.0 in
    if_fault (TakeCause c.args.file (RepeatBreaks c.args.script.now c.args.count) first now c.args.window.now) fault c.from_residual.result c.from_residual.ensures.1
    (repeat_field c.args.file c.args.script.now c.texts.lines.now c.args.count c.texts.left first (g.S.Held.seen c.texts.site) now c.args.window.now c.texts.window fault (omega arith) c.texts.invariant c.in_err-text.ensures.cause)

pub returns-in_err-later-clause-cause : goal.returns-in_err-later-clause-cause
returns-in_err-later-clause-cause g c =
    let first = g.S.Held.seen c.args.site.now in
    let middle = g.S.Held.seen c.texts.site in
    let now = g.S.Held.seen c.read_text.new.site in
    let fault = c.in_err-later.field-0.0 in
    if_fault (TakeCause c.args.file (RepeatBreaks c.args.script.now c.args.count) first now c.args.window.now) fault c.from_residual-in_err-later.result c.from_residual-in_err-later.ensures.1
    (repeat_other c.args.file c.args.script.now c.texts.lines.now c.in_ok-text.text c.args.count c.texts.left first middle now c.args.window.now c.texts.window c.read_text.new.window c.place-place.result fault (omega arith) c.texts.invariant
    c.in_ok-text.ensures.text c.in_err-later.ensures.place c.place-place.ensures.place c.place-place.ensures.within (taken_over c.args.file _ first middle c.args.window.now c.texts.window c.texts.invariant.taken) c.in_ok-text.ensures.taken
    c.in_err-later.ensures.other)

pub returns-clause-taken : goal.returns-clause-taken
returns-clause-taken g c =
    repeat_end c.args.file c.args.script.now c.texts.lines.now c.args.count c.texts.left (g.S.Held.seen c.args.site.now) (g.S.Held.seen c.texts.site) c.args.window.now c.texts.window _ (omega arith) c.is_empty.ensures c.texts.invariant
