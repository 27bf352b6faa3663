use Rattle.std.proofs.Common.{Option, subst}
use Rattle.sr_base.specs.declared.offset.Offset.{Offset}
use Rattle.sr_send.specs.Inner.Steps.{DoneStep}
use Rattle.sr_send.specs.Inner.Stops.{ReadStop}
use Rattle.sr_send.proofs.Loops.{some_made, under_step, loop_end, under_stopped}
use Rattle.sr_send.proofs.Starts.{under_begun, unbegun}
use Rattle.sr_send.proofs.Results.{if_fault}
use Rattle.sr_send.proofs.reading.put_given.Goals as goal

pub returns-in_err-after-clause-cause : goal.returns-in_err-after-clause-cause
returns-in_err-after-clause-cause g c =
    let first = g.S.Held.seen c.args.site.now in
    let now = g.S.Held.seen c.begin_at.new.site in
    if_fault (ReadStop c.args.db.now c.args.aim.now c.args.scanner.now.user first now) c.in_err-after.field-0.0 c.from_residual.result c.from_residual.ensures.1
    (unbegun c.args.db.now c.args.aim.now c.args.scanner.now.user c.args.post.now first now c.in_err-after.field-0.0 c.requires.aim c.requires.made c.in_err-after.ensures.cause)

pub entries-init : goal.entries-init
entries-init g c =
    under_begun c.args.db.now c.args.aim.now c.args.scanner.now.user c.begin_at.new.scanner c.args.post.now c.in_ok-after.after (g.S.Held.seen c.args.site.now) (g.S.Held.seen c.begin_at.new.site) c.requires.made c.in_ok-after.ensures.begun
    c.begin_at.ensures.user

pub step-requires-clause-after : goal.step-requires-clause-after
step-requires-clause-after g c = (c.entries.invariant.from_base, c.entries.invariant.within)

pub step-requires-clause-made : goal.step-requires-clause-made
step-requires-clause-made g c =
    some_made c.args.db.now c.args.aim.now c.args.scanner.now.user c.entries.scanner c.entries.post c.entries.after (g.S.Held.seen c.args.site.now) (g.S.Held.seen c.entries.site) c.entries.invariant

pub step-requires-clause-behind : goal.step-requires-clause-behind
step-requires-clause-behind g c = c.entries.invariant.behind

pub returns-in_err-end-clause-cause : goal.returns-in_err-end-clause-cause
returns-in_err-end-clause-cause g c =
    let first = g.S.Held.seen c.args.site.now in
    let before = g.S.Held.seen c.entries.site in
    let now = g.S.Held.seen c.step.new.site in
    if_fault (ReadStop c.args.db.now c.args.aim.now c.args.scanner.now.user first now) c.in_err-end.field-0.0 c.from_residual-in_err-end.result c.from_residual-in_err-end.ensures.1
    (under_stopped c.args.db.now c.args.aim.now c.args.scanner.now.user c.entries.scanner c.entries.post c.entries.after first before now c.in_err-end.field-0.0 c.entries.invariant c.in_err-end.ensures.cause)

pub entries-preserved : goal.entries-preserved
entries-preserved g c =
    under_step c.args.db.now c.args.aim.now c.args.scanner.now.user c.entries.scanner c.step.new.scanner c.entries.post c.step.new.post c.entries.after c.in-Some.end (g.S.Held.seen c.args.site.now) (g.S.Held.seen c.entries.site)
    (g.S.Held.seen c.step.new.site) c.entries.invariant
    (subst (λ (found : Option Offset). DoneStep c.args.db.now c.args.aim.now c.entries.scanner c.step.new.scanner c.entries.post c.step.new.post c.entries.after (g.S.Held.seen c.entries.site) (g.S.Held.seen c.step.new.site) found) c.in-Some.is
    c.in_ok-end.ensures.done)

pub returns-clause-read : goal.returns-clause-read
returns-clause-read g c =
    loop_end c.args.db.now c.args.aim.now c.args.scanner.now.user c.entries.scanner c.step.new.scanner c.entries.post c.step.new.post c.entries.after (g.S.Held.seen c.args.site.now) (g.S.Held.seen c.entries.site) (g.S.Held.seen c.step.new.site)
    c.in_ok-end.field-0 c.entries.invariant c.in_default.not-Some c.in_ok-end.ensures.done
