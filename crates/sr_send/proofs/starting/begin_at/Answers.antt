use Rattle.std.proofs.Common.{◌∙◌}
use Rattle.sr_send.specs.Inner.Starts.{BeginStop}
use Rattle.sr_send.specs.declared.fault.SendFault.TheVariants.{Memory}
use Rattle.sr_send.proofs.Results.{if_fault}
use Rattle.sr_send.proofs.Starts.{begun_here, begun_base, later_stopped, begin_short}
use Rattle.sr_send.proofs.starting.begin_at.Goals as goal

pub returns-in_err-is_still-clause-cause : goal.returns-in_err-is_still-clause-cause
returns-in_err-is_still-clause-cause g c =
    let first = g.S.Held.seen c.args.site.now in
    let before = g.S.Held.seen c.end_before.new.site in
    let now = g.S.Held.seen c.is_still.new.site in
    if_fault (BeginStop first now) c.in_err-is_still.field-0.0 c.from_residual-in_err-is_still.result c.from_residual-in_err-is_still.ensures.1
    (later_stopped c.args.db.now c.args.aim.now.prev.0 c.in_ok-from.from first before now c.in_err-is_still.field-0.0 c.in_ok-from.ensures.walked c.in_err-is_still.ensures.cause)

pub returns-then-not-branch-clause-begun : goal.returns-then-not-branch-clause-begun
returns-then-not-branch-clause-begun g c =
    begun_base c.args.db.now c.args.aim.now c.args.scanner.now c.args.aim.now.prev.0 c.in_ok-from.from c.base.result (g.S.Held.seen c.args.site.now) (g.S.Held.seen c.end_before.new.site) (g.S.Held.seen c.is_still.new.site)
    (c.usable-usable_here.ensures.sound c.requires.usable) c.in_ok-from.ensures.walked c.in_ok-is_still.ensures.posted c.in_ok-is_still.ensures.steady c.base.ensures.base c.requires.catalog

pub returns-in_err-go_on_with-clause-cause : goal.returns-in_err-go_on_with-clause-cause
returns-in_err-go_on_with-clause-cause g c =
    let first = g.S.Held.seen c.args.site.now in
    let before = g.S.Held.seen c.end_before.new.site in
    let now = g.S.Held.seen c.is_still.new.site in
    if_fault (BeginStop first now) Memory c.from_residual-in_err-go_on_with.result c.from_residual-in_err-go_on_with.ensures.1
    (begin_short c.args.db.now c.args.aim.now.prev.0 c.in_ok-from.from first before now c.in_ok-from.ensures.walked c.in_ok-is_still.ensures.posted c.in_ok-is_still.ensures.steady)

pub returns-clause-begun : goal.returns-clause-begun
returns-clause-begun g c =
    begun_here c.args.db.now c.args.aim.now c.go_on_with.new.scanner c.in_ok-from.from (g.S.Held.seen c.args.site.now) (g.S.Held.seen c.end_before.new.site) (g.S.Held.seen c.is_still.new.site)
    c.in_ok-from.ensures.walked c.in_ok-is_still.ensures.posted c.in_ok-is_still.ensures.steady (c.in_ok-is_still.ensures.still c.if-not-branch.false) (c.in_ok-go_on_with.ensures.catalog ∙ c.catalog.ensures.catalog)
