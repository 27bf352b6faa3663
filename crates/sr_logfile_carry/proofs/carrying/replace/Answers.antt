use Rattle.std.proofs.Common.{◌∙◌}
use Rattle.sr_logfile.specs.Records.{header}
use Rattle.sr_logfile_carry.proofs.Copied.{replaced_by}
use Rattle.sr_logfile_carry.proofs.Steps.{cause_on, if_fault, only_on}
use Rattle.sr_logfile_carry.specs.Inner.Carrying.{StepCause}
use Rattle.sr_logfile_carry.proofs.carrying.replace.Goals as goal

pub returns-in_err-copy-clause-cause : goal.returns-in_err-copy-clause-cause
returns-in_err-copy-clause-cause g c =
    let before = g.S.Held.seen c.args.site.now in
    let middle = g.S.Held.seen c.begin.new.site in
    let now = g.S.Held.seen c.copy.new.site in
    let has = c.in_ok-begin.ensures.begun in
    if_fault (StepCause c.args.into before now) c.in_err-copy.field-0.0 c.from_residual-in_err-copy.result c.from_residual-in_err-copy.ensures.1
    (cause_on c.args.into before middle now c.in_err-copy.field-0.0 has.only has.steady c.in_err-copy.ensures.cause)

pub returns-in_err-close-clause-cause : goal.returns-in_err-close-clause-cause
returns-in_err-close-clause-cause g c =
    let before = g.S.Held.seen c.args.site.now in
    let middle = g.S.Held.seen c.begin.new.site in
    let full = g.S.Held.seen c.copy.new.site in
    let now = g.S.Held.seen c.close.new.site in
    let has = c.in_ok-begin.ensures.begun in
    let copied = c.in_ok-copy.ensures.copied in
    if_fault (StepCause c.args.into before now) c.in_err-close.field-0.0 c.from_residual-in_err-close.result c.from_residual-in_err-close.ensures.1
    (cause_on c.args.into before full now c.in_err-close.field-0.0 (only_on c.args.into before middle full has.only copied.only) (copied.steady ∙ has.steady) c.in_err-close.ensures.cause)

pub returns-clause-replaced : goal.returns-clause-replaced
returns-clause-replaced g c =
    replaced_by c.args.part c.args.into (header c.args.keep.0) (g.S.Held.seen c.args.site.now) (g.S.Held.seen c.begin.new.site) c.requires.other c.in_ok-begin.ensures.begun (g.S.Held.seen c.copy.new.site) (g.S.Held.seen c.close.new.site)
    c.in_ok-copy.ensures.copied c.in_ok-close.ensures.closed
