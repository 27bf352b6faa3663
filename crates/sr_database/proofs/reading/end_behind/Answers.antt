use Rattle.std.proofs.Common.{refl, subst}
use Rattle.sr_logfile.specs.declared.reading.Step.{Step}
use Rattle.sr_database.proofs.Behind.{StepsTo, no_end, end_short, end_whole, not_memory}
use Rattle.sr_database.proofs.reading.end_behind.Goals as goal

pub returns-in-Ok-End-clause-end : goal.returns-in-Ok-End-clause-end
returns-in-Ok-End-clause-end g c told =
    let before = g.S.Held.seen c.args.site.now in
    let now = g.S.Held.seen c.next.new.site in
    no_end c.args.log.now c.args.after.0 before now now.files c.next.new.buffer
    (subst (λ (step : Step). StepsTo c.args.log.now c.args.after.0 before now.files c.next.new.buffer step) c.in-Ok-End.field-0-is (c.in-Ok-End.ensures.step told))

pub returns-in-Ok-Short-clause-end : goal.returns-in-Ok-Short-clause-end
returns-in-Ok-Short-clause-end g c told =
    let before = g.S.Held.seen c.args.site.now in
    let now = g.S.Held.seen c.next.new.site in
    end_short c.args.log.now c.args.after.0 before now now.files c.next.new.buffer c.in-Ok-Short.need _ refl
    (subst (λ (step : Step). StepsTo c.args.log.now c.args.after.0 before now.files c.next.new.buffer step) c.in-Ok-Short.field-0-is (c.in-Ok-Short.ensures.step told))

pub returns-in-Ok-Record-clause-end : goal.returns-in-Ok-Record-clause-end
returns-in-Ok-Record-clause-end g c told =
    let before = g.S.Held.seen c.args.site.now in
    let now = g.S.Held.seen c.next.new.site in
    end_whole c.args.log.now c.args.after.0 before now now.files c.next.new.buffer c.in-Ok-Record.end c.in-Ok-Record.field-0-1
    (subst (λ (step : Step). StepsTo c.args.log.now c.args.after.0 before now.files c.next.new.buffer step) c.in-Ok-Record.field-0-is (c.in-Ok-Record.ensures.step told))

pub returns-in-Err-clause-memory : goal.returns-in-Err-clause-memory
returns-in-Err-clause-memory g c = not_memory c.file.result c.in-Err.fault c.log_fault.result c.log_fault.ensures
