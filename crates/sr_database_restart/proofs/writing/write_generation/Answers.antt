use Rattle.std.proofs.Common.{◌≢◌, length, sym, ◌∙◌, subst}
use Rattle.sr_database_meaning.specs.Generations.{snapshot_of, log_of, generation_of, other_of}
use Rattle.sr_database_restart.proofs.Kept.{has_written, is_at_then, log_apart, log_stands, other_log, snapshot_apart, touches_here, touches_on}
use Rattle.sr_database_restart.proofs.Steps.{cause_later, if_fault}
use Rattle.sr_database_restart.specs.Inner.Restarting.{RestartCause}
use Rattle.sr_database_restart.specs.Inner.Writing.{Touches}
use Rattle.sr_database_restart.specs.declared.generations.Other.{Other}
use Rattle.sr_logfile.specs.Log.{Log}
use Rattle.sr_logfile_carry.specs.Inner.Carrying.{IsReplaced, log_of_records}
use Rattle.sr_snapshot.specs.Inner.Beginnings.{beginning_in}
use Rattle.sr_snapshot.specs.Snapshots.{snapshot_spelling}
use Rattle.sr_database_restart.proofs.writing.write_generation.Goals as goal

pub returns-in_err-write_snapshot-clause-touches : goal.returns-in_err-write_snapshot-clause-touches
returns-in_err-write_snapshot-clause-touches g c =
    let before = g.S.Held.seen c.args.site.now in
    let now = g.S.Held.seen c.write_snapshot.new.site in
    let generation = generation_of c.args.log.now.file in
    touches_here generation (snapshot_of (other_of generation)) before now (snapshot_apart generation) (subst (λ (o : Other). Touches o.snapshot before now) c.requires.other c.in_err-write_snapshot.ensures.touches)

pub returns-in_err-write_snapshot-clause-cause : goal.returns-in_err-write_snapshot-clause-cause
returns-in_err-write_snapshot-clause-cause g c =
    let before = g.S.Held.seen c.args.site.now in
    let now = g.S.Held.seen c.write_snapshot.new.site in
    if_fault (RestartCause (length (snapshot_spelling (beginning_in c.args.state.now))) c.args.log.now.file before now) c.in_err-write_snapshot.field-0.0 c.from_residual.result c.from_residual.ensures.1
    (c.in_err-write_snapshot.ensures.cause c.args.log.now.file)

pub write_log-requires-clause-other : goal.write_log-requires-clause-other
write_log-requires-clause-other g c = subst (λ (o : Other). c.args.log.now.file ≢ o.log) (sym c.requires.other) (other_log c.args.log.now.file)

pub returns-in_err-new-clause-touches : goal.returns-in_err-new-clause-touches
returns-in_err-new-clause-touches g c =
    let before = g.S.Held.seen c.args.site.now in
    let middle = g.S.Held.seen c.write_snapshot.new.site in
    let now = g.S.Held.seen c.write_log.new.site in
    let generation = generation_of c.args.log.now.file in
    touches_on generation (log_of (other_of generation)) before middle now (log_apart generation)
    (touches_here generation (snapshot_of (other_of generation)) before middle (snapshot_apart generation) (subst (λ (o : Other). Touches o.snapshot before middle) c.requires.other c.in_ok-write_snapshot.ensures.touches))
    (subst (λ (o : Other). Touches o.log middle now) c.requires.other c.in_err-new.ensures.touches)

pub returns-in_err-new-clause-cause : goal.returns-in_err-new-clause-cause
returns-in_err-new-clause-cause g c =
    let before = g.S.Held.seen c.args.site.now in
    let middle = g.S.Held.seen c.write_snapshot.new.site in
    let now = g.S.Held.seen c.write_log.new.site in
    let size = length (snapshot_spelling (beginning_in c.args.state.now)) in
    let log = c.args.log.now.file in
    let fault = c.in_err-new.field-0.0 in
    if_fault (RestartCause size log before now) fault c.from_residual-in_err-new.result c.from_residual-in_err-new.ensures.1
    (cause_later size log before middle now c.in_ok-write_snapshot.ensures.short c.in_ok-write_snapshot.ensures.touches.stays.observable c.in_ok-write_snapshot.ensures.steady fault
    (c.in_err-new.ensures.cause size c.in_ok-write_snapshot.ensures.short))

pub returns-clause-touches : goal.returns-clause-touches
returns-clause-touches g c =
    let before = g.S.Held.seen c.args.site.now in
    let middle = g.S.Held.seen c.write_snapshot.new.site in
    let now = g.S.Held.seen c.write_log.new.site in
    let generation = generation_of c.args.log.now.file in
    touches_on generation (log_of (other_of generation)) before middle now (log_apart generation)
    (touches_here generation (snapshot_of (other_of generation)) before middle (snapshot_apart generation) (subst (λ (o : Other). Touches o.snapshot before middle) c.requires.other c.in_ok-write_snapshot.ensures.touches))
    (subst (λ (o : Other). Touches o.log middle now) c.requires.other c.in_ok-new.ensures.touches)

pub returns-clause-written : goal.returns-clause-written
returns-clause-written g c told done left at =
    let before = g.S.Held.seen c.args.site.now in
    let middle = g.S.Held.seen c.write_snapshot.new.site in
    let now = g.S.Held.seen c.write_log.new.site in
    let log : Log = c.args.log.now in
    let keep = c.args.state.now.offset.0 in
    let generation = generation_of log.file in
    let snapshot = snapshot_spelling (beginning_in c.args.state.now) in
    let told_middle = c.in_ok-write_snapshot.ensures.touches.stays.observable ∙ told in
    let one = subst (λ (o : Other). IsReplaced o.snapshot snapshot before middle) c.requires.other (c.in_ok-write_snapshot.ensures.replaced told) in
    let at_middle = is_at_then log keep done left before.files middle.files (log_stands log.file snapshot before middle (c.requires.file told) one) at in
    let other = subst (λ (o : Other). IsReplaced o.log (log_of_records keep left) middle now) c.requires.other (c.in_ok-new.ensures.replaced told_middle done left at_middle) in
    let touches = subst (λ (o : Other). Touches o.log middle now) c.requires.other c.in_ok-new.ensures.touches in
    has_written generation snapshot (log_of_records keep left) before middle now one other touches.stays.first (touches.on told_middle)
