use Rattle.std.proofs.Common.{◌≡◌, Ok, ap, subst}
use Rattle.sr_database_history.specs.Folds.{State}
use Rattle.sr_session_script.specs.Inner.Answers.{IsStop}
use Rattle.sr_session_script.specs.Meaning.{executed, changes_by}
use Rattle.sr_database.specs.Views.{View}
use Rattle.sr_database.specs.Inner.Views.{present}
use Rattle.sr_session.specs.Inner.Faults.{fault_of_stop}
use Rattle.sr_session.specs.Inner.Ready.{work_of}
use Rattle.sr_session.specs.declared.fault.StepFault.TheVariants.{Memory}
use Rattle.sr_session.proofs.Commits.{took_none}
use Rattle.sr_session.proofs.Results.{took_err}
use Rattle.sr_session.proofs.States.{shown, shown_is}
use Rattle.sr_session.proofs.Statements.{changes_fit, executed_stop, executed_done, executed_short}
use Rattle.sr_session.proofs.rows.execute_reusing.Goals as goal

pub returns-in_err-changes : goal.returns-in_err-changes
returns-in_err-changes c =
    let view = c.args.db.now in
    let why = c.in_err-changes.field-0.0 in
    let is : shown c.catalog.result.now c.rows.result.now ≡ present view = shown_is view c.catalog.result.now c.rows.result.now c.catalog.ensures.catalog c.rows.ensures.rows in
    record {
      took = λ seen region.
          took_err (executed (work_of view region) c.args.stmt.now) view view seen seen c.args.lines.now.items c.args.lines.now.items region (fault_of_stop why) c.from_residual.result c.from_residual.ensures.1
          (executed_stop view seen c.args.lines.now.items c.args.lines.now.items region c.args.stmt.now why c.requires.usable c.requires.sound (λ i. c.args.lines.now.items)
          (subst (λ (s : State). IsStop (changes_by s c.args.stmt.now) why) is c.in_err-changes.ensures.meant));
    }

pub returns-then-not-are_short : goal.returns-then-not-are_short
returns-then-not-are_short c = record {
  took = λ seen region. took_none (executed (work_of c.args.db.now region) c.args.stmt.now) c.args.db.now seen c.args.lines.now.items c.args.lines.now.items region c.requires.usable (λ i. c.args.lines.now.items);
}

pub take_in-requires-clause-fit : goal.take_in-requires-clause-fit
take_in-requires-clause-fit c =
    let view = c.args.db.now in
    let is : shown c.catalog.result.now c.rows.result.now ≡ present view = shown_is view c.catalog.result.now c.rows.result.now c.catalog.ensures.catalog c.rows.ensures.rows in
    changes_fit view c.args.stmt.now c.in_ok-changes.changes c.catalog.ensures.holds.rows (subst (λ (s : State). changes_by s c.args.stmt.now ≡ Ok c.in_ok-changes.changes) is c.in_ok-changes.ensures.meant)

pub returns-in_err-take_in : goal.returns-in_err-take_in
returns-in_err-take_in c = record {
  took = λ seen region.
      took_err (executed (work_of c.args.db.now region) c.args.stmt.now) c.args.db.now c.take_in.new.self seen seen c.args.lines.now.items c.args.lines.now.items region Memory c.from_residual-in_err-take_in.result
      c.from_residual-in_err-take_in.ensures.1
      (executed_short c.args.db.now c.take_in.new.self seen c.args.lines.now.items c.args.lines.now.items region c.args.stmt.now c.requires.usable (ap (λ (v : View). v.log) c.in_err-take_in.ensures.err)
      c.in_err-take_in.ensures.value (λ i. c.args.lines.now.items));
}

pub returns-in_err-push_count : goal.returns-in_err-push_count
returns-in_err-push_count c = record {
  took = λ seen region.
      took_err (executed (work_of c.args.db.now region) c.args.stmt.now) c.args.db.now c.take_in.new.self seen seen c.args.lines.now.items c.push_count.new.out.items region Memory c.from_residual-in_err-push_count.result
      c.from_residual-in_err-push_count.ensures.1
      (executed_short c.args.db.now c.take_in.new.self seen c.args.lines.now.items c.push_count.new.out.items region c.args.stmt.now c.requires.usable c.in_ok-take_in.ensures.database.1 c.in_ok-take_in.ensures.value
      c.in_err-push_count.ensures.err);
}

pub returns : goal.returns
returns c =
    let view = c.args.db.now in
    let is : shown c.catalog.result.now c.rows.result.now ≡ present view = shown_is view c.catalog.result.now c.rows.result.now c.catalog.ensures.catalog c.rows.ensures.rows in
    record {
      took = λ seen region.
          executed_done view c.take_in.new.self seen c.args.lines.now.items c.push_count.new.out.items region c.args.stmt.now c.in_ok-changes.changes c.requires.usable c.requires.sound
          (subst (λ (s : State). changes_by s c.args.stmt.now ≡ Ok c.in_ok-changes.changes) is c.in_ok-changes.ensures.meant) c.in_ok-take_in.ensures.database.1 c.in_ok-take_in.ensures.pending c.in_ok-take_in.ensures.value
          c.in_ok-push_count.ensures.ok;
    }
