use Rattle.std.proofs.Common.{◌≡◌, ◌++◌, List, Ok, ap, subst, ◌∙◌}
use Rattle.sr_base.specs.declared.value.Value.{Value as Cell}
use Rattle.sr_database_history.specs.Folds.{State}
use Rattle.sr_session_script.specs.Acts.{text_from}
use Rattle.sr_session_script.specs.Inner.Answers.{IsStop}
use Rattle.sr_session_script.specs.Meaning.{answered, listing, rows_by}
use Rattle.sr_database.specs.Inner.Views.{present}
use Rattle.sr_session.specs.Inner.Faults.{fault_of_stop}
use Rattle.sr_session.specs.Inner.Ready.{work_of}
use Rattle.sr_session.proofs.Results.{took_err, took_memory}
use Rattle.sr_session.proofs.States.{shown, shown_is}
use Rattle.sr_session.proofs.Statements.{answered_stop, answered_done}
use Rattle.sr_session.proofs.rows.select.Goals as goal

pub returns-in_err-rows : goal.returns-in_err-rows
returns-in_err-rows c =
    let view = c.args.db.now in
    let why = c.in_err-rows.field-0.0 in
    let is : shown c.catalog.result.now c.rows.result.now ≡ present view = shown_is view c.catalog.result.now c.rows.result.now c.catalog.ensures.catalog c.rows.ensures.rows in
    record {
      took = λ seen region.
          took_err (answered (work_of view region) c.args.stmt.now) view view seen seen c.args.lines.now.items c.args.lines.now.items region (fault_of_stop why) c.from_residual.result c.from_residual.ensures.1
          (answered_stop view seen c.args.lines.now.items c.args.lines.now.items region c.args.stmt.now why c.requires.usable c.requires.sound (λ i. c.args.lines.now.items)
          (subst (λ (s : State). IsStop (rows_by s c.args.stmt.now) why) is c.in_err-rows.ensures.meant));
    }

pub returns-in_err-push_rows : goal.returns-in_err-push_rows
returns-in_err-push_rows c = record {
  took = λ seen region.
      took_memory (answered (work_of c.args.db.now region) c.args.stmt.now) c.args.db.now seen c.args.lines.now.items c.push_rows.new.out.items region c.from_residual-in_err-push_rows.result
      c.from_residual-in_err-push_rows.ensures.1 c.requires.usable c.in_err-push_rows.ensures.err;
}

pub returns : goal.returns
returns c =
    let view = c.args.db.now in
    let found = c.in_ok-rows.rows.items in
    let is : shown c.catalog.result.now c.rows.result.now ≡ present view = shown_is view c.catalog.result.now c.rows.result.now c.catalog.ensures.catalog c.rows.ensures.rows in
    record {
      took = λ seen region.
          answered_done view seen c.args.lines.now.items c.push_rows.new.out.items region c.args.stmt.now found c.requires.usable c.requires.sound
          (subst (λ (s : State). rows_by s c.args.stmt.now ≡ Ok found) is c.in_ok-rows.ensures.meant)
          (c.in_ok-push_rows.ensures.ok view.log.end ∙ ap (λ (l : List (List Cell)). c.args.lines.now.items ++ text_from view.log.end (listing l)) c.as_slice.ensures.value);
    }
