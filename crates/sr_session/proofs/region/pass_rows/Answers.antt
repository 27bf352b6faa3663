use Rattle.std.proofs.Common.{◌≡◌, Some, Ok, sym, subst}
use Rattle.sr_ast.specs.declared.stmt.Stmt.{Stmt}
use Rattle.sr_ast.specs.declared.stmt.Stmt.TheVariants as stmt
use Rattle.sr_exec_dml.specs.Fitting.{RowsFit}
use Rattle.sr_database_history.specs.Fitting.{IsAcceptedPass, MayHaveChanges}
use Rattle.sr_database_history.specs.Folds.{State}
use Rattle.sr_session_script.specs.Inner.Answers.{IsStop}
use Rattle.sr_session_script.specs.Meaning.{row_changes, passed}
use Rattle.sr_database.specs.Views.{committed}
use Rattle.sr_session.specs.Inner.Faults.{fault_of_stop}
use Rattle.sr_session.specs.Inner.Ready.{work_of}
use Rattle.sr_session.proofs.Passing.{MayPass, rows_pass, passed_entry, passed_stop}
use Rattle.sr_session.proofs.Results.{took_err}
use Rattle.sr_session.proofs.States.{shown, shown_committed, committed_present}
use Rattle.sr_session.proofs.region.pass_rows.Goals as goal

pub returns-in_err-changes : goal.returns-in_err-changes
returns-in_err-changes g c =
    let view = c.args.db.now in
    let region = c.args.region.now in
    let statement = c.args.stmt.now in
    let seen = g.S.Held.seen c.args.site.now in
    let lines = c.args.lines.now.items in
    let why = c.in_err-changes.field-0.0 in
    let is : shown c.catalog.result.now c.rows.result.now ≡ committed view = shown_committed view c.catalog.result.now c.rows.result.now c.requires.ready.sound c.requires.pending c.catalog.ensures.catalog c.rows.ensures.rows in
    record {
      took =
          took_err (passed region statement (row_changes region.only (committed view) c.args.dml.now) (work_of view (Some region))) view view seen seen lines lines (Some region) (fault_of_stop why) c.from_residual.result
          c.from_residual.ensures.1
          (passed_stop region statement (row_changes region.only (committed view) c.args.dml.now) view seen lines lines (Some region) (Some region) why c.requires.ready.usable (λ i. lines)
          (subst (λ (s : State). IsStop (row_changes region.only s c.args.dml.now) why) is c.in_err-changes.ensures.meant));
    }

pub pass-requires-clause-fit : goal.pass-requires-clause-fit
pass-requires-clause-fit g c =
    let view = c.args.db.now in
    let is : shown c.catalog.result.now c.rows.result.now ≡ committed view = shown_committed view c.catalog.result.now c.rows.result.now c.requires.ready.sound c.requires.pending c.catalog.ensures.catalog c.rows.ensures.rows in
    (rows_pass (committed view) c.args.region.now.only c.args.dml.now c.in_ok-changes.changes
    (subst (λ (s : State). RowsFit s.catalog s.rows) (committed_present view c.requires.ready.sound c.requires.pending) c.catalog.ensures.holds.rows)
    (subst (λ (s : State). row_changes c.args.region.now.only s c.args.dml.now ≡ Ok c.in_ok-changes.changes) is c.in_ok-changes.ensures.meant)).fit

pub pass-requires-clause-accepted : goal.pass-requires-clause-accepted
pass-requires-clause-accepted g c =
    let view = c.args.db.now in
    let is : shown c.catalog.result.now c.rows.result.now ≡ committed view = shown_committed view c.catalog.result.now c.rows.result.now c.requires.ready.sound c.requires.pending c.catalog.ensures.catalog c.rows.ensures.rows in
    let may : MayPass (committed view) c.args.region.now.only (stmt.Dml c.args.dml.now) c.in_ok-changes.changes =
    rows_pass (committed view) c.args.region.now.only c.args.dml.now c.in_ok-changes.changes
    (subst (λ (s : State). RowsFit s.catalog s.rows) (committed_present view c.requires.ready.sound c.requires.pending) c.catalog.ensures.holds.rows)
    (subst (λ (s : State). row_changes c.args.region.now.only s c.args.dml.now ≡ Ok c.in_ok-changes.changes) is c.in_ok-changes.ensures.meant) in
    subst (λ (s : Stmt). IsAcceptedPass (committed view) c.args.region.now.only s) (sym c.requires.stmt) may.accepted

pub pass-requires-clause-may : goal.pass-requires-clause-may
pass-requires-clause-may g c =
    let view = c.args.db.now in
    let is : shown c.catalog.result.now c.rows.result.now ≡ committed view = shown_committed view c.catalog.result.now c.rows.result.now c.requires.ready.sound c.requires.pending c.catalog.ensures.catalog c.rows.ensures.rows in
    let may : MayPass (committed view) c.args.region.now.only (stmt.Dml c.args.dml.now) c.in_ok-changes.changes =
    rows_pass (committed view) c.args.region.now.only c.args.dml.now c.in_ok-changes.changes
    (subst (λ (s : State). RowsFit s.catalog s.rows) (committed_present view c.requires.ready.sound c.requires.pending) c.catalog.ensures.holds.rows)
    (subst (λ (s : State). row_changes c.args.region.now.only s c.args.dml.now ≡ Ok c.in_ok-changes.changes) is c.in_ok-changes.ensures.meant) in
    subst (λ (s : Stmt). MayHaveChanges c.args.region.now.only s c.in_ok-changes.changes) (sym c.requires.stmt) may.may

pub returns : goal.returns
returns g c =
    let view = c.args.db.now in
    let region = c.args.region.now in
    let statement = c.args.stmt.now in
    let is : shown c.catalog.result.now c.rows.result.now ≡ committed view = shown_committed view c.catalog.result.now c.rows.result.now c.requires.ready.sound c.requires.pending c.catalog.ensures.catalog c.rows.ensures.rows in
    record {
      took =
          passed_entry region statement (row_changes region.only (committed view) c.args.dml.now) c.in_ok-changes.changes view c.pass.new.db (g.S.Held.seen c.args.site.now) (g.S.Held.seen c.pass.new.site)
          c.args.lines.now.items c.pass.new.lines.items (Some region) (Some region) c.pass.result
          (subst (λ (s : State). row_changes region.only s c.args.dml.now ≡ Ok c.in_ok-changes.changes) is c.in_ok-changes.ensures.meant) c.pass.ensures.took;
    }
