-- Statements that are passed on, and the state that they meet.
use Rattle.std.proofs.Common.{◌≡◌, Bool, true, false, ℕ, List, [], Option, None, Result, Ok, Err, refl, sym, subst}
use Rattle.sr_ast.specs.declared.query.Dml.{Dml}
use Rattle.sr_ast.specs.declared.stmt.Passthrough.{Passthrough}
use Rattle.sr_ast.specs.declared.stmt.Stmt.{Stmt}
use Rattle.sr_ast.specs.declared.stmt.Stmt.TheVariants as stmt
use Rattle.sr_catalog_change.specs.Changes.{refusal}
use Rattle.sr_exec_dml.specs.Fitting.{RowsFit}
use Rattle.sr_exec_dml.specs.FittingChanges.{ChangesFit}
use Rattle.sr_exec_dml.specs.Statements.{done}
use Rattle.sr_exec_dml.specs.declared.changes.Changes.{Changes}
use Rattle.sr_exec_dml.proofs.Applied.{statements_changes_fit}
use Rattle.sr_database_history.specs.Fitting.{HasChanges, IsAcceptedPass, MayHaveChanges}
use Rattle.sr_database_history.specs.Folds.{State}
use Rattle.sr_database_history.specs.Recorded.{pass, IsDdl}
use Rattle.sr_logform.specs.declared.change.Change.{Change}
use Rattle.sr_catalog_schema.specs.Catalogs.{Lists}
use Rattle.sr_catalog_schema.specs.Causes.{first_fault}
use Rattle.sr_catalog_schema.specs.declared.fault.DmlFault.{DmlFault}
use Rattle.sr_site.specs.Seen.{Seen}
use Rattle.sr_database.specs.Views.{View}
use Rattle.sr_session_script.specs.Inner.Answers.{IsStop}
use Rattle.sr_session_script.specs.Meaning.{Stepped, enters, unless_dml, accepted, without_changes, list_of, catalog_changes, row_changes, passed}
use Rattle.sr_session_script.specs.Works.{Work}
use Rattle.sr_session_script.specs.declared.refusal.Refusal.{Refusal}
use Rattle.sr_session_script.specs.declared.refusal.Stop.{Stop}
use Rattle.sr_session.specs.Inner.Faults.{fault_of_stop}
use Rattle.sr_session.specs.Inner.Ready.{work_of}
use Rattle.sr_session.specs.Inner.Steps.{Took}
use Rattle.sr_session.specs.declared.fault.StepFault.{StepFault}
use Rattle.sr_session.proofs.Catalogs.{accepts}
use Rattle.sr_session.proofs.Quiet.{took_ok, took_stop}

-- ---- what the entry of a statement that is passed on asks for

-- the changes fit and may stand there, and the statement is accepted where it ran here
pub record MayPass (s : State) (only : Bool) (statement : Stmt) (changes : List Change) : Type 0 where
  pub fit : ChangesFit s.catalog s.rows changes
  pub accepted : IsAcceptedPass s only statement
  pub may : MayHaveChanges only statement changes

without_ok : (meant : Result (Unit {0}) Refusal) (changes : List Change) → without_changes meant ≡ Ok changes → (meant ≡ Ok tt) × (changes ≡ [])
without_ok (Ok done) changes is = (refl, let none : changes ≡ [] = cc in none)
without_ok (Err fault) changes is = absurd (let no : without_changes (Err fault) ≡ Ok changes = is in cc)

no_changes_fit : (s : State) (changes : List Change) → changes ≡ [] → ChangesFit s.catalog s.rows changes
no_changes_fit s changes none = subst (λ (l : List Change). ChangesFit s.catalog s.rows l) (sym none) tt

pub catalog_passes : (s : State) (only : Bool) (statement : Stmt) (changes : List Change) → IsDdl statement → catalog_changes only s statement ≡ Ok changes → MayPass s only statement changes
catalog_passes s true statement changes meant is = let none : changes ≡ [] = cc in record { fit = no_changes_fit s changes none; accepted = tt; may = none }
catalog_passes s false statement changes meant is =
    let parts = without_ok (accepted s.catalog statement) changes is in record { fit = no_changes_fit s changes parts.1; accepted = accepts s statement meant parts.0; may = λ ddl. parts.1 }

listed_ok : (meant : Result Changes DmlFault) (changes : List Change) → list_of (unless_dml meant) ≡ Ok changes → (found : Changes) × (meant ≡ Ok found) × (found.list ≡ changes)
listed_ok (Ok found) changes is = (found, refl, let same : found.list ≡ changes = cc in same)
listed_ok (Err fault) changes is = absurd (let no : list_of (unless_dml (Err fault)) ≡ Ok changes = is in cc)

-- the catalog refuses no statement on rows
rows_not_refused : (catalog : Lists) (d : Dml) → refusal catalog (stmt.Dml d) ≡ None
unfolding refusal first_fault
rows_not_refused catalog d = refl

has_changes : (meant : Result Changes DmlFault) (found : Changes) → meant ≡ Ok found → HasChanges meant
has_changes meant found is = subst (λ (m : Result Changes DmlFault). HasChanges m) (sym is) tt

pub rows_pass : (s : State) (only : Bool) (d : Dml) (changes : List Change) → RowsFit s.catalog s.rows → row_changes only s d ≡ Ok changes → MayPass s only (stmt.Dml d) changes
rows_pass s true d changes fit is = let none : changes ≡ [] = cc in record { fit = no_changes_fit s changes none; accepted = tt; may = none }
rows_pass s false d changes fit is =
    let parts = listed_ok (done s.catalog s.rows d) changes is in
    record {
      fit = subst (λ (l : List Change). ChangesFit s.catalog s.rows l) parts.2 (statements_changes_fit s.catalog s.rows d parts.0 fit parts.1);
      accepted = record { catalog = rows_not_refused s.catalog d; rows = has_changes (done s.catalog s.rows d) parts.0 parts.1 };
      may = λ ddl. absurd (let no : false ≡ true = ddl in cc);
    }

-- ---- what is done of it

abbrev entering : Passthrough → Stmt → Work → List Change → Stepped
entering p s w changes = enters (pass p.users p.only s changes) w

-- it is refused, or there is no memory
pub passed_stop : (p : Passthrough) (s : Stmt) (found : Result (List Change) Refusal) (view : View) (seen : Seen) (lines lines' : List ℕ) (region later : Option Passthrough) (why : Stop)
    → view.log.usable ≡ true → lines' ≡ lines → IsStop found why → Took (passed p s found (work_of view region)) view view seen seen lines lines' later (Err (fault_of_stop why))
passed_stop p s found view seen lines lines' region later why usable same is = took_stop found (entering p s (work_of view region)) view seen lines lines' later why usable same is

-- its entry is committed, or not
pub passed_entry : (p : Passthrough) (s : Stmt) (found : Result (List Change) Refusal) (changes : List Change) (old new : View) (first second : Seen) (lines lines' : List ℕ) (region later : Option Passthrough)
    (result : Result (Unit {0}) StepFault) → found ≡ Ok changes → Took (enters (pass p.users p.only s changes) (work_of old region)) old new first second lines lines' later result
    → Took (passed p s found (work_of old region)) old new first second lines lines' later result
passed_entry p s found changes old new first second lines lines' region later result is took =
    took_ok found (entering p s (work_of old region)) changes old new first second lines lines' later result is took
