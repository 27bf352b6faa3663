-- What holds of a state goes on to hold behind each entry that fits it.
use Rattle.std.proofs.Common.{◌≡◌, ℕ, ◌+◌, Bool, true, false, List, [], ◌∷◌, None}
use Rattle.std.specs.List.{AllByRecursion}
use Rattle.sr_ast.specs.NormalForms.{IsNormal}
use Rattle.sr_ast.specs.declared.stmt.Stmt.{Stmt}
use Rattle.sr_book.specs.Entries.{Name}
use Rattle.sr_catalog_change.specs.Changes.{refusal}
use Rattle.sr_exec_dml.specs.FittingChanges.{ChangesFit}
use Rattle.sr_exec_dml.proofs.Applied.{no_rows_fit, fitting_changes_keep}
use Rattle.sr_logform.specs.declared.change.Change.{Change}
use Rattle.sr_catalog_script_laws.proofs.Spelled.{new_spelled, still_spelled}
use Rattle.sr_database_history.specs.Recorded.{Done, plain, ran, conflict, clash, IsLawfulDone}
use Rattle.sr_database_history.specs.Recorded.{Recorded, own, taken, ddl, sync, pass, note, IsCarried, IsRecorded}
use Rattle.sr_database_history.specs.Folds.{State, fresh, with_changes, with_statement, done_changes, after_done, after_dones, after_pass}
use Rattle.sr_database_history.specs.Folds.{next, state_from, state_of, size}
use Rattle.sr_database_history.specs.Fitting.{IsAcceptedPass, DoneFits, DonesFit, FitsState, Fits, stored_from, Stored}
use Rattle.sr_database_history.specs.Inner.Laws.{Holds}
use Rattle.sr_database_history.proofs.Tables.{statement_keeps}

pub fresh_holds : (publisher : Name) → Holds (fresh publisher)
fresh_holds publisher = record { rows = no_rows_fit (fresh publisher).catalog; catalog = new_spelled publisher }

changes_hold : (s : State) (changes : List Change) → Holds s → ChangesFit s.catalog s.rows changes → Holds (with_changes changes s)
changes_hold s changes h fit = record { rows = fitting_changes_keep s.catalog s.rows changes h.rows fit; catalog = h.catalog }

statement_holds : (s : State) (statement : Stmt) → Holds s → IsNormal statement → refusal s.catalog statement ≡ None → Holds (with_statement statement s)
unfolding with_statement
statement_holds s statement h normal accepted = record {
  rows = statement_keeps statement s.catalog s.rows accepted h.rows;
  catalog = still_spelled s.catalog statement h.catalog normal accepted;
}

done_holds : (s : State) (d : Done) → Holds s → IsLawfulDone d → DoneFits s d → Holds (after_done d s)
done_holds s (plain op changes) h meant fit = changes_hold s changes h fit.changes
done_holds s (ran statement changes) h meant fit =
    statement_holds (with_changes changes s) statement (changes_hold s changes h fit.changes) meant.0 fit.outcome.catalog
done_holds s (conflict op inserts before after) h meant fit = changes_hold s (done_changes (conflict op inserts before after)) h fit.changes
done_holds s (clash op why) h meant fit = h

dones_hold : (s : State) (dones : List Done) → Holds s → AllByRecursion IsLawfulDone dones → DonesFit s dones → Holds (after_dones dones s)
dones_hold s [] h meant fit = h
dones_hold s (d ∷ dones) h meant fit = dones_hold (after_done d s) dones (done_holds s d h meant.0 fit.0) meant.1 fit.1

pass_holds : (s : State) (only : Bool) (statement : Stmt) (changes : List Change) → Holds s → IsCarried statement → ChangesFit s.catalog s.rows changes
    → IsAcceptedPass s only statement → Holds (after_pass only statement changes s)
pass_holds s true statement changes h meant fit accepted = h
pass_holds s false statement changes h meant fit accepted =
    statement_holds (with_changes changes s) statement (changes_hold s changes h fit) meant.0 accepted.catalog

entry_holds : (s : State) (r : Recorded) → Holds s → IsRecorded r → FitsState s r → Holds (next s r)
unfolding next FitsState
entry_holds s (own changes) h meant fit = changes_hold s changes h fit
entry_holds s (taken user at dones) h meant fit = dones_hold s dones h meant fit.1
entry_holds s (ddl statement) h meant fit = statement_holds s statement h meant.0 fit.catalog
entry_holds s (sync user tables) h meant fit = h
entry_holds s (pass users only statement changes) h meant fit = pass_holds s only statement changes h meant fit.1 fit.2
entry_holds s (note user what) h meant fit = h

pub stays_held : (s : State) (place : ℕ) (r : Recorded) → Holds s → Fits s place r → Holds (next s r)
stays_held s place r h fit = entry_holds s r h fit.meant fit.state

pub held_from : (s : State) (place : ℕ) (rs : List Recorded) → Holds s → stored_from s place rs → Holds (state_from s rs)
held_from s place [] h stored = h
held_from s place (r ∷ rs) h stored = held_from (next s r) (place + (size r + 5)) rs (stays_held s place r h stored.0) stored.1

pub stored_holds : (publisher : Name) (rs : List Recorded) → Stored publisher rs → Holds (state_of publisher rs)
stored_holds publisher rs stored = held_from (fresh publisher) 0 rs (fresh_holds publisher) stored
