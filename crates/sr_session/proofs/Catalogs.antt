-- Statements on the catalog, outside a region.
use Rattle.std.proofs.Common.{◌≡◌, ◌<◌, ◌^◌, true, false, ℕ, List, [], ◌∷◌, ◌++◌, Option, Some, None, Result, Ok, Err, length, codes, refl, sym, ap, subst}
use Rattle.std.specs.Prelude.{IsTrue}
use Rattle.sr_ast.specs.Layout.{printed}
use Rattle.sr_ast.specs.Statements.{is_ddl}
use Rattle.sr_ast.specs.declared.stmt.Passthrough.{Passthrough}
use Rattle.sr_ast.specs.declared.stmt.Stmt.{Stmt}
use Rattle.sr_ast.specs.declared.stmt.Stmt.TheVariants as stmt
use Rattle.sr_catalog_change.specs.Changes.{refusal}
use Rattle.sr_database_history.specs.Fitting.{FitsState, IsAccepted}
use Rattle.sr_database_history.specs.Fitting.{RowsAllow as IsDoneBy}
use Rattle.sr_database_history.specs.Folds.{State}
use Rattle.sr_database_history.specs.Recorded.{ddl, IsDdl}
use Rattle.sr_logform.specs.declared.entry.Entry.TheVariants.{Ddl}
use Rattle.sr_catalog_schema.specs.Catalogs.{Lists}
use Rattle.sr_catalog_schema.specs.declared.fault.DdlFault.{DdlFault}
use Rattle.sr_site.specs.Seen.{Seen}
use Rattle.sr_database.specs.Inner.Commits.{CanCommit, CanCommitSome}
use Rattle.sr_database.proofs.Advancing.{none_advanced}
use Rattle.sr_database.specs.Views.{View, committed}
use Rattle.sr_session_script.specs.Acts.{nothing, line}
use Rattle.sr_session_script.specs.Meaning.{enters, unless_ddl, accepted, recorded, changed, is_done_already}
use Rattle.sr_session_script.specs.Inner.Answers.{IsStop}
use Rattle.sr_session_script.specs.declared.refusal.Stop.{Stop}
use Rattle.sr_session.specs.Inner.Faults.{fault_of_stop}
use Rattle.sr_session.specs.Inner.Ready.{work_of}
use Rattle.sr_session.specs.Inner.Steps.{Took}
use Rattle.sr_session.specs.declared.fault.StepFault.{StepFault}
use Rattle.sr_session.proofs.Quiet.{came_still, took_ok, took_stop}

-- a statement that is accepted has nothing that refuses it
unless_ok : (fault : Option DdlFault) → unless_ddl fault ≡ Ok tt → fault ≡ None
unless_ok None is = refl
unless_ok (Some fault) is = absurd (let no : unless_ddl (Some fault) ≡ Ok tt = is in cc)

pub none_refuses : (c : Lists) (s : Stmt) → accepted c s ≡ Ok tt → refusal c s ≡ None
none_refuses c s is = unless_ok (refusal c s) is

-- the rows refuse no statement on the catalog
rows_accept : (s : State) (statement : Stmt) → IsTrue (is_ddl statement) → IsDoneBy s statement
rows_accept s (stmt.Dml d) is = absurd (let no : false ≡ true = is in cc)
rows_accept s _ is = tt

pub accepts : (s : State) (statement : Stmt) → IsDdl statement → accepted s.catalog statement ≡ Ok tt → IsAccepted s statement
accepts s statement meant fine = record { catalog = none_refuses s.catalog statement fine; rows = rows_accept s statement meant.1 }

pub can_ddl : (view : View) (s : Stmt) (text : List ℕ) → view.pending ≡ [] → IsDdl s → text ≡ printed s → length text < 2 ^ 32 → accepted view.catalog s ≡ Ok tt
    → CanCommit view (Ddl text) (ddl s)
unfolding FitsState
can_ddl view s text none meant is short fine = record {
  is = ap (λ (t : List ℕ). Ddl t) (sym is);
  meant = meant;
  short = short;
  follows = (none, accepts (committed view) s meant fine);
}

pub can_ddl_some : (view : View) (s : Stmt) (text : List ℕ) → view.pending ≡ [] → IsDdl s → text ≡ printed s → length text < 2 ^ 32 → accepted view.catalog s ≡ Ok tt
    → CanCommitSome view (Ddl text)
can_ddl_some view s text none meant is short fine = record { r = ddl s; can = can_ddl view s text none meant is short fine }

-- one that the catalog refuses, or for which there is no memory
pub changed_stop : (view : View) (seen : Seen) (lines : List ℕ) (region : Option Passthrough) (s : Stmt) (why : Stop) → view.log.usable ≡ true → IsStop (accepted view.catalog s) why
    → Took (changed s (work_of view region)) view view seen seen lines lines region (Err (fault_of_stop why))
changed_stop view seen lines region s why usable is =
    took_stop (accepted view.catalog s) (λ _. recorded (is_done_already view.catalog s) s (work_of view region)) view seen lines lines region why usable refl is

-- a START of a started subscription
pub changed_already : (view : View) (seen : Seen) (lines lines' : List ℕ) (region : Option Passthrough) (s : Stmt) → view.log.usable ≡ true → accepted view.catalog s ≡ Ok tt
    → is_done_already view.catalog s ≡ true → lines' ≡ lines ++ line (codes "nothing to commit")
    → Took (changed s (work_of view region)) view view seen seen lines lines' region (Ok tt)
changed_already view seen lines lines' region s usable fine is said =
    took_ok (accepted view.catalog s) (λ _. recorded (is_done_already view.catalog s) s (work_of view region)) tt view view seen seen lines lines' region (Ok tt) fine (record {
      acts = nothing ∷ [];
      is = ap (λ b. recorded b s (work_of view region)) is;
      came = came_still view view seen lines lines' (nothing ∷ []) refl refl refl usable (none_advanced view) said;
    })

-- any other is an entry
pub changed_entry : (old new : View) (first second : Seen) (lines lines' : List ℕ) (region : Option Passthrough) (s : Stmt) (result : Result (Unit {0}) StepFault) → accepted old.catalog s ≡ Ok tt
    → is_done_already old.catalog s ≡ false → Took (enters (ddl s) (work_of old region)) old new first second lines lines' region result
    → Took (changed s (work_of old region)) old new first second lines lines' region result
changed_entry old new first second lines lines' region s result fine is took =
    took_ok (accepted old.catalog s) (λ _. recorded (is_done_already old.catalog s) s (work_of old region)) tt old new first second lines lines' region result fine
    (subst (λ b. Took (recorded b s (work_of old region)) old new first second lines lines' region result) (sym is) took)
