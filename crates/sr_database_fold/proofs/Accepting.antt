-- Accepted statements, by what the catalog and the rows say of them.
use Rattle.std.proofs.Common.{◌≡◌, ◌↔◌, Bool, true, false, None, Result, Ok, Err, IfOk, IsTrue, refl, sym, subst}
use Rattle.sr_ast.specs.declared.stmt.Stmt.{Stmt}
use Rattle.sr_catalog_change.specs.Changes.{refusal}
use Rattle.sr_exec_dml.specs.declared.changes.Changes.{Changes}
use Rattle.sr_database_history.specs.Fitting.{HasChanges, RowsAllow, IsAccepted}
use Rattle.sr_database_history.specs.Folds.{State}
use Rattle.sr_catalog_schema.specs.declared.fault.DmlFault.{DmlFault}
use Rattle.sr_database_fold.proofs.Changing.{ok_as}

-- the catalog refuses it
pub refused_told : (s : State) (statement : Stmt) → ¬ (refusal s.catalog statement ≡ None) → IsTrue false ↔ IsAccepted s statement
refused_told s statement never = (λ e. cc, λ a. absurd (never a.catalog))

-- the catalog does not, so the rows tell
accepted_as : (s : State) (statement : Stmt) (possible : Bool) → refusal s.catalog statement ≡ None → IsTrue possible ↔ RowsAllow s statement
    → IsTrue possible ↔ IsAccepted s statement
accepted_as s statement possible allowed same = (λ e. record { catalog = allowed; rows = same.0 e }, λ a. same.1 a.rows)

pub allowed_told : {E : Type 0} (s : State) (statement : Stmt) (r : Result Bool E) → refusal s.catalog statement ≡ None
    → IfOk r (λ possible. IsTrue possible ↔ RowsAllow s statement) → IfOk r (λ accepted. IsTrue accepted ↔ IsAccepted s statement)
allowed_told s statement r allowed h = ok_as r (λ possible. accepted_as s statement possible allowed) h

-- there are changes
pub done_here : (answer : Result Changes DmlFault) (changes : Changes) → answer ≡ Ok changes → IsTrue true ↔ HasChanges answer
done_here answer changes is = (λ e. subst (λ (r : Result Changes DmlFault). HasChanges r) (sym is) tt, λ h. refl)

-- there is a refusal
pub refused_here : (answer : Result Changes DmlFault) (fault : DmlFault) → answer ≡ Err fault → IsTrue false ↔ HasChanges answer
refused_here answer fault is = (λ e. cc, λ h. absurd (subst (λ (r : Result Changes DmlFault). HasChanges r) is h))
