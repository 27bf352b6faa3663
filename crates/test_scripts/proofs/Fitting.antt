-- Rows that fit a catalog, and what is done to both.
use Rattle.std.proofs.Common.{◌≡◌, [], List, Ok, None, sym, ap, subst, ◌∙◌}
use Rattle.std.specs.FinMap as map_of
use Rattle.sr_ast.specs.declared.query.Dml.{Dml}
use Rattle.sr_ast.specs.declared.stmt.Stmt.{Stmt}
use Rattle.sr_catalog_change.specs.Changes.{refusal, next}
use Rattle.sr_exec_dml.specs.Applying.{applied}
use Rattle.sr_exec_dml.specs.Fitting.{RowsFit}
use Rattle.sr_exec_dml.specs.Inner.Laws.{NoRowsFit, RowsStayFit}
use Rattle.sr_exec_dml.specs.Statements.{done}
use Rattle.sr_exec_dml.specs.declared.changes.Changes.{Changes}
use Rattle.sr_database_history.specs.Folds.{rows_left}
use Rattle.sr_database_history.proofs.Tables.{statement_keeps}
use Rattle.sr_logform.specs.declared.change.Change.{Change}
use Rattle.sr_rows.specs.Marks.{Marked, RowMap}
use Rattle.sr_rows.specs.Inner.Steps.{at_mark}
use Rattle.sr_catalog_schema.specs.Catalogs.{Lists}

-- the same rows
pub fit_same : (catalog : Lists) (old new : RowMap) → RowsFit catalog old → new ≡ old → RowsFit catalog new
fit_same catalog old new fit same = subst (λ (m : RowMap). RowsFit catalog m) (sym same) fit

-- no rows
pub fit_none : (catalog : Lists) (rows : RowMap) → NoRowsFit → rows ≡ map_of.empty → RowsFit catalog rows
fit_none catalog rows law none = subst (λ (m : RowMap). RowsFit catalog m) (sym none) (law catalog)

-- the changes of a statement were applied
pub fit_changed : (catalog : Lists) (old new : RowMap) (d : Dml) (changes : Changes) (list : List Change) → RowsStayFit → RowsFit catalog old
    → done catalog old d ≡ Ok changes → list ≡ changes.list → new ≡ applied catalog list old → RowsFit catalog new
fit_changed catalog old new d changes list law fit answer same is =
    subst (λ (m : RowMap). RowsFit catalog m) (sym (is ∙ ap (λ (l : List Change). applied catalog l old) same)) (law catalog old d changes fit answer)

-- the mark was set
pub at_mark_again : (old new : Marked) → new.rows ≡ old.rows → new.marked ≡ old.rows → new.trail ≡ [] → new ≡ at_mark new.rows
at_mark_again old new rows marked trail = λ i. record { rows = new.rows; marked = (marked ∙ sym rows) i; trail = trail i }

left_fit : (old new : Lists) (s : Stmt) (before rows : RowMap) → refusal old s ≡ None → RowsFit old before → new ≡ next old s → rows ≡ before → RowsFit new (rows_left s rows)
left_fit old new s before rows accepted fit is same =
    subst (λ (c : Lists). RowsFit c (rows_left s rows)) (sym is) (subst (λ (m : RowMap). RowsFit (next old s) (rows_left s m)) (sym same) (statement_keeps s old before accepted fit))

-- a statement was accepted that the catalog does not refuse
pub fit_behind : (old new : Lists) (s : Stmt) (before rows : RowMap) (left : Marked) → refusal old s ≡ None → RowsFit old before → new ≡ next old s
    → rows ≡ before → left ≡ at_mark (rows_left s rows) → RowsFit new left.rows
fit_behind old new s before rows left accepted fit is same at = subst (λ (m : Marked). RowsFit new m.rows) (sym at) (left_fit old new s before rows accepted fit is same)

pub marked_behind : (old new : Lists) (s : Stmt) (before rows : RowMap) (left : Marked) → refusal old s ≡ None → RowsFit old before → new ≡ next old s
    → rows ≡ before → left ≡ at_mark (rows_left s rows) → RowsFit new left.marked
marked_behind old new s before rows left accepted fit is same at = subst (λ (m : Marked). RowsFit new m.marked) (sym at) (left_fit old new s before rows accepted fit is same)
