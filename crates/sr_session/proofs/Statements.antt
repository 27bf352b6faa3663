-- INSERT, UPDATE, DELETE and SELECT.
use Rattle.std.proofs.Common.{◌≡◌, true, ℕ, List, [], ◌∷◌, ◌++◌, Option, Result, Ok, Err, codes, refl, sym, ap, subst, ◌∙◌}
use Rattle.std.specs.Fmt.{decimal}
use Rattle.std.proofs.lemmas.List.{append-nil}
use Rattle.sr_ast.specs.declared.query.Dml.{Dml}
use Rattle.sr_ast.specs.declared.query.Select.{Select}
use Rattle.sr_ast.specs.declared.stmt.Passthrough.{Passthrough}
use Rattle.sr_base.specs.declared.value.Value.{Value as Cell}
use Rattle.sr_exec_dml.specs.Fitting.{RowsFit}
use Rattle.sr_exec_dml.specs.FittingChanges.{ChangesFit}
use Rattle.sr_exec_dml.proofs.Applied.{statements_changes_fit}
use Rattle.sr_exec_dml.specs.Statements.{done}
use Rattle.sr_exec_dml.specs.declared.changes.Changes.{Changes}
use Rattle.sr_database_history.specs.Folds.{State}
use Rattle.sr_logform.specs.declared.change.Change.{Change}
use Rattle.sr_catalog_schema.specs.declared.fault.DmlFault.{DmlFault}
use Rattle.sr_site.specs.Seen.{Seen}
use Rattle.sr_database.specs.Advances.{Advances}
use Rattle.sr_database.specs.Inner.Sound.{IsSound}
use Rattle.sr_database.proofs.Advancing.{none_advanced}
use Rattle.sr_database.specs.Views.{View, committed}
use Rattle.sr_database.specs.Inner.Views.{present}
use Rattle.sr_session_script.specs.Acts.{rows, line, text_from}
use Rattle.sr_session_script.specs.Inner.Answers.{IsStop}
use Rattle.sr_session_script.specs.Meaning.{Stepped, goes, unless_dml, changes_by, rows_by, then_step, executed, answered, with_pending, listing}
use Rattle.sr_session_script.specs.Works.{Work, visible}
use Rattle.sr_session_script.specs.declared.refusal.Stop.{Stop}
use Rattle.sr_session.specs.Inner.Faults.{fault_of_stop}
use Rattle.sr_session.specs.Inner.Ready.{work_of}
use Rattle.sr_session.specs.Inner.Steps.{Took}
use Rattle.sr_session.specs.declared.fault.StepFault.TheVariants.{Memory}
use Rattle.sr_session.proofs.Quiet.{came_still, listing_none, listing_ends, took_stop}
use Rattle.sr_session.proofs.States.{present_is}

unless_done : {A : Type 0} (meant : Result A DmlFault) (x : A) → unless_dml meant ≡ Ok x → meant ≡ Ok x
unless_done {A} (Ok y) x is = ap (λ (z : A). Ok z) (let same : y ≡ x = cc in same)
unless_done (Err fault) x is = absurd (let no : unless_dml (Err fault) ≡ Ok x = is in cc)

-- the changes of a statement fit the rows
pub changes_fit : (view : View) (d : Dml) (changes : Changes) → RowsFit view.catalog view.rows.rows → changes_by (present view) d ≡ Ok changes
    → ChangesFit view.catalog view.rows.rows changes.list
changes_fit view d changes fit is = statements_changes_fit view.catalog view.rows.rows d changes fit (unless_done (done view.catalog view.rows.rows d) changes is)

abbrev counting : Work → Changes → Stepped
counting w c = goes (rows c.count ∷ []) (with_pending c.list w)

abbrev work_with : Option Passthrough → State → List Change → Work
work_with region s p = record { state = s; pending = p; region = region }

-- a statement that is refused, or has no memory
pub executed_stop : (view : View) (seen : Seen) (lines lines' : List ℕ) (region : Option Passthrough) (d : Dml) (why : Stop) → view.log.usable ≡ true → IsSound view → lines' ≡ lines
    → IsStop (changes_by (present view) d) why → Took (executed (work_of view region) d) view view seen seen lines lines' region (Err (fault_of_stop why))
executed_stop view seen lines lines' region d why usable sound same is =
    took_stop (changes_by (visible (work_of view region)) d) (counting (work_of view region)) view seen lines lines' region why usable same
    (subst (λ (s : State). IsStop (changes_by s d) why) (sym (present_is view sound)) is)

-- a statement whose changes are pending
pub executed_done : (old new : View) (seen : Seen) (lines lines' : List ℕ) (region : Option Passthrough) (d : Dml) (changes : Changes) → old.log.usable ≡ true → IsSound old
    → changes_by (present old) d ≡ Ok changes → new.log ≡ old.log → new.pending ≡ old.pending ++ changes.list
    → Advances old new [] → lines' ≡ lines ++ line (decimal changes.count ++ codes " rows")
    → Took (executed (work_of old region) d) old new seen seen lines lines' region (Ok tt)
executed_done old new seen lines lines' region d changes usable sound is same pending on said = record {
  acts = rows changes.count ∷ [];
  is =
      ap (λ (s : State). then_step (changes_by s d) (counting (work_of old region))) (present_is old sound)
      ∙ ap (λ m. then_step m (counting (work_of old region))) is
      ∙ ap (λ (s : State). goes (rows changes.count ∷ []) (work_with region s (old.pending ++ changes.list))) (sym on.state)
      ∙ ap (λ (p : List Change). goes (rows changes.count ∷ []) (work_with region (committed new) p)) (sym pending);
  came = came_still old new seen lines lines' (rows changes.count ∷ []) refl refl same usable on (said ∙ ap (λ l. lines ++ l) (sym (append-nil (line (decimal changes.count ++ codes " rows")))));
}

-- its changes are pending, but there is no memory for its line
pub executed_short : (old new : View) (seen : Seen) (lines lines' : List ℕ) (region : Option Passthrough) (d : Dml) → old.log.usable ≡ true → new.log ≡ old.log
    → Advances old new [] → lines' ≡ lines
    → Took (executed (work_of old region) d) old new seen seen lines lines' region (Err Memory)
executed_short old new seen lines lines' region d usable same on lines_same = record {
  acts = [];
  prefix = (_, refl);
  came = came_still old new seen lines lines' [] refl refl same usable on (lines_same ∙ sym (append-nil lines));
}

-- SELECT
abbrev listed : Work → List (List Cell) → Stepped
listed w found = goes (listing found) w

pub answered_stop : (view : View) (seen : Seen) (lines lines' : List ℕ) (region : Option Passthrough) (q : Select) (why : Stop) → view.log.usable ≡ true → IsSound view → lines' ≡ lines
    → IsStop (rows_by (present view) q) why → Took (answered (work_of view region) q) view view seen seen lines lines' region (Err (fault_of_stop why))
answered_stop view seen lines lines' region q why usable sound same is =
    took_stop (rows_by (visible (work_of view region)) q) (listed (work_of view region)) view seen lines lines' region why usable same
    (subst (λ (s : State). IsStop (rows_by s q) why) (sym (present_is view sound)) is)

pub answered_done : (view : View) (seen : Seen) (lines lines' : List ℕ) (region : Option Passthrough) (q : Select) (found : List (List Cell)) → view.log.usable ≡ true → IsSound view
    → rows_by (present view) q ≡ Ok found → lines' ≡ lines ++ text_from view.log.end (listing found)
    → Took (answered (work_of view region) q) view view seen seen lines lines' region (Ok tt)
answered_done view seen lines lines' region q found usable sound is said = record {
  acts = listing found;
  is = ap (λ (s : State). then_step (rows_by s q) (listed (work_of view region))) (present_is view sound) ∙ ap (λ m. then_step m (listed (work_of view region))) is;
  came = came_still view view seen lines lines' (listing found) (listing_none found) (listing_ends view.log.end found) refl usable (none_advanced view) said;
}
