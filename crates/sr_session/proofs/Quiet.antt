-- Steps that commit no entry, and steps that stop before anything is done.
use Rattle.std.proofs.Common.{◌≡◌, true, ℕ, List, [], ◌∷◌, ◌++◌, Option, Result, Ok, Err, map, length, refl, sym, ap, subst}
use Rattle.sr_ast.specs.declared.stmt.Passthrough.{Passthrough}
use Rattle.sr_base.specs.declared.value.Value.{Value as Cell}
use Rattle.sr_site.specs.Seen.{Seen}
use Rattle.sr_database.specs.Advances.{Advances}
use Rattle.sr_database.specs.Views.{View}
use Rattle.sr_session_script.specs.Acts.{ScriptAct, row, rows, entries_of, end_behind, text_from}
use Rattle.sr_session_script.specs.Inner.Answers.{IsStop}
use Rattle.sr_session_script.specs.Meaning.{Stepped, then_step, listing}
use Rattle.sr_session_script.specs.declared.refusal.Refusal.{Refusal}
use Rattle.sr_session_script.specs.declared.refusal.Stop.{Stop}
use Rattle.sr_session_script.specs.declared.refusal.Stop.TheVariants as stop
use Rattle.sr_session.specs.Inner.Faults.{fault_of_stop}
use Rattle.sr_session.specs.Inner.Steps.{Came, Took}
use Rattle.sr_session.specs.declared.fault.StepFault.{StepFault}
use Rattle.sr_session.proofs.Commits.{came_none, took_none}
use Rattle.sr_session.proofs.Reaching.{reached_still}

-- acts without an entry
pub came_still : (old new : View) (seen : Seen) (lines lines' : List ℕ) (acts : List ScriptAct) → entries_of acts ≡ [] → end_behind old.log.end acts ≡ old.log.end
    → new.log ≡ old.log → old.log.usable ≡ true → Advances old new []
    → lines' ≡ lines ++ text_from old.log.end acts → Came old new seen seen lines lines' acts []
came_still old new seen lines lines' acts none ends same usable on said = record {
  reached = reached_still old new seen acts none ends same usable on;
  said = said;
}

-- rows are no entries
rows_none : (found : List (List Cell)) (count : ℕ) → entries_of (map row found ++ rows count ∷ []) ≡ []
rows_none [] count = refl
rows_none (values ∷ found) count = rows_none found count

pub listing_none : (found : List (List Cell)) → entries_of (listing found) ≡ []
listing_none found = rows_none found (length found)

rows_end : (place : ℕ) (found : List (List Cell)) (count : ℕ) → end_behind place (map row found ++ rows count ∷ []) ≡ place
rows_end place [] count = refl
rows_end place (values ∷ found) count = rows_end place found count

pub listing_ends : (place : ℕ) (found : List (List Cell)) → end_behind place (listing found) ≡ place
listing_ends place found = rows_end place found (length found)

-- what stops a statement before anything is done
pub took_stop : {A : Type 0} (meant : Result A Refusal) (step : A → Stepped) (view : View) (seen : Seen) (lines lines' : List ℕ) (region : Option Passthrough) (why : Stop)
    → view.log.usable ≡ true → lines' ≡ lines → IsStop meant why → Took (then_step meant step) view view seen seen lines lines' region (Err (fault_of_stop why))
took_stop meant step view seen lines lines' region (stop.Refused fault) usable same is =
    record { acts = []; is = ap (λ m. then_step m step) is; came = came_none view seen lines lines' usable same }
took_stop meant step view seen lines lines' region stop.Memory usable same is = took_none (then_step meant step) view seen lines lines' region usable same

-- what is done of a statement that comes to something
pub took_ok : {A : Type 0} (meant : Result A Refusal) (step : A → Stepped) (x : A) (old new : View) (first second : Seen) (lines lines' : List ℕ) (region : Option Passthrough)
    (result : Result (Unit {0}) StepFault) → meant ≡ Ok x → Took (step x) old new first second lines lines' region result
    → Took (then_step meant step) old new first second lines lines' region result
took_ok meant step x old new first second lines lines' region result is took =
    subst (λ m. Took (then_step m step) old new first second lines lines' region result) (sym is) took
