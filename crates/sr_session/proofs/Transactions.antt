-- The open transaction: closed, or rolled back.
use Rattle.std.proofs.Common.{◌≡◌, ◌<◌, ◌^◌, true, false, ℕ, List, [], ◌∷◌, ◌++◌, Option, Result, Ok, length, codes, refl, sym, ap, subst, ◌∙◌}
use Rattle.std.specs.Prelude.{◌≢◌, ◌==◌}
use Rattle.std.specs.List.{AllByRecursion}
use Rattle.std.proofs.lemmas.Bool.{eqb-true}
use Rattle.std.proofs.lemmas.List.{nil_from_length}
use Rattle.sr_ast.specs.declared.stmt.Passthrough.{Passthrough}
use Rattle.sr_database_history.specs.Folds.{State, with_changes, next}
use Rattle.sr_database_history.specs.Recorded.{own}
use Rattle.sr_logform.specs.Outcomes.{IsShortChange}
use Rattle.sr_logform.specs.declared.change.Change.{Change}
use Rattle.sr_logform.specs.declared.entry.Entry.TheVariants.{Own}
use Rattle.sr_site.specs.Seen.{Seen}
use Rattle.sr_database.specs.Inner.Commits.{CanCommit, CanCommitSome}
use Rattle.sr_database.specs.Advances.{Advances}
use Rattle.sr_database.proofs.Advancing.{none_advanced}
use Rattle.sr_database.specs.Views.{View, committed}
use Rattle.sr_session_script.specs.Acts.{nothing, rolled_back, line}
use Rattle.sr_session_script.specs.Meaning.{Stepped, goes, enters, closing, committing, committed as committed_step, rolled}
use Rattle.sr_session_script.specs.Works.{Work, closed}
use Rattle.sr_session.specs.Inner.Ready.{work_of}
use Rattle.sr_session.specs.Inner.Steps.{Took}
use Rattle.sr_session.specs.declared.fault.StepFault.{StepFault}
use Rattle.sr_session.proofs.Commits.{came_none}
use Rattle.sr_session.proofs.Quiet.{came_still}

abbrev closed_work : State → Option Passthrough → List Change → Work
closed_work s region changes = record { state = with_changes changes s; pending = []; region = region }

abbrev open_work : State → Option Passthrough → List Change → Work
open_work s region changes = record { state = s; pending = changes; region = region }

-- whether there are changes, as their number says
pub is_none : (changes : List Change) → true ≡ (length changes == 0) → changes ≡ []
is_none changes is = nil_from_length changes (eqb-true (length changes) 0 (sym is))

pub is_some : (changes : List Change) → false ≡ (length changes == 0) → changes ≢ []
is_some changes is none = let no : false ≡ true = is ∙ ap (λ (l : List Change). length l == 0) none in cc

-- nothing is open
pub closed_none : (view : View) (seen : Seen) (lines lines' : List ℕ) (region : Option Passthrough) → view.log.usable ≡ true → lines' ≡ lines → view.pending ≡ []
    → Took (goes (closing view.pending) (closed (work_of view region))) view view seen seen lines lines' region (Ok tt)
closed_none view seen lines lines' region usable same none = record {
  acts = [];
  is = subst (λ (p : List Change). goes (closing p) (closed_work (committed view) region p) ≡ goes [] (open_work (committed view) region p)) (sym none) refl;
  came = came_none view seen lines lines' usable same;
}

pub committed_none : (view : View) (seen : Seen) (lines lines' : List ℕ) (region : Option Passthrough) → view.log.usable ≡ true → lines' ≡ lines ++ line (codes "nothing to commit") → view.pending ≡ []
    → Took (committed_step (work_of view region)) view view seen seen lines lines' region (Ok tt)
committed_none view seen lines lines' region usable said none = record {
  acts = nothing ∷ [];
  is = subst (λ (p : List Change). goes (committing p) (closed_work (committed view) region p) ≡ goes (nothing ∷ []) (open_work (committed view) region p)) (sym none) refl;
  came = came_still view view seen lines lines' (nothing ∷ []) refl refl refl usable (none_advanced view) said;
}

-- something is open: it is one entry
own_closing : (s : State) (region : Option Passthrough) (changes : List Change) → changes ≢ []
    → goes (closing changes) (closed_work s region changes) ≡ enters (own changes) (open_work s region changes)
unfolding next
own_closing s region [] some = absurd (some refl)
own_closing s region (c ∷ changes) some = refl

own_committing : (s : State) (region : Option Passthrough) (changes : List Change) → changes ≢ []
    → goes (committing changes) (closed_work s region changes) ≡ enters (own changes) (open_work s region changes)
unfolding next
own_committing s region [] some = absurd (some refl)
own_committing s region (c ∷ changes) some = refl

pub closed_some : (old new : View) (first second : Seen) (lines lines' : List ℕ) (region : Option Passthrough) (result : Result (Unit {0}) StepFault) → old.pending ≢ []
    → Took (enters (own old.pending) (work_of old region)) old new first second lines lines' region result
    → Took (goes (closing old.pending) (closed (work_of old region))) old new first second lines lines' region result
closed_some old new first second lines lines' region result some took =
    subst (λ (m : Stepped). Took m old new first second lines lines' region result) (sym (own_closing (committed old) region old.pending some)) took

pub committed_some : (old new : View) (first second : Seen) (lines lines' : List ℕ) (region : Option Passthrough) (result : Result (Unit {0}) StepFault) → old.pending ≢ []
    → Took (enters (own old.pending) (work_of old region)) old new first second lines lines' region result
    → Took (committed_step (work_of old region)) old new first second lines lines' region result
committed_some old new first second lines lines' region result some took =
    subst (λ (m : Stepped). Took m old new first second lines lines' region result) (sym (own_committing (committed old) region old.pending some)) took

-- the changes of the open transaction may be committed
pub can_own : (view : View) (changes : List Change) → changes ≡ view.pending → length changes < 2 ^ 32 → AllByRecursion IsShortChange view.pending → view.pending ≢ []
    → CanCommit view (Own changes) (own changes)
can_own view changes same few short some = record {
  is = refl;
  meant = tt;
  short = record { items = (few, subst (λ (l : List Change). AllByRecursion IsShortChange l) (sym same) short); filled = λ none. some (sym same ∙ none) };
  follows = same;
}

pub can_own_some : (view : View) (changes : List Change) → changes ≡ view.pending → length changes < 2 ^ 32 → AllByRecursion IsShortChange view.pending → view.pending ≢ []
    → CanCommitSome view (Own changes)
can_own_some view changes same few short some = record { r = own changes; can = can_own view changes same few short some }

-- with the changes as a copy of the pending ones
pub took_own : (old new : View) (first second : Seen) (lines lines' : List ℕ) (region : Option Passthrough) (result : Result (Unit {0}) StepFault) (changes : List Change) → changes ≡ old.pending
    → Took (enters (own changes) (work_of old region)) old new first second lines lines' region result
    → Took (enters (own old.pending) (work_of old region)) old new first second lines lines' region result
took_own old new first second lines lines' region result changes same took =
    subst (λ (l : List Change). Took (enters (own l) (work_of old region)) old new first second lines lines' region result) same took

-- ROLLBACK
pub rolled_back_step : (old new : View) (seen : Seen) (lines lines' : List ℕ) (region : Option Passthrough) → old.log.usable ≡ true → new.log ≡ old.log → new.pending ≡ [] → committed new ≡ committed old
    → Advances old new [] → lines' ≡ lines ++ line (codes "rolled back")
    → Took (rolled (work_of old region)) old new seen seen lines lines' region (Ok tt)
rolled_back_step old new seen lines lines' region usable same none state keeps said = record {
  acts = rolled_back ∷ [];
  is = ap (λ (s : State). goes (rolled_back ∷ []) (open_work s region [])) (sym state) ∙ ap (λ (p : List Change). goes (rolled_back ∷ []) (open_work (committed new) region p)) (sym none);
  came = came_still old new seen lines lines' (rolled_back ∷ []) refl refl same usable keeps said;
}
