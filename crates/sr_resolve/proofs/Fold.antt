-- The ops of a transaction, one after the other.
use Rattle.std.proofs.Common.{◌≡◌, ◌++◌, Bool, map, List, [], ◌∷◌, refl, sym, ap, subst, ◌∙◌}
use Rattle.std.specs.Prelude.{◌↔◌}
use Rattle.std.specs.List.{AllByRecursion}
use Rattle.sr_base.specs.declared.offset.Offset.{Offset}
use Rattle.sr_book.specs.Entries.{Name}
use Rattle.sr_exec_dml.specs.Fitting.{RowsFit}
use Rattle.sr_exec_dml.proofs.Applied.{fitting_changes_keep}
use Rattle.sr_database_history.specs.Fitting.{Knows, DoneFits, DonesFit, FitsState}
use Rattle.sr_database_history.specs.Folds.{State, with_changes, with_statement, done_changes, after_done, after_dones, next}
use Rattle.sr_database_history.specs.Recorded.{Done, plain, ran, conflict, clash, taken, IsLawfulDone, IsRecorded}
use Rattle.sr_database_history.proofs.Tables.{statement_keeps}
use Rattle.sr_logform.specs.declared.op.Op.{Op}
use Rattle.sr_resolve.specs.Taking.{op_of, done_judged, IsDoneJudged, AreJudged, is_above}
use Rattle.sr_resolve.specs.Inner.Taking.{Asked, IsAsked, judged_all, after_judged}
use Rattle.sr_resolve.proofs.Once.{one_statement}
use Rattle.sr_resolve.proofs.Sound.{judged_fits, judged_meant, judged_stands}

-- rows that fit go on to fit behind what is done
rows_kept : (s : State) (d : Done) → RowsFit s.catalog s.rows → DoneFits s d → RowsFit (after_done d s).catalog (after_done d s).rows
unfolding with_statement
rows_kept s (plain o changes) h fit = fitting_changes_keep s.catalog s.rows changes h fit.changes
rows_kept s (ran statement changes) h fit =
    statement_keeps statement s.catalog (with_changes changes s).rows fit.outcome.catalog (fitting_changes_keep s.catalog s.rows changes h fit.changes)
rows_kept s (conflict o inserts before after) h fit = fitting_changes_keep s.catalog s.rows (done_changes (conflict o inserts before after)) h fit.changes
rows_kept s (clash o why) h fit = h

-- the op of what is done is the one that was asked for
op_asked : (s : State) (above : Bool) (a : Asked) → IsAsked a → op_of (done_judged s above a.0 a.1) ≡ a.0
op_asked s above a asked = ap (λ p. p.0) (judged_stands s above a.0 a.1 asked)

pub ops_asked : (s : State) (above : Bool) (asked : List Asked) → AllByRecursion IsAsked asked
    → map op_of (judged_all s above asked) ≡ map (λ (a : Asked). a.0) asked
ops_asked s above [] h = refl
ops_asked s above (a ∷ asked) h =
    let head = op_asked s above a h.0 in
    let rest = ops_asked (after_done (done_judged s above a.0 a.1) s) above asked h.1 in
    λ i. head i ∷ rest i

pub all_fit : (s : State) (above : Bool) (asked : List Asked) → RowsFit s.catalog s.rows → AllByRecursion IsAsked asked → DonesFit s (judged_all s above asked)
all_fit s above [] fits h = tt
all_fit s above (a ∷ asked) fits h =
    let one = judged_fits s above a.0 a.1 fits h.0 in
    (one, all_fit (after_done (done_judged s above a.0 a.1) s) above asked (rows_kept s (done_judged s above a.0 a.1) fits one) h.1)

all_meant : (s : State) (above : Bool) (asked : List Asked) → AllByRecursion IsAsked asked → AllByRecursion IsLawfulDone (judged_all s above asked)
all_meant s above [] h = tt
all_meant s above (a ∷ asked) h = (judged_meant s above a.0 a.1 h.0, all_meant (after_done (done_judged s above a.0 a.1) s) above asked h.1)

pub entry_fits : (s : State) (user : Name) (at : Offset) (above : Bool) (asked : List Asked) → RowsFit s.catalog s.rows
    → AllByRecursion IsAsked asked → Knows s user
    → FitsState s (taken user at (judged_all s above asked))
unfolding FitsState
entry_fits s user at above asked fits h known = (known, all_fit s above asked fits h)

pub entry_meant : (s : State) (user : Name) (at : Offset) (above : Bool) (asked : List Asked) → AllByRecursion IsAsked asked
    → IsRecorded (taken user at (judged_all s above asked))
entry_meant s user at above asked h = all_meant s above asked h

-- ---- stored outcomes

pub all_judged : (s : State) (above : Bool) (asked : List Asked) → AllByRecursion IsAsked asked → AreJudged s above (judged_all s above asked)
all_judged s above [] h = tt
all_judged s above (a ∷ asked) h =
    let d = done_judged s above a.0 a.1 in
    let same = op_asked s above a h.0 in
    let one : IsDoneJudged s above d = record {
      statement = a.1;
      carried = subst (λ (o : Op). IsAsked (o, a.1)) (sym same) h.0;
      done_is = ap (λ (o : Op). done_judged s above o a.1) (sym same);
    } in
    (one, all_judged (after_done d s) above asked h.1)

-- what is done with an op is what judging does
one_judged : (s : State) (above : Bool) (a : Asked) (d : Done) → IsAsked a → IsDoneJudged s above d → op_of d ≡ a.0 → d ≡ done_judged s above a.0 a.1
one_judged s above a d asked j same =
    let carried : IsAsked (a.0, j.statement) = subst (λ (o : Op). IsAsked (o, j.statement)) same j.carried in
    j.done_is ∙ ap (λ (o : Op). done_judged s above o j.statement) same ∙ ap (done_judged s above a.0) (one_statement a.0 j.statement a.1 carried asked)

pub only_judged : (s : State) (above : Bool) (asked : List Asked) (dones : List Done) → AllByRecursion IsAsked asked → AreJudged s above dones
    → map op_of dones ≡ map (λ (a : Asked). a.0) asked → dones ≡ judged_all s above asked
only_judged s above [] [] h j same = refl
only_judged s above [] (d ∷ dones) h j same = cc
only_judged s above (a ∷ asked) [] h j same = cc
only_judged s above (a ∷ asked) (d ∷ dones) h j same =
    let head : op_of d ≡ a.0 = cc in
    let tail : map op_of dones ≡ map (λ (x : Asked). x.0) asked = cc in
    let one = one_judged s above a d h.0 j.0 head in
    let rest = only_judged (after_done d s) above asked dones h.1 j.1 tail ∙ ap (λ (x : Done). judged_all (after_done x s) above asked) one in
    λ i. one i ∷ rest i

pub same_state : (s : State) (above : Bool) (asked : List Asked) → after_judged s above asked ≡ after_dones (judged_all s above asked) s
same_state s above [] = refl
same_state s above (a ∷ asked) = same_state (after_done (done_judged s above a.0 a.1) s) above asked

pub same_next : (s : State) (user : Name) (at : Offset) (asked : List Asked) (dones : List Done) → AllByRecursion IsAsked asked
    → AreJudged s (is_above s user) dones
    → map op_of dones ≡ map (λ (a : Asked). a.0) asked → next s (taken user at dones) ≡ after_judged s (is_above s user) asked
unfolding next
same_next s user at asked dones h j same =
    ap (λ (ds : List Done). after_dones ds s) (only_judged s (is_above s user) asked dones h j same) ∙ sym (same_state s (is_above s user) asked)

judged_more : (s : State) (above : Bool) (dones : List Done) (d : Done) → AreJudged s above dones → IsDoneJudged (after_dones dones s) above d
    → AreJudged s above (dones ++ d ∷ [])
judged_more s above [] d j one = (one, tt)
judged_more s above (x ∷ dones) d j one = (j.0, judged_more (after_done x s) above dones d j.1 one)

judged_less : (s : State) (above : Bool) (dones : List Done) (d : Done) → AreJudged s above (dones ++ d ∷ [])
    → AreJudged s above dones × IsDoneJudged (after_dones dones s) above d
judged_less s above [] d j = (tt, j.0)
judged_less s above (x ∷ dones) d j = let rest = judged_less (after_done x s) above dones d j.1 in ((j.0, rest.0), rest.1)

pub one_more : (s : State) (above : Bool) (dones : List Done) (d : Done)
    → AreJudged s above (dones ++ d ∷ []) ↔ (AreJudged s above dones × IsDoneJudged (after_dones dones s) above d)
one_more s above dones d = (judged_less s above dones d, λ both. judged_more s above dones d both.0 both.1)
