-- Ops that were taken: what their outcomes say was done.
use Rattle.std.proofs.Common.{◌≡◌, ℕ, Bool, true, false, List, [], ◌∷◌, ◌++◌, length, map, refl, sym, ap, subst, ◌∙◌}
use Rattle.sr_base.specs.declared.value.Value.{Value as Cell}
use Rattle.sr_ast.specs.Layout.{printed}
use Rattle.sr_ast.specs.declared.stmt.Stmt.{Stmt}
use Rattle.sr_book.specs.Entries.{Name}
use Rattle.sr_exec_dml.specs.Applying.{applied}
use Rattle.sr_exec_dml.specs.Fitting.{RowsFit}
use Rattle.sr_exec_dml.specs.FittingChanges.{ChangesFit}
use Rattle.sr_exec_dml.proofs.Applied.{fitting_changes_keep}
use Rattle.sr_database_history.specs.Fitting.{DoneFits}
use Rattle.sr_database_history.specs.Folds.{State, with_statement, done_changes, after_done, after_dones}
use Rattle.sr_database_history.specs.Recorded.{Done, plain, ran, conflict, clash, done_of, IsNoExec, IsSet}
use Rattle.sr_database_history.proofs.Once.{done_once}
use Rattle.sr_database_history.proofs.Tables.{statement_keeps}
use Rattle.sr_logform.specs.declared.change.Change.{Change}
use Rattle.sr_logform.specs.declared.op.Op.{Op}
use Rattle.sr_logform.specs.declared.op.Op.TheVariants as ops
use Rattle.sr_logform.specs.declared.outcome.Clash.{Clash}
use Rattle.sr_logform.specs.declared.outcome.Outcome.{Outcome}
use Rattle.sr_logform.specs.declared.outcome.Outcome.TheVariants as outcomes
use Rattle.sr_rows.specs.Marks.{Marked}
use Rattle.sr_catalog_schema.specs.Catalogs.{Lists}
use Rattle.sr_database_fold.specs.Inner.Answers.{Tells, TellsOne}
use Rattle.sr_database_fold.specs.Inner.Movements.{change_of}
use Rattle.sr_database_fold.specs.Inner.Deeds.{DoesFit, DoFit}
use Rattle.sr_database_fold.specs.Inner.Parts.{RunsHere, after_run, ConflictFits}
use Rattle.sr_database_fold.specs.Inner.Readings.{state_in}
use Rattle.sr_database_fold.specs.Inner.Told.{OpTold, OpsTold}

-- ---- what is told of one op

op_is : (d : Done) (op : Op) (outcome : Outcome) → done_of d ≡ (op, outcome) → (done_of d).0 ≡ op
op_is d op outcome is = ap (λ (p : Op × Outcome). p.0) is

outcome_is : (d : Done) (op : Op) (outcome : Outcome) → done_of d ≡ (op, outcome) → (done_of d).1 ≡ outcome
outcome_is d op outcome is = ap (λ (p : Op × Outcome). p.1) is

-- whatever was done with these changes, they fit
plain_fits : (s : State) (op : Op) (changes : List Change) (d : Done) → DoesFit s op (outcomes.Plain changes) d → ChangesFit s.catalog s.rows changes
plain_fits s op changes (plain p cs) f = let e = outcome_is (plain p cs) op (outcomes.Plain changes) f.is in let same : cs ≡ changes = cc in
    subst (λ (l : List Change). ChangesFit s.catalog s.rows l) same f.fits.changes
plain_fits s op changes (ran statement cs) f = let e = outcome_is (ran statement cs) op (outcomes.Plain changes) f.is in let same : cs ≡ changes = cc in
    subst (λ (l : List Change). ChangesFit s.catalog s.rows l) same f.fits.changes
plain_fits s op changes (conflict p inserts before after) f = let e = outcome_is (conflict p inserts before after) op (outcomes.Plain changes) f.is in cc
plain_fits s op changes (clash p why) f = let e = outcome_is (clash p why) op (outcomes.Plain changes) f.is in cc

pub plain_told : (s after : State) (op : Op) (changes : List Change) (told : Bool) → IsNoExec op → after.catalog ≡ s.catalog
    → Tells (ChangesFit s.catalog s.rows changes) (after.rows ≡ applied s.catalog changes s.rows) told
    → TellsOne (DoesFit s op (outcomes.Plain changes)) (λ d. after_done d s) after told
plain_told s after op changes true no_exec same h = (
  plain op changes,
  record { is = refl; meant = no_exec; fits = record { changes = h.0; outcome = tt } },
  (λ i. record { catalog = same i; rows = h.1 i }),
)
plain_told s after op changes false no_exec same h = λ d f. h (plain_fits s op changes d f)

-- an Exec runs
pub run_of : (s : State) (text : List ℕ) (changes : List Change) (d : Done) → DoesFit s (ops.Exec text) (outcomes.Plain changes) d
    → (statement : Stmt) × RunsHere s text changes statement × (d ≡ ran statement changes)
run_of s text changes (plain p cs) f = let e = op_is (plain p cs) (ops.Exec text) (outcomes.Plain changes) f.is in absurd (subst (λ (o : Op). IsNoExec o) e f.meant)
run_of s text changes (ran statement cs) f =
    let e = op_is (ran statement cs) (ops.Exec text) (outcomes.Plain changes) f.is in
    let o = outcome_is (ran statement cs) (ops.Exec text) (outcomes.Plain changes) f.is in
    let prints : printed statement ≡ text = cc in
    let same : cs ≡ changes = cc in (
      statement,
      record {
        stands = record { prints = record { normal = f.meant.0; prints = prints }; is_kind = f.meant.1 };
        accepted = f.fits.outcome;
        fit = subst (λ (l : List Change). ChangesFit s.catalog s.rows l) same f.fits.changes;
      },
      ap (λ (l : List Change). ran statement l) same,
    )
run_of s text changes (conflict p inserts before after) f = let e = outcome_is (conflict p inserts before after) (ops.Exec text) (outcomes.Plain changes) f.is in cc
run_of s text changes (clash p why) f = let e = outcome_is (clash p why) (ops.Exec text) (outcomes.Plain changes) f.is in cc

pub run_fits : (s : State) (text : List ℕ) (changes : List Change) (statement : Stmt) → RunsHere s text changes statement
    → DoesFit s (ops.Exec text) (outcomes.Plain changes) (ran statement changes)
run_fits s text changes statement r = record {
  is = ap (λ (t : List ℕ). (ops.Exec t, outcomes.Plain changes)) r.stands.prints.prints;
  meant = (r.stands.prints.normal, r.stands.is_kind);
  fits = record { changes = r.fit; outcome = r.accepted };
}

pub run_told : (s after : State) (text : List ℕ) (changes : List Change) (told : Bool) → TellsOne (RunsHere s text changes) (after_run s changes) after told
    → TellsOne (DoesFit s (ops.Exec text) (outcomes.Plain changes)) (λ d. after_done d s) after told
run_told s after text changes true h = (ran h.0 changes, run_fits s text changes h.0 h.1, h.2)
run_told s after text changes false h = λ d f. let r = run_of s text changes d f in h r.0 r.1

-- a Set met another value
met_of : (s : State) (table : Name) (key : List (Name × Cell)) (columns : List (Name × Cell × Cell)) (inserts : List Change) (before after : List Cell) (d : Done)
    → DoesFit s (ops.Set table key columns) (outcomes.Conflict inserts before after) d
    → ConflictFits s.catalog s.rows table key inserts before after × (d ≡ conflict (ops.Set table key columns) inserts before after)
met_of s table key columns inserts before after (plain p cs) f =
    let e = outcome_is (plain p cs) (ops.Set table key columns) (outcomes.Conflict inserts before after) f.is in cc
met_of s table key columns inserts before after (ran statement cs) f =
    let e = outcome_is (ran statement cs) (ops.Set table key columns) (outcomes.Conflict inserts before after) f.is in cc
met_of s table key columns inserts before after (conflict p is old new) f =
    let e = op_is (conflict p is old new) (ops.Set table key columns) (outcomes.Conflict inserts before after) f.is in
    let o = outcome_is (conflict p is old new) (ops.Set table key columns) (outcomes.Conflict inserts before after) f.is in
    let same : conflict p is old new ≡ conflict (ops.Set table key columns) inserts before after = cc in
    let fits = subst (λ (d : Done). DoneFits s d) same f.fits in
    (record { insertions = fits.outcome.0; named = fits.outcome.1; changes = fits.changes }, same)
met_of s table key columns inserts before after (clash p why) f =
    let e = outcome_is (clash p why) (ops.Set table key columns) (outcomes.Conflict inserts before after) f.is in cc

pub met_told : (s state : State) (table : Name) (key : List (Name × Cell)) (columns : List (Name × Cell × Cell)) (inserts : List Change) (before after : List Cell) (told : Bool)
    → state.catalog ≡ s.catalog
    → Tells (ConflictFits s.catalog s.rows table key inserts before after) (state.rows ≡ applied s.catalog (inserts ++ change_of table before after ∷ []) s.rows) told
    → TellsOne (DoesFit s (ops.Set table key columns) (outcomes.Conflict inserts before after)) (λ d. after_done d s) state told
met_told s state table key columns inserts before after true same h = (
  conflict (ops.Set table key columns) inserts before after,
  record { is = refl; meant = tt; fits = record { changes = h.0.changes; outcome = (h.0.insertions, h.0.named) } },
  (λ i. record { catalog = same i; rows = h.1 i }),
)
met_told s state table key columns inserts before after false same h = λ d f. h (met_of s table key columns inserts before after d f).0

-- no other op does
pub no_set : (s : State) (op : Op) (inserts : List Change) (before after : List Cell) (d : Done) → ¬ (IsSet op) → ¬ (DoesFit s op (outcomes.Conflict inserts before after) d)
no_set s op inserts before after (plain p cs) other f = let e = outcome_is (plain p cs) op (outcomes.Conflict inserts before after) f.is in cc
no_set s op inserts before after (ran statement cs) other f = let e = outcome_is (ran statement cs) op (outcomes.Conflict inserts before after) f.is in cc
no_set s op inserts before after (conflict p is old new) other f =
    let e = op_is (conflict p is old new) op (outcomes.Conflict inserts before after) f.is in other (subst (λ (o : Op). IsSet o) e f.meant)
no_set s op inserts before after (clash p why) other f = let e = outcome_is (clash p why) op (outcomes.Conflict inserts before after) f.is in cc

-- an op that was skipped
pub clash_of : (s : State) (op : Op) (why : Clash) (d : Done) → DoesFit s op (outcomes.Clash why) d → d ≡ clash op why
clash_of s op why (plain p cs) f = let e = outcome_is (plain p cs) op (outcomes.Clash why) f.is in cc
clash_of s op why (ran statement cs) f = let e = outcome_is (ran statement cs) op (outcomes.Clash why) f.is in cc
clash_of s op why (conflict p is old new) f = let e = outcome_is (conflict p is old new) op (outcomes.Clash why) f.is in cc
clash_of s op why (clash p w) f =
    let e = op_is (clash p w) op (outcomes.Clash why) f.is in
    let o = outcome_is (clash p w) op (outcomes.Clash why) f.is in cc

pub clash_fits : (s : State) (op : Op) (why : Clash) → DoesFit s op (outcomes.Clash why) (clash op why)
clash_fits s op why = record { is = refl; meant = tt; fits = record { changes = tt; outcome = tt } }

pub clash_told : (s : State) (op : Op) (why : Clash) → TellsOne (DoesFit s op (outcomes.Clash why)) (λ d. after_done d s) s true
clash_told s op why = (clash op why, clash_fits s op why, refl)

-- ---- rows go on to fit

pub done_keeps : (s : State) (d : Done) → RowsFit s.catalog s.rows → DoneFits s d → RowsFit (after_done d s).catalog (after_done d s).rows
unfolding with_statement
done_keeps s (plain op changes) h fit = fitting_changes_keep s.catalog s.rows changes h fit.changes
done_keeps s (ran statement changes) h fit =
    statement_keeps statement s.catalog (applied s.catalog changes s.rows) fit.outcome.catalog (fitting_changes_keep s.catalog s.rows changes h fit.changes)
done_keeps s (conflict op inserts before after) h fit = fitting_changes_keep s.catalog s.rows (done_changes (conflict op inserts before after)) h fit.changes
done_keeps s (clash op why) h fit = h

-- ---- ops one after the other

-- the first of some done things
pub first_done : (s : State) (op : Op) (outcome : Outcome) (rest : List (Op × Outcome)) (dones : List Done) → DoFit s ((op, outcome) ∷ rest) dones
    → (d : Done) × (ds : List Done) × (dones ≡ d ∷ ds) × DoesFit s op outcome d × DoFit (after_done d s) rest ds
first_done s op outcome rest [] f = let e = f.are in cc
first_done s op outcome rest (d ∷ ds) f =
    let e : done_of d ∷ map done_of ds ≡ (op, outcome) ∷ rest = f.are in
    let head : done_of d ≡ (op, outcome) = cc in
    let tail : map done_of ds ≡ rest = cc in
    (d, ds, refl, record { is = head; meant = f.meant.0; fits = f.fit.0 }, record { are = tail; meant = f.meant.1; fit = f.fit.1 })

-- one is done once
pub same_done : (s : State) (op : Op) (outcome : Outcome) (a b : Done) → DoesFit s op outcome a → DoesFit s op outcome b → a ≡ b
same_done s op outcome a b f g = done_once a b f.meant g.meant (f.is ∙ sym g.is)

-- what is told of those that are left is told of all
unfoldable pub OpsLeft : State → State → List (Op × Outcome) → List (Op × Outcome) → Type 0
OpsLeft old now all left = (after : State) (told : Bool) → OpsTold now left after told → OpsTold old all after told

pub ops_begin : (s : State) (all : List (Op × Outcome)) → OpsLeft s s all all
unfolding OpsLeft
ops_begin s all = λ after told t. t

-- the first was done, and so were others behind it
both_done : (now : State) (op : Op) (outcome : Outcome) (rest : List (Op × Outcome)) (d : Done) (ds : List Done) → DoesFit now op outcome d
    → DoFit (after_done d now) rest ds → DoFit now ((op, outcome) ∷ rest) (d ∷ ds)
both_done now op outcome rest d ds f g = record {
  are = (let x : done_of d ≡ (op, outcome) = f.is in let y : map done_of ds ≡ rest = g.are in cc);
  meant = (f.meant, g.meant);
  fit = (f.fits, g.fit);
}

one_more : (now mid after : State) (op : Op) (outcome : Outcome) (rest : List (Op × Outcome)) (told : Bool) → OpTold now op outcome mid true
    → OpsTold mid rest after told → OpsTold now ((op, outcome) ∷ rest) after told
unfolding OpTold OpsTold
one_more now mid after op outcome rest true t h = (
  t.0 ∷ h.0,
  both_done now op outcome rest t.0 h.0 t.1 (subst (λ (s : State). DoFit s rest h.0) t.2 h.1),
  h.2 ∙ ap (λ (s : State). after_dones h.0 s) t.2,
)
one_more now mid after op outcome rest false t h = λ whole w.
    let first = first_done now op outcome rest whole w in
    let one : first.0 ≡ t.0 = same_done now op outcome first.0 t.0 first.3 t.1 in
    let reached : after_done first.0 now ≡ mid = ap (λ (x : Done). after_done x now) one ∙ sym t.2 in
    h first.1 (subst (λ (s : State). DoFit s rest first.1) reached first.4)

pub ops_on : (old now mid : State) (all left rest : List (Op × Outcome)) (op : Op) (outcome : Outcome) (told : Bool) → OpsLeft old now all left
    → OpTold now op outcome mid told → told ≡ true → left ≡ (op, outcome) ∷ rest → OpsLeft old mid all rest
unfolding OpsLeft
ops_on old now mid all left rest op outcome told more t so split = λ after b h.
    more after b (subst (λ (l : List (Op × Outcome)). OpsTold now l after b) (sym split)
    (one_more now mid after op outcome rest b (subst (λ (x : Bool). OpTold now op outcome mid x) so t) h))

none_told : (now : State) → OpsTold now [] now true
unfolding OpsTold
none_told now = ([], record { are = refl; meant = tt; fit = tt }, refl)

pub ops_end : (old now : State) (all left : List (Op × Outcome)) → OpsLeft old now all left → length left ≡ 0 → OpsTold old all now true
unfolding OpsLeft
ops_end old now all [] more none = more now true (none_told now)
ops_end old now all (p ∷ left) more none = cc

first_unfit : (now mid after : State) (op : Op) (outcome : Outcome) (rest : List (Op × Outcome)) → OpTold now op outcome mid false
    → OpsTold now ((op, outcome) ∷ rest) after false
unfolding OpTold OpsTold
first_unfit now mid after op outcome rest t = λ whole w. let first = first_done now op outcome rest whole w in t first.0 first.3

-- one does not fit
pub ops_stuck : (old now mid after : State) (all left rest : List (Op × Outcome)) (op : Op) (outcome : Outcome) (told : Bool) → OpsLeft old now all left
    → OpTold now op outcome mid told → told ≡ false → left ≡ (op, outcome) ∷ rest → OpsTold old all after false
unfolding OpsLeft
ops_stuck old now mid after all left rest op outcome told more t unfit split =
    more after false (subst (λ (l : List (Op × Outcome)). OpsTold now l after false) (sym split)
    (first_unfit now mid after op outcome rest (subst (λ (x : Bool). OpTold now op outcome mid x) unfit t)))

told_keeps : (now mid : State) (op : Op) (outcome : Outcome) → RowsFit now.catalog now.rows → OpTold now op outcome mid true → RowsFit mid.catalog mid.rows
unfolding OpTold
told_keeps now mid op outcome fits t = subst (λ (s : State). RowsFit s.catalog s.rows) (sym t.2) (done_keeps now t.0 fits t.1.fits)

pub op_keeps : (catalog after : Lists) (rows new : Marked) (op : Op) (outcome : Outcome) (told : Bool) → RowsFit catalog rows.rows → told ≡ true
    → OpTold (state_in catalog rows) op outcome (state_in after new) told → RowsFit after new.rows
op_keeps catalog after rows new op outcome told fits so t =
    told_keeps (state_in catalog rows) (state_in after new) op outcome fits
    (subst (λ (x : Bool). OpTold (state_in catalog rows) op outcome (state_in after new) x) so t)

-- ---- which thing was done

pub plain_is : (s : State) (op : Op) (changes : List Change) (d : Done) → IsNoExec op → DoesFit s op (outcomes.Plain changes) d → d ≡ plain op changes
plain_is s op changes d no_exec f = done_once d (plain op changes) f.meant no_exec f.is

pub met_is : (s : State) (op : Op) (inserts : List Change) (before after : List Cell) (d : Done) → DoesFit s op (outcomes.Conflict inserts before after) d
    → IsSet op × (d ≡ conflict op inserts before after)
met_is s op inserts before after (plain p cs) f = let e = outcome_is (plain p cs) op (outcomes.Conflict inserts before after) f.is in cc
met_is s op inserts before after (ran statement cs) f = let e = outcome_is (ran statement cs) op (outcomes.Conflict inserts before after) f.is in cc
met_is s op inserts before after (conflict p is old new) f =
    let e = op_is (conflict p is old new) op (outcomes.Conflict inserts before after) f.is in
    let o = outcome_is (conflict p is old new) op (outcomes.Conflict inserts before after) f.is in
    (subst (λ (o : Op). IsSet o) e f.meant, cc)
met_is s op inserts before after (clash p why) f = let e = outcome_is (clash p why) op (outcomes.Conflict inserts before after) f.is in cc
