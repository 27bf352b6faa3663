-- The state behind entries and ops that are known to fit.
use Rattle.std.proofs.Common.{◌≡◌, ℕ, Bool, true, false, List, [], ◌∷◌, ◌++◌, length, Result, OnOk, refl, sym, ap, subst, ◌∙◌, ◌↔◌, None}
use Rattle.std.specs.List.{AllByRecursion}
use Rattle.sr_base.specs.declared.offset.Offset.{Offset}
use Rattle.sr_base.specs.declared.value.Value.{Value as Cell}
use Rattle.sr_ast.specs.Statements.{is_ddl, is_carried}
use Rattle.sr_ast.specs.declared.stmt.Stmt.{Stmt}
use Rattle.sr_book.specs.Entries.{Name}
use Rattle.sr_book.specs.declared.note.Note.{Note}
use Rattle.sr_catalog_change.specs.Changes.{refusal, next as catalog_after}
use Rattle.sr_exec_dml.specs.Applying.{applied}
use Rattle.sr_exec_dml.specs.Fitting.{RowsFit}
use Rattle.sr_exec_dml.specs.FittingChanges.{ChangesFit}
use Rattle.sr_exec_dml.proofs.Applied.{fitting_changes_keep}
use Rattle.sr_database_history.specs.Fitting.{IsAccepted, IsAcceptedPass, FitsState}
use Rattle.sr_database_history.specs.Folds.{State, with_statement, rows_left, after_done, after_dones, next}
use Rattle.sr_database_history.specs.Recorded.{Done, IsNoExec, IsSet}
use Rattle.sr_logform.specs.declared.change.Change.{Change}
use Rattle.sr_logform.specs.declared.entry.Entry.TheVariants as entries
use Rattle.sr_logform.specs.declared.op.Op.{Op}
use Rattle.sr_logform.specs.declared.op.Op.TheVariants as ops
use Rattle.sr_logform.specs.declared.outcome.Clash.{Clash}
use Rattle.sr_logform.specs.declared.outcome.Outcome.{Outcome}
use Rattle.sr_logform.specs.declared.outcome.Outcome.TheVariants as outcomes
use Rattle.sr_rows.specs.Marks.{Marked, RowMap}
use Rattle.sr_rows.specs.Inner.Steps.{at_mark}
use Rattle.sr_catalog_schema.specs.Catalogs.{Lists}
use Rattle.sr_database_fold.specs.Inner.Deeds.{DoFit}
use Rattle.sr_database_fold.specs.Inner.Movements.{change_of}
use Rattle.sr_database_fold.specs.Inner.Parts.{IsTextOf, after_run}
use Rattle.sr_database_fold.specs.Inner.Reached.{EntryFits, PassFits, EntryReaches, OpFits, OpReaches, OpsFit, OpsReach, NoneRuns}
use Rattle.sr_database_fold.specs.Inner.Readings.{state_in}
use Rattle.sr_database_fold.proofs.Changing.{ok_as}
use Rattle.sr_database_fold.proofs.Meant.{own_of, taken_of, ddl_of, pass_of, sync_of, note_of}
use Rattle.sr_database_fold.proofs.Taking.{run_of, plain_is, met_is, no_set, clash_of, first_done, done_keeps}
use Rattle.sr_database_fold.proofs.Told.{text_once}

module _ (catalog : Lists) (rows : Marked) where
  -- ---- entries

  pub own_reached : (mid new : Marked) (changes : List Change) → mid.rows ≡ applied catalog changes rows.rows → new.rows ≡ mid.rows
      → EntryReaches (state_in catalog rows) (entries.Own changes) (state_in catalog new)
  unfolding next EntryReaches
  own_reached mid new changes made same = λ r f.
      (λ i. record { catalog = catalog; rows = (same ∙ made) i }) ∙ ap (next (state_in catalog rows)) (sym (own_of (state_in catalog rows) changes r f).0)

  ddl_here : (after : Lists) (new : Marked) (text : List ℕ) (statement : Stmt) → IsTextOf is_ddl text statement
      → state_in after new ≡ with_statement statement (state_in catalog rows) → EntryReaches (state_in catalog rows) (entries.Ddl text) (state_in after new)
  unfolding next EntryReaches
  ddl_here after new text statement is behind = λ r f.
      let d = ddl_of (state_in catalog rows) text r f in
      behind ∙ ap (λ (x : Stmt). with_statement x (state_in catalog rows)) (text_once is_ddl text statement d.0 is d.1)
      ∙ ap (next (state_in catalog rows)) (sym d.3)

  pub ddl_reached : {A E : Type 0} (after : Lists) (new : Marked) (text : List ℕ) (statement : Stmt) (r : Result A E) → IsTextOf is_ddl text statement
      → OnOk r (state_in after new ≡ with_statement statement (state_in catalog rows)) → OnOk r (EntryReaches (state_in catalog rows) (entries.Ddl text) (state_in after new))
  ddl_reached after new text statement r is h = ok_as r (λ x behind. ddl_here after new text statement is behind) h

  pub ddl_never : (after : Lists) (new : Marked) (text : List ℕ) → ((statement : Stmt) → ¬ (IsTextOf is_ddl text statement))
      → EntryReaches (state_in catalog rows) (entries.Ddl text) (state_in after new)
  unfolding EntryReaches
  ddl_never after new text never = λ r f. let d = ddl_of (state_in catalog rows) text r f in absurd (never d.0 d.1)

  only_here : (users : List Name) (text : List ℕ) (changes : List Change) → EntryReaches (state_in catalog rows) (entries.Pass users true text changes) (state_in catalog rows)
  unfolding next EntryReaches
  only_here users text changes = λ r f. ap (next (state_in catalog rows)) (sym (pass_of (state_in catalog rows) users true text changes r f).1.1)

  pub only_passed : (users : List Name) (only : Bool) (text : List ℕ) (changes : List Change) → only ≡ true
      → EntryReaches (state_in catalog rows) (entries.Pass users only text changes) (state_in catalog rows)
  only_passed users only text changes there =
      subst (λ (b : Bool). EntryReaches (state_in catalog rows) (entries.Pass users b text changes) (state_in catalog rows)) (sym there) (only_here users text changes)

  ran_too : (after : Lists) (new : Marked) (users : List Name) (text : List ℕ) (changes : List Change) (statement : Stmt) → IsTextOf is_carried text statement
      → state_in after new ≡ after_run (state_in catalog rows) changes statement
      → EntryReaches (state_in catalog rows) (entries.Pass users false text changes) (state_in after new)
  unfolding next EntryReaches
  ran_too after new users text changes statement is behind = λ r f.
      let p = pass_of (state_in catalog rows) users false text changes r f in
      behind ∙ ap (λ (x : Stmt). after_run (state_in catalog rows) changes x) (text_once is_carried text statement p.1.0 is p.1.2)
      ∙ ap (next (state_in catalog rows)) (sym p.1.1)

  passed_here : (after : Lists) (new : Marked) (users : List Name) (only : Bool) (text : List ℕ) (changes : List Change) (statement : Stmt) → only ≡ false
      → IsTextOf is_carried text statement → state_in after new ≡ after_run (state_in catalog rows) changes statement
      → EntryReaches (state_in catalog rows) (entries.Pass users only text changes) (state_in after new)
  passed_here after new users only text changes statement here is behind =
      subst (λ (b : Bool). EntryReaches (state_in catalog rows) (entries.Pass users b text changes) (state_in after new)) (sym here)
      (ran_too after new users text changes statement is behind)

  pub run_passed : {A E : Type 0} (after : Lists) (new : Marked) (users : List Name) (only : Bool) (text : List ℕ) (changes : List Change) (statement : Stmt)
      (r : Result A E) → only ≡ false → IsTextOf is_carried text statement → OnOk r (state_in after new ≡ after_run (state_in catalog rows) changes statement)
      → OnOk r (EntryReaches (state_in catalog rows) (entries.Pass users only text changes) (state_in after new))
  run_passed after new users only text changes statement r here is h = ok_as r (λ x behind. passed_here after new users only text changes statement here is behind) h

  pub pass_never : (after : Lists) (new : Marked) (users : List Name) (only : Bool) (text : List ℕ) (changes : List Change)
      → ((statement : Stmt) → ¬ (IsTextOf is_carried text statement)) → EntryReaches (state_in catalog rows) (entries.Pass users only text changes) (state_in after new)
  unfolding EntryReaches
  pass_never after new users only text changes never = λ r f.
      let p = pass_of (state_in catalog rows) users only text changes r f in absurd (never p.1.0 p.1.2)

  -- ---- what is done is accepted

  pub ddl_accepted : (text : List ℕ) (statement : Stmt) → EntryFits (state_in catalog rows) (entries.Ddl text) → IsTextOf is_ddl text statement
      → refusal catalog statement ≡ None
  unfolding EntryFits
  ddl_accepted text statement e is =
      let d = ddl_of (state_in catalog rows) text e.0 e.1 in
      subst (λ (x : Stmt). refusal catalog x ≡ None) (sym (text_once is_ddl text statement d.0 is d.1)) d.2.catalog

  pub pass_fits : (users : List Name) (only : Bool) (text : List ℕ) (changes : List Change) → EntryFits (state_in catalog rows) (entries.Pass users only text changes)
      → PassFits (state_in catalog rows) only text changes
  unfolding PassFits
  pass_fits users only text changes e = (users, e)

  passed_accepted : (users : List Name) (only : Bool) (text : List ℕ) (changes : List Change) (statement : Stmt) → only ≡ false
      → EntryFits (state_in catalog rows) (entries.Pass users only text changes) → IsTextOf is_carried text statement → refusal catalog statement ≡ None
  unfolding EntryFits FitsState
  passed_accepted users only text changes statement here e is =
      let p = pass_of (state_in catalog rows) users only text changes e.0 e.1 in
      let accepted : IsAccepted (state_in catalog rows) p.1.0 = subst (λ (b : Bool). IsAcceptedPass (state_in catalog rows) b p.1.0) here p.1.3.2 in
      subst (λ (x : Stmt). refusal catalog x ≡ None) (sym (text_once is_carried text statement p.1.0 is p.1.2)) accepted.catalog

  pub pass_accepted : (only : Bool) (text : List ℕ) (changes : List Change) (statement : Stmt) → only ≡ false → PassFits (state_in catalog rows) only text changes
      → IsTextOf is_carried text statement → refusal catalog statement ≡ None
  unfolding PassFits
  pass_accepted only text changes statement here e is = passed_accepted e.0 only text changes statement here e.1 is

  pub sync_reached : (user : Name) (tables : List (Name × List (List Cell))) → EntryReaches (state_in catalog rows) (entries.Sync user tables) (state_in catalog rows)
  unfolding next EntryReaches
  sync_reached user tables = λ r f. ap (next (state_in catalog rows)) (sym (sync_of (state_in catalog rows) user tables r f).0)

  pub note_reached : (user : Name) (what : Note) → EntryReaches (state_in catalog rows) (entries.Note user what) (state_in catalog rows)
  unfolding next EntryReaches
  note_reached user what = λ r f. ap (next (state_in catalog rows)) (sym (note_of (state_in catalog rows) user what r f).0)

  pub taken_fits : (user : Name) (at : Offset) (taken_ops : List (Op × Outcome)) → EntryFits (state_in catalog rows) (entries.From user at taken_ops)
      → OpsFit (state_in catalog rows) taken_ops
  unfolding EntryFits OpsFit
  taken_fits user at taken_ops e = let t = taken_of (state_in catalog rows) user at taken_ops e.0 e.1 in (t.1.0, t.1.2)

  taken_here : (after : Lists) (new : Marked) (user : Name) (at : Offset) (taken_ops : List (Op × Outcome)) → OpsReach (state_in catalog rows) taken_ops (state_in after new)
      → EntryReaches (state_in catalog rows) (entries.From user at taken_ops) (state_in after new)
  unfolding next EntryReaches OpsReach
  taken_here after new user at taken_ops behind = λ r f.
      let t = taken_of (state_in catalog rows) user at taken_ops r f in
      behind t.1.0 t.1.2 ∙ ap (next (state_in catalog rows)) (sym t.1.1)

  pub taken_reached : (after : Lists) (mid new : Marked) (user : Name) (at : Offset) (taken_ops : List (Op × Outcome)) → OpsReach (state_in catalog rows) taken_ops (state_in after mid)
      → new.rows ≡ mid.rows → EntryReaches (state_in catalog rows) (entries.From user at taken_ops) (state_in after new)
  taken_reached after mid new user at taken_ops behind same =
      subst (λ (m : RowMap). EntryReaches (state_in catalog rows) (entries.From user at taken_ops) (record { catalog = after; rows = m })) (sym same)
      (taken_here after mid user at taken_ops behind)

  -- ---- what runs

  -- changes, the mark, and then a statement
  pub run_behind : (after : Lists) (mid marked new : Marked) (changes : List Change) (statement : Stmt) → mid.rows ≡ applied catalog changes rows.rows
      → marked.rows ≡ mid.rows → new ≡ at_mark (rows_left statement marked.rows) → after ≡ catalog_after catalog statement
      → state_in after new ≡ after_run (state_in catalog rows) changes statement
  unfolding with_statement
  run_behind after mid marked new changes statement made same left behind =
      let all : new.rows ≡ rows_left statement (applied catalog changes rows.rows) = ap (λ (m : Marked). m.rows) left ∙ ap (rows_left statement) (same ∙ made) in
      λ i. record { catalog = behind i; rows = all i }

  -- changes, and then a statement, by steps
  pub both_behind : (after : Lists) (mid new : Marked) (changes : List Change) (statement : Stmt) → mid.rows ≡ applied catalog changes rows.rows
      → new.rows ≡ rows_left statement mid.rows → after ≡ catalog_after catalog statement
      → state_in after new ≡ after_run (state_in catalog rows) changes statement
  unfolding with_statement
  both_behind after mid new changes statement made left behind =
      let all : new.rows ≡ rows_left statement (applied catalog changes rows.rows) = left ∙ ap (rows_left statement) made in
      λ i. record { catalog = behind i; rows = all i }

  -- ---- ops

  plain_here : (new : Marked) (op : Op) (changes : List Change) → IsNoExec op → new.rows ≡ applied catalog changes rows.rows
      → OpReaches (state_in catalog rows) op (outcomes.Plain changes) (state_in catalog new)
  unfolding OpReaches
  plain_here new op changes no_exec made = λ d f.
      (λ i. record { catalog = catalog; rows = made i })
      ∙ ap (λ (x : Done). after_done x (state_in catalog rows)) (sym (plain_is (state_in catalog rows) op changes d no_exec f))

  pub plain_reached : {A E : Type 0} (new : Marked) (op : Op) (changes : List Change) (r : Result A E) → IsNoExec op
      → OnOk r (new.rows ≡ applied catalog changes rows.rows) → OnOk r (OpReaches (state_in catalog rows) op (outcomes.Plain changes) (state_in catalog new))
  plain_reached new op changes r no_exec h = ok_as r (λ x made. plain_here new op changes no_exec made) h

  run_here : (after : Lists) (new : Marked) (text : List ℕ) (changes : List Change) (statement : Stmt) → IsTextOf is_carried text statement
      → state_in after new ≡ after_run (state_in catalog rows) changes statement
      → OpReaches (state_in catalog rows) (ops.Exec text) (outcomes.Plain changes) (state_in after new)
  unfolding OpReaches
  run_here after new text changes statement is behind = λ d f.
      let r = run_of (state_in catalog rows) text changes d f in
      behind
      ∙ ap (λ (x : Stmt). after_run (state_in catalog rows) changes x) (text_once is_carried text statement r.0 is r.1.stands)
      ∙ ap (λ (x : Done). after_done x (state_in catalog rows)) (sym r.2)

  pub run_reached : {A E : Type 0} (after : Lists) (new : Marked) (text : List ℕ) (changes : List Change) (statement : Stmt) (r : Result A E)
      → IsTextOf is_carried text statement → OnOk r (state_in after new ≡ after_run (state_in catalog rows) changes statement)
      → OnOk r (OpReaches (state_in catalog rows) (ops.Exec text) (outcomes.Plain changes) (state_in after new))
  run_reached after new text changes statement r is h = ok_as r (λ x behind. run_here after new text changes statement is behind) h

  pub run_never : (after : Lists) (new : Marked) (text : List ℕ) (changes : List Change) → ((statement : Stmt) → ¬ (IsTextOf is_carried text statement))
      → OpReaches (state_in catalog rows) (ops.Exec text) (outcomes.Plain changes) (state_in after new)
  unfolding OpReaches
  run_never after new text changes never = λ d f. let r = run_of (state_in catalog rows) text changes d f in absurd (never r.0 r.1.stands)

  -- the changes of what runs fit
  pub run_changes : (text : List ℕ) (changes : List Change) → OpFits (state_in catalog rows) (ops.Exec text) (outcomes.Plain changes) → ChangesFit catalog rows.rows changes
  unfolding OpFits
  run_changes text changes e = (run_of (state_in catalog rows) text changes e.0 e.1).1.fit

  -- and its statement is accepted
  pub run_accepted : (text : List ℕ) (changes : List Change) (statement : Stmt) → OpFits (state_in catalog rows) (ops.Exec text) (outcomes.Plain changes)
      → IsTextOf is_carried text statement → refusal catalog statement ≡ None
  unfolding OpFits
  run_accepted text changes statement e is =
      let r = run_of (state_in catalog rows) text changes e.0 e.1 in
      subst (λ (x : Stmt). refusal catalog x ≡ None) (sym (text_once is_carried text statement r.0 is r.1.stands)) r.1.accepted.catalog

  met_here : (new : Marked) (table : Name) (key : List (Name × Cell)) (columns : List (Name × Cell × Cell)) (inserts : List Change) (before after : List Cell)
      → new.rows ≡ applied catalog (inserts ++ change_of table before after ∷ []) rows.rows
      → OpReaches (state_in catalog rows) (ops.Set table key columns) (outcomes.Conflict inserts before after) (state_in catalog new)
  unfolding OpReaches
  met_here new table key columns inserts before after made = λ d f.
      (λ i. record { catalog = catalog; rows = made i })
      ∙ ap (λ (x : Done). after_done x (state_in catalog rows)) (sym (met_is (state_in catalog rows) (ops.Set table key columns) inserts before after d f).1)

  pub met_reached : {A E : Type 0} (new : Marked) (table : Name) (key : List (Name × Cell)) (columns : List (Name × Cell × Cell)) (inserts : List Change)
      (before after : List Cell) (r : Result A E) → OnOk r (new.rows ≡ applied catalog (inserts ++ change_of table before after ∷ []) rows.rows)
      → OnOk r (OpReaches (state_in catalog rows) (ops.Set table key columns) (outcomes.Conflict inserts before after) (state_in catalog new))
  met_reached new table key columns inserts before after r h = ok_as r (λ x made. met_here new table key columns inserts before after made) h

-- no op but a Set met another value
pub met_by_no_set : (s reached : State) (op : Op) (inserts : List Change) (before after : List Cell) → ¬ (IsSet op)
    → OpReaches s op (outcomes.Conflict inserts before after) reached
unfolding OpReaches
met_by_no_set s reached op inserts before after other = λ d f. absurd (no_set s op inserts before after d other f)

pub clash_reached : (s : State) (op : Op) (why : Clash) → OpReaches s op (outcomes.Clash why) s
unfolding OpReaches
clash_reached s op why = λ d f. ap (λ (x : Done). after_done x s) (sym (clash_of s op why d f))

-- ---- ops one after the other

fits_first : (s : State) (op : Op) (outcome : Outcome) (rest : List (Op × Outcome)) → OpsFit s ((op, outcome) ∷ rest) → OpFits s op outcome
unfolding OpsFit OpFits
fits_first s op outcome rest e = let first = first_done s op outcome rest e.0 e.1 in (first.0, first.3)

pub first_fits : (s : State) (ops rest : List (Op × Outcome)) (op : Op) (outcome : Outcome) → OpsFit s ops → ops ≡ (op, outcome) ∷ rest → OpFits s op outcome
first_fits s ops rest op outcome e split = fits_first s op outcome rest (subst (λ (l : List (Op × Outcome)). OpsFit s l) split e)

fits_rest : (s after : State) (op : Op) (outcome : Outcome) (rest : List (Op × Outcome)) → OpsFit s ((op, outcome) ∷ rest) → OpReaches s op outcome after
    → OpsFit after rest
unfolding OpsFit OpReaches
fits_rest s after op outcome rest e reaches =
    let first = first_done s op outcome rest e.0 e.1 in
    (first.1, subst (λ (x : State). DoFit x rest first.1) (sym (reaches first.0 first.3)) first.4)

pub rest_fits : (s after : State) (ops rest : List (Op × Outcome)) (op : Op) (outcome : Outcome) → OpsFit s ops → OpReaches s op outcome after
    → ops ≡ (op, outcome) ∷ rest → OpsFit after rest
rest_fits s after ops rest op outcome e reaches split = fits_rest s after op outcome rest (subst (λ (l : List (Op × Outcome)). OpsFit s l) split e) reaches

keeps : (s after : State) (op : Op) (outcome : Outcome) → RowsFit s.catalog s.rows → OpFits s op outcome → OpReaches s op outcome after
    → RowsFit after.catalog after.rows
unfolding OpFits OpReaches
keeps s after op outcome fits e reaches =
    subst (λ (x : State). RowsFit x.catalog x.rows) (sym (reaches e.0 e.1)) (done_keeps s e.0 fits e.1.fits)

pub reached_keeps : (catalog after : Lists) (rows new : Marked) (ops rest : List (Op × Outcome)) (op : Op) (outcome : Outcome) → RowsFit catalog rows.rows
    → OpsFit (state_in catalog rows) ops → OpReaches (state_in catalog rows) op outcome (state_in after new) → ops ≡ (op, outcome) ∷ rest → RowsFit after new.rows
reached_keeps catalog after rows new ops rest op outcome fits e reaches split =
    keeps (state_in catalog rows) (state_in after new) op outcome fits (first_fits (state_in catalog rows) ops rest op outcome e split) reaches

-- rows go on to fit behind changes that do
pub made_keeps : (catalog : Lists) (rows mid : RowMap) (changes : List Change) → RowsFit catalog rows → ChangesFit catalog rows changes
    → mid ≡ applied catalog changes rows → RowsFit catalog mid
made_keeps catalog rows mid changes fits fit made = subst (λ (m : RowMap). RowsFit catalog m) (sym made) (fitting_changes_keep catalog rows changes fits fit)

-- what those that are left come to, all come to
unfoldable pub ReachLeft : State → State → List (Op × Outcome) → List (Op × Outcome) → Type 0
ReachLeft old now all left = (after : State) → OpsReach now left after → OpsReach old all after

pub reach_begin : (s : State) (all : List (Op × Outcome)) → ReachLeft s s all all
unfolding ReachLeft
reach_begin s all = λ after h. h

one_more : (now mid after : State) (op : Op) (outcome : Outcome) (rest : List (Op × Outcome)) → OpReaches now op outcome mid → OpsReach mid rest after
    → OpsReach now ((op, outcome) ∷ rest) after
unfolding OpReaches OpsReach
one_more now mid after op outcome rest reaches h = λ dones f.
    let first = first_done now op outcome rest dones f in
    let here : mid ≡ after_done first.0 now = reaches first.0 first.3 in
    h first.1 (subst (λ (x : State). DoFit x rest first.1) (sym here) first.4)
    ∙ ap (λ (x : State). after_dones first.1 x) here ∙ ap (λ (l : List Done). after_dones l now) (sym first.2)

pub reach_on : (old now mid : State) (all left rest : List (Op × Outcome)) (op : Op) (outcome : Outcome) → ReachLeft old now all left
    → OpReaches now op outcome mid → left ≡ (op, outcome) ∷ rest → ReachLeft old mid all rest
unfolding ReachLeft
reach_on old now mid all left rest op outcome more reaches split = λ after h.
    more after (subst (λ (l : List (Op × Outcome)). OpsReach now l after) (sym split) (one_more now mid after op outcome rest reaches h))

none_reached : (now : State) → OpsReach now [] now
unfolding OpsReach
none_reached now = λ dones f. none_done dones f where
  none_done : (dones : List Done) → DoFit now [] dones → now ≡ after_dones dones now
  none_done [] f = refl
  none_done (d ∷ ds) f = let e = f.are in cc

pub reach_end : (old now : State) (all left : List (Op × Outcome)) → ReachLeft old now all left → length left ≡ 0 → OpsReach old all now
unfolding ReachLeft
reach_end old now all [] more none = more now (none_reached now)
reach_end old now all (p ∷ left) more none = cc

-- ---- a single one

pub single_fits : (s : State) (ops : List (Op × Outcome)) (op : Op) (outcome : Outcome) → OpsFit s ops → ops ≡ (op, outcome) ∷ [] → OpFits s op outcome
single_fits s ops op outcome e one = first_fits s ops [] op outcome e one

single_here : (s after : State) (ops : List (Op × Outcome)) (op : Op) (outcome : Outcome) → ops ≡ (op, outcome) ∷ [] → OpReaches s op outcome after → OpsReach s ops after
single_here s after ops op outcome one reaches =
    subst (λ (l : List (Op × Outcome)). OpsReach s l after) (sym one) (one_more s after after op outcome [] reaches (none_reached after))

pub single_reached : {A E : Type 0} (s after : State) (ops : List (Op × Outcome)) (op : Op) (outcome : Outcome) (r : Result A E) → OnOk r (OpReaches s op outcome after)
    → ops ≡ (op, outcome) ∷ [] → OnOk r (OpsReach s ops after)
single_reached s after ops op outcome r h one = ok_as r (λ x reaches. single_here s after ops op outcome one reaches) h

-- ---- none runs

pub none_left_runs : (ops : List (Op × Outcome)) → length ops ≡ 0 → NoneRuns ops
unfolding NoneRuns
none_left_runs [] none = tt
none_left_runs (p ∷ ops) none = cc

pub first_runs_not : (ops rest : List (Op × Outcome)) (op : Op) (outcome : Outcome) → NoneRuns ops → ops ≡ (op, outcome) ∷ rest → IsNoExec op
unfolding NoneRuns
first_runs_not ops rest op outcome h split = (subst (λ (l : List (Op × Outcome)). AllByRecursion (λ p. IsNoExec p.0) l) split h).0

pub rest_runs_not : (ops rest : List (Op × Outcome)) (op : Op) (outcome : Outcome) → NoneRuns ops → ops ≡ (op, outcome) ∷ rest → NoneRuns rest
unfolding NoneRuns
rest_runs_not ops rest op outcome h split = (subst (λ (l : List (Op × Outcome)). AllByRecursion (λ p. IsNoExec p.0) l) split h).1

more_runs_not : (ops rest : List (Op × Outcome)) (op : Op) (outcome : Outcome) → ops ≡ (op, outcome) ∷ rest → IsNoExec op → NoneRuns rest → NoneRuns ops
unfolding NoneRuns
more_runs_not ops rest op outcome split one h = subst (λ (l : List (Op × Outcome)). AllByRecursion (λ p. IsNoExec p.0) l) (sym split) (one, h)

pub no_more_run : (all ops rest : List (Op × Outcome)) (op : Op) (outcome : Outcome) → NoneRuns all ↔ NoneRuns ops → ops ≡ (op, outcome) ∷ rest → IsNoExec op
    → NoneRuns all ↔ NoneRuns rest
no_more_run all ops rest op outcome same split one =
    (λ h. rest_runs_not ops rest op outcome (same.0 h) split, λ h. same.1 (more_runs_not ops rest op outcome split one h))

pub one_runs : (all ops rest : List (Op × Outcome)) (op : Op) (outcome : Outcome) → NoneRuns all ↔ NoneRuns ops → ops ≡ (op, outcome) ∷ rest → ¬ (IsNoExec op)
    → ¬ (NoneRuns all)
one_runs all ops rest op outcome same split runs = λ h. runs (first_runs_not ops rest op outcome (same.0 h) split)
