-- What calls answer, as their callers answer it.
use Rattle.std.proofs.Common.{◌≡◌, ◌↔◌, ℕ, Bool, true, false, not, List, [], ◌∷◌, length, Option, Some, None, IfSome, Result, IfOk, IsTrue, refl, sym, ap, subst, ◌∙◌}
use Rattle.std.specs.Prelude.{◌==◌}
use Rattle.std.proofs.lemmas.Bool.{eqb-true}
use Rattle.std.proofs.lemmas.List.{nil_from_length}
use Rattle.std.specs.List.{AllByRecursion}
use Rattle.sr_base.specs.declared.offset.Offset.{Offset}
use Rattle.sr_base.specs.declared.value.Value.{Value as Cell}
use Rattle.sr_ast.specs.Statements.{is_ddl, is_carried}
use Rattle.sr_ast.specs.declared.stmt.Stmt.{Stmt}
use Rattle.sr_book.specs.Entries.{Name}
use Rattle.sr_book.specs.declared.note.Note.{Note}
use Rattle.sr_database_history.specs.Fitting.{Knows, IsAccepted, MayHaveChanges}
use Rattle.sr_database_history.specs.Folds.{State, with_statement}
use Rattle.sr_database_history.specs.Recorded.{IsNoExec, IsSet}
use Rattle.sr_logform.specs.declared.change.Change.{Change}
use Rattle.sr_logform.specs.Entries.{IsEntry}
use Rattle.sr_logform.specs.Outcomes.{IsChange, IsOutcome, OutcomeHas}
use Rattle.sr_logform.specs.Ops.{IsOp}
use Rattle.sr_logform.specs.declared.entry.Entry.TheVariants as entries
use Rattle.sr_logform.specs.declared.op.Op.{Op}
use Rattle.sr_logform.specs.declared.op.Op.TheVariants as ops
use Rattle.sr_logform.specs.declared.outcome.Clash.{Clash}
use Rattle.sr_logform.specs.declared.outcome.Outcome.{Outcome}
use Rattle.sr_logform.specs.declared.outcome.Outcome.TheVariants as outcomes
use Rattle.sr_parse.specs.Prints.{Prints}
use Rattle.sr_parse.proofs.Prints.{prints_once}
use Rattle.sr_rows.specs.Marks.{Marked, RowMap}
use Rattle.sr_catalog_schema.specs.Catalogs.{Lists}
use Rattle.sr_database_fold.specs.Inner.Movements.{Differs, OutcomeDiffers}
use Rattle.sr_database_fold.specs.Inner.Parts.{IsTextOf, IsOneOrNone}
use Rattle.sr_database_fold.specs.Inner.Readings.{state_in}
use Rattle.sr_database_fold.specs.Inner.Told.{ChangesTold, ConflictTold, StatementTold, RunTold, PassRunTold, PassedTold, OpTold, OpsTold, EntryTold}
use Rattle.sr_database_fold.proofs.Changing.{ok_as}
use Rattle.sr_database_fold.proofs.Meant.{own_told, taken_told, taken_unknown, ddl_of, ddl_told, pass_told, pass_unknown, only_told, sync_told, note_told}
use Rattle.sr_database_fold.proofs.Taking.{plain_told, run_told, met_told, no_set, clash_told}

-- ---- texts

-- a text is that of one statement at most
pub text_once : (kind : Stmt → Bool) (text : List ℕ) (a b : Stmt) → IsTextOf kind text a → IsTextOf kind text b → a ≡ b
text_once kind text a b s t = prints_once text a b s.prints t.prints

-- one of another kind is the only one that prints so
pub other_kind : (kind : Stmt → Bool) (text : List ℕ) (found : Option Stmt) (s : Stmt) → IfSome found (λ x. Prints x text) → found ≡ Some s → kind s ≡ false
    → IsOneOrNone (IsTextOf kind text) None
other_kind kind text found s h is other =
    let prints : Prints s text = subst (λ (o : Option Stmt). IfSome o (λ x. Prints x text)) is h in
    λ x t.
    let one : x ≡ s = prints_once text x s t.prints prints in
    let so : kind x ≡ true = t.is_kind in
    let but : kind x ≡ false = ap kind one ∙ other in
    cc

-- the one that was found
pub found_text : (kind : Stmt → Bool) (text : List ℕ) (found : Option Stmt) (s : Stmt) → IsOneOrNone (IsTextOf kind text) found → found ≡ Some s → IsTextOf kind text s
found_text kind text found s h is = subst (λ (o : Option Stmt). IsOneOrNone (IsTextOf kind text) o) is h

-- none prints so
pub no_text : (kind : Stmt → Bool) (text : List ℕ) → ((s : Stmt) → ¬ (Prints s text)) → IsOneOrNone (IsTextOf kind text) None
no_text kind text never = λ x t. never x t.prints

-- ---- what is spelled has two rows in each change

differ_all : (changes : List Change) → AllByRecursion IsChange changes → AllByRecursion Differs changes
differ_all [] h = tt
differ_all (c ∷ cs) h = (h.0.differ, differ_all cs h.1)

pub own_differs : (changes : List Change) → IsEntry (entries.Own changes) → AllByRecursion Differs changes
unfolding IsEntry
own_differs changes h = differ_all changes h.items.1

pub pass_differs : (users : List Name) (only : Bool) (text : List ℕ) (changes : List Change) → IsEntry (entries.Pass users only text changes) → AllByRecursion Differs changes
unfolding IsEntry
pass_differs users only text changes h = differ_all changes h.1.1

outcome_differs : (outcome : Outcome) → IsOutcome outcome → OutcomeDiffers outcome
unfolding OutcomeHas
outcome_differs (outcomes.Plain changes) h = differ_all changes h.1
outcome_differs (outcomes.Conflict inserts before after) h = differ_all inserts h.0.1
outcome_differs (outcomes.Clash why) h = tt

outcomes_differ : (ops : List (Op × Outcome)) → AllByRecursion (λ p. IsOp p.0 × IsOutcome p.1) ops → AllByRecursion (λ p. OutcomeDiffers p.1) ops
outcomes_differ [] h = tt
outcomes_differ (p ∷ ps) h = (outcome_differs p.1 h.0.1, outcomes_differ ps h.1)

pub taken_differs : (user : Name) (at : Offset) (ops : List (Op × Outcome)) → IsEntry (entries.From user at ops) → AllByRecursion (λ p. OutcomeDiffers p.1) ops
unfolding IsEntry
taken_differs user at ops h = outcomes_differ ops h.2.items.1

-- ---- statements

module _ (catalog : Lists) (rows : Marked) (after : Lists) (new : Marked) where
  pub statement_done : (statement : Stmt) → IsAccepted (state_in catalog rows) statement → state_in after new ≡ with_statement statement (state_in catalog rows)
      → StatementTold (state_in catalog rows) statement (state_in after new) true
  unfolding StatementTold
  statement_done statement accepted behind = (accepted, behind)

  pub statement_unfit : (statement : Stmt) → ¬ (IsAccepted (state_in catalog rows) statement) → StatementTold (state_in catalog rows) statement (state_in after new) false
  unfolding StatementTold
  statement_unfit statement never = never

  -- ---- what runs

  ran_as : (mid : Marked) (text : List ℕ) (changes : List Change) (statement : Stmt) → IsTextOf is_carried text statement
      → IsAccepted (state_in catalog rows) statement → ChangesTold catalog rows.rows changes mid.rows true
      → state_in after new ≡ with_statement statement (state_in catalog mid) → RunTold (state_in catalog rows) text changes (state_in after new) true
  unfolding ChangesTold RunTold
  ran_as mid text changes statement is accepted t behind = (
    statement,
    record { stands = is; accepted = accepted; fit = t.0 },
    behind ∙ ap (λ (m : RowMap). with_statement statement (record { catalog = catalog; rows = m })) t.1,
  )

  pub ran_here : (mid : Marked) (text : List ℕ) (changes : List Change) (statement : Stmt) (told : Bool) → IsTextOf is_carried text statement
      → IsAccepted (state_in catalog rows) statement → told ≡ true → ChangesTold catalog rows.rows changes mid.rows told
      → state_in after new ≡ with_statement statement (state_in catalog mid) → RunTold (state_in catalog rows) text changes (state_in after new) true
  ran_here mid text changes statement told is accepted so t behind =
      ran_as mid text changes statement is accepted (subst (λ (b : Bool). ChangesTold catalog rows.rows changes mid.rows b) so t) behind

  pub text_wrong : (text : List ℕ) (changes : List Change) → ((statement : Stmt) → ¬ (IsTextOf is_carried text statement))
      → RunTold (state_in catalog rows) text changes (state_in after new) false
  unfolding RunTold
  text_wrong text changes never = λ statement r. never statement r.stands

  pub statement_refused : (text : List ℕ) (changes : List Change) (statement : Stmt) → IsTextOf is_carried text statement
      → ¬ (IsAccepted (state_in catalog rows) statement) → RunTold (state_in catalog rows) text changes (state_in after new) false
  unfolding RunTold
  statement_refused text changes statement is never = λ s r.
      never (subst (λ (x : Stmt). IsAccepted (state_in catalog rows) x) (text_once is_carried text s statement r.stands is) r.accepted)

  pub changes_unfit : (mid : RowMap) (text : List ℕ) (changes : List Change) (told : Bool) → told ≡ false → ChangesTold catalog rows.rows changes mid told
      → RunTold (state_in catalog rows) text changes (state_in after new) false
  unfolding ChangesTold RunTold
  changes_unfit mid text changes told unfit t =
      let u : ChangesTold catalog rows.rows changes mid false = subst (λ (b : Bool). ChangesTold catalog rows.rows changes mid b) unfit t in
      λ s r. u r.fit

-- ---- what is passed on

not_none : (changes : List Change) → false ≡ (length changes == 0) → ¬ (changes ≡ [])
not_none changes some none = let no : false ≡ true = some ∙ ap (λ (l : List Change). length l == 0) none in cc

is_none : (changes : List Change) → true ≡ (length changes == 0) → changes ≡ []
is_none changes none = nil_from_length changes (eqb-true (length changes) 0 (sym none))

pub none_beside : (statement : Stmt) (changes : List Change) → true ≡ (length changes == 0) → IsTrue true ↔ MayHaveChanges false statement changes
none_beside statement changes none = (λ e ddl. is_none changes none, λ may. refl)

pub some_beside : (statement : Stmt) (changes : List Change) (ddl : Bool) → ddl ≡ is_ddl statement → false ≡ (length changes == 0)
    → IsTrue (not ddl) ↔ MayHaveChanges false statement changes
some_beside statement changes true is some = (λ e. absurd (let no : false ≡ true = e in cc), λ may. absurd (not_none changes some (may (sym is))))
some_beside statement changes false is some = (λ e ddl. absurd (let no : false ≡ true = is ∙ ddl in cc), λ may. refl)

pub passed_wrong : (s after : State) (text : List ℕ) (changes : List Change) → ((statement : Stmt) → ¬ (IsTextOf is_carried text statement))
    → PassRunTold s text changes after false
unfolding PassRunTold
passed_wrong s after text changes never = λ statement r. never statement r.runs.stands

-- changes that may not stand beside it
pub beside_not : (s after : State) (text : List ℕ) (changes : List Change) (statement : Stmt) → IsTextOf is_carried text statement
    → ¬ (MayHaveChanges false statement changes) → PassRunTold s text changes after false
unfolding PassRunTold
beside_not s after text changes statement is never = λ x r.
    never (subst (λ (y : Stmt). MayHaveChanges false y changes) (text_once is_carried text x statement r.runs.stands is) r.may)

beside_as : (s after : State) (text : List ℕ) (changes : List Change) (statement : Stmt) (told : Bool) → IsTextOf is_carried text statement
    → MayHaveChanges false statement changes → RunTold s text changes after told → PassRunTold s text changes after told
unfolding RunTold PassRunTold
beside_as s after text changes statement true is may t = (
  t.0,
  record { runs = t.1; may = subst (λ (y : Stmt). MayHaveChanges false y changes) (text_once is_carried text statement t.0 is t.1.stands) may },
  t.2,
)
beside_as s after text changes statement false is may t = λ x r. t x r.runs

pub beside_ok : {E : Type 0} (s after : State) (text : List ℕ) (changes : List Change) (statement : Stmt) (r : Result Bool E) → IsTextOf is_carried text statement
    → MayHaveChanges false statement changes → IfOk r (λ told. RunTold s text changes after told) → IfOk r (λ told. PassRunTold s text changes after told)
beside_ok s after text changes statement r is may h = ok_as r (λ told. beside_as s after text changes statement told is may) h

-- ---- what is passed on alone

-- it has changes
pub changes_beside : (text : List ℕ) (changes : List Change) → false ≡ (length changes == 0) → PassedTold text changes false
unfolding PassedTold
changes_beside text changes some = (λ e. absurd (let no : false ≡ true = e in cc), λ p. absurd (not_none changes some p.1.none))

pub text_of_none : (text : List ℕ) (changes : List Change) → ((statement : Stmt) → ¬ (IsTextOf is_carried text statement)) → PassedTold text changes false
unfolding PassedTold
text_of_none text changes never = (λ e. absurd (let no : false ≡ true = e in cc), λ p. absurd (never p.0 p.1.stands))

pub passed_alone : (text : List ℕ) (changes : List Change) (statement : Stmt) → true ≡ (length changes == 0) → IsTextOf is_carried text statement
    → PassedTold text changes true
unfolding PassedTold
passed_alone text changes statement none is = (λ e. (statement, record { stands = is; none = is_none changes none }), λ p. refl)

-- ---- ops

module _ (catalog : Lists) (rows new : Marked) where
  pub plain_ok : {E : Type 0} (op : Op) (changes : List Change) (r : Result Bool E) → IsNoExec op
      → IfOk r (λ told. ChangesTold catalog rows.rows changes new.rows told)
      → IfOk r (λ told. OpTold (state_in catalog rows) op (outcomes.Plain changes) (state_in catalog new) told)
  unfolding ChangesTold OpTold
  plain_ok op changes r no_exec h = ok_as r (λ told. plain_told (state_in catalog rows) (state_in catalog new) op changes told no_exec refl) h

  pub met_ok : {E : Type 0} (table : Name) (key : List (Name × Cell)) (columns : List (Name × Cell × Cell)) (inserts : List Change)
      (before after : List Cell) (r : Result Bool E)
      → IfOk r (λ told. ConflictTold catalog rows.rows table key inserts before after new.rows told)
      → IfOk r (λ told. OpTold (state_in catalog rows) (ops.Set table key columns) (outcomes.Conflict inserts before after) (state_in catalog new) told)
  unfolding ConflictTold OpTold
  met_ok table key columns inserts before after r h =
      ok_as r (λ told. met_told (state_in catalog rows) (state_in catalog new) table key columns inserts before after told refl) h

pub run_ok : {E : Type 0} (s after : State) (text : List ℕ) (changes : List Change) (r : Result Bool E)
    → IfOk r (λ told. RunTold s text changes after told) → IfOk r (λ told. OpTold s (ops.Exec text) (outcomes.Plain changes) after told)
unfolding RunTold OpTold
run_ok s after text changes r h = ok_as r (λ told. run_told s after text changes told) h

-- no op but a Set met another value
pub met_by_no_set : (s after : State) (op : Op) (inserts : List Change) (before after_row : List Cell) → ¬ (IsSet op)
    → OpTold s op (outcomes.Conflict inserts before after_row) after false
unfolding OpTold
met_by_no_set s after op inserts before after_row other = λ d f. no_set s op inserts before after_row d other f

-- an op that was skipped fits anywhere
pub clash_ok : (s : State) (op : Op) (why : Clash) → OpTold s op (outcomes.Clash why) s true
unfolding OpTold
clash_ok s op why = clash_told s op why

-- ---- entries

pub own_ok : {E : Type 0} (catalog : Lists) (rows new : Marked) (changes : List Change) (r : Result Bool E)
    → IfOk r (λ told. ChangesTold catalog rows.rows changes new.rows told)
    → IfOk r (λ told. EntryTold (state_in catalog rows) (entries.Own changes) (state_in catalog new) told)
unfolding ChangesTold EntryTold
own_ok catalog rows new changes r h = ok_as r (λ told. own_told (state_in catalog rows) (state_in catalog new) changes told refl) h

pub taken_ok : {E : Type 0} (s after : State) (user : Name) (at : Offset) (ops : List (Op × Outcome)) (r : Result Bool E) → Knows s user
    → IfOk r (λ told. OpsTold s ops after told) → IfOk r (λ told. EntryTold s (entries.From user at ops) after told)
unfolding OpsTold EntryTold
taken_ok s after user at ops r known h = ok_as r (λ told. taken_told s after user at ops told known) h

pub taken_by_unknown : (s after : State) (user : Name) (at : Offset) (ops : List (Op × Outcome)) → ¬ (Knows s user)
    → EntryTold s (entries.From user at ops) after false
unfolding EntryTold
taken_by_unknown s after user at ops never = taken_unknown s after user at ops never

pub run_passed_ok : {E : Type 0} (s after : State) (users : List Name) (only : Bool) (text : List ℕ) (changes : List Change) (r : Result Bool E) → only ≡ false
    → AllByRecursion (Knows s) users → IfOk r (λ told. PassRunTold s text changes after told) → IfOk r (λ told. EntryTold s (entries.Pass users only text changes) after told)
unfolding PassRunTold EntryTold
run_passed_ok s after users only text changes r here known h =
    subst (λ (b : Bool). IfOk r (λ told. EntryTold s (entries.Pass users b text changes) after told)) (sym here)
    (ok_as r (λ told. pass_told s after users text changes told known) h)

pub only_passed_ok : {E : Type 0} (s : State) (users : List Name) (only : Bool) (text : List ℕ) (changes : List Change) (r : Result Bool E)
    → only ≡ true → AllByRecursion (Knows s) users → IfOk r (λ told. PassedTold text changes told)
    → IfOk r (λ told. EntryTold s (entries.Pass users only text changes) s told)
unfolding PassedTold EntryTold
only_passed_ok s users only text changes r there known h =
    subst (λ (b : Bool). IfOk r (λ told. EntryTold s (entries.Pass users b text changes) s told)) (sym there)
    (ok_as r (λ told. only_told s users text changes told known) h)

pub passed_to_unknown : (s after : State) (users : List Name) (only : Bool) (text : List ℕ) (changes : List Change) → ¬ (AllByRecursion (Knows s) users)
    → EntryTold s (entries.Pass users only text changes) after false
unfolding EntryTold
passed_to_unknown s after users only text changes never = pass_unknown s after users only text changes never

ddl_as : (s after : State) (text : List ℕ) (statement : Stmt) (told : Bool) → IsTextOf is_ddl text statement → StatementTold s statement after told
    → EntryTold s (entries.Ddl text) after told
unfolding StatementTold EntryTold
ddl_as s after text statement true is t = ddl_told s after text statement is t.0 t.1
ddl_as s after text statement false is t = λ r f.
    let d = ddl_of s text r f in
    t (subst (λ (x : Stmt). IsAccepted s x) (text_once is_ddl text d.0 statement d.1 is) d.2)

pub ddl_ok : {E : Type 0} (s after : State) (text : List ℕ) (statement : Stmt) (r : Result Bool E) → IsTextOf is_ddl text statement
    → IfOk r (λ told. StatementTold s statement after told) → IfOk r (λ told. EntryTold s (entries.Ddl text) after told)
ddl_ok s after text statement r is h = ok_as r (λ told. ddl_as s after text statement told is) h

pub ddl_wrong : (s after : State) (text : List ℕ) → ((statement : Stmt) → ¬ (IsTextOf is_ddl text statement)) → EntryTold s (entries.Ddl text) after false
unfolding EntryTold
ddl_wrong s after text never = λ r f. let d = ddl_of s text r f in never d.0 d.1

pub sync_ok : (s : State) (user : Name) (tables : List (Name × List (List Cell))) (told : Bool) → IsTrue told ↔ Knows s user
    → EntryTold s (entries.Sync user tables) s told
unfolding EntryTold
sync_ok s user tables told same = sync_told s user tables told same

pub note_ok : (s : State) (user : Name) (what : Note) (told : Bool) → IsTrue told ↔ Knows s user → EntryTold s (entries.Note user what) s told
unfolding EntryTold
note_ok s user what told same = note_told s user what told same
