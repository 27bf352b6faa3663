-- The changes of an op that was judged, as pending ones: they fit, and the rows with them are those of the state behind the op.
use Rattle.std.proofs.Common.{◌≡◌, ◌⊎◌, ◌≤◌, Bool, true, false, cond, List, [], ◌∷◌, ◌++◌, length, Option, Some, None, inl, inr, refl, sym, ap, subst, ◌∙◌, arith, append_assoc}
use Rattle.std.proofs.lemmas.List.{append-nil, length-append}
use Rattle.std.specs.Cmp.{Equal-is}
use Rattle.std.specs.List.{AllByRecursion}
use Rattle.std.specs.Ordering.{eq_by_cmp, is_eq}
use Rattle.std.specs.FinMap.{get, insert, same_map, get-insert}
use Rattle.sr_base.specs.Fields.{IsListOf}
use Rattle.sr_base.specs.Order.{key_cmp}
use Rattle.sr_base.specs.Values.{IsShort}
use Rattle.sr_base.specs.declared.value.Value.{Value as Cell}
use Rattle.sr_book.specs.Entries.{Name}
use Rattle.sr_mail_cut.proofs.Lists.{AllByRecursion-append, AllByRecursion-back}
use Rattle.sr_database.specs.Advances.{Advances}
use Rattle.sr_database.specs.Inner.Sound.{IsSound}
use Rattle.sr_database.proofs.Advancing.{none_advanced, advanced_then}
use Rattle.sr_database.specs.Views.{View, committed}
use Rattle.sr_database.specs.Inner.Views.{present}
use Rattle.sr_exec_dml.specs.Applying.{applied, applied_in}
use Rattle.sr_exec_dml.specs.Fitting.{RowsFit}
use Rattle.sr_exec_dml.specs.FittingChanges.{IsFitChange, ChangesFit}
use Rattle.sr_exec_where.specs.Keys.{key_of}
use Rattle.sr_exec_dml.specs.Statements.{table_named}
use Rattle.sr_exec_dml.proofs.Folding.{itself, same_key}
use Rattle.sr_exec_dml.proofs.Over.{over}
use Rattle.sr_database_fold.proofs.Changing.{applied_append, changes_append, own_name}
use Rattle.sr_database_history.specs.Fitting.{DoneFits}
use Rattle.sr_database_history.specs.Folds.{State, after_done}
use Rattle.sr_database_history.specs.Recorded.{Done, plain, ran, conflict, clash, done_of, IsLawfulDone}
use Rattle.sr_logform.specs.Ops.{IsShortOp}
use Rattle.sr_logform.specs.Outcomes.{IsShortChange, IsShortOutcome, OutcomeHas}
use Rattle.sr_logform.specs.declared.change.Change.{Change}
use Rattle.sr_logform.specs.declared.op.Op.{Op}
use Rattle.sr_logform.specs.declared.op.Op.TheVariants as ops
use Rattle.sr_logform.specs.declared.outcome.Outcome.{Outcome}
use Rattle.sr_logform.specs.declared.outcome.Outcome.TheVariants as outcomes
use Rattle.sr_rows.specs.Marks.{Place, RowMap, place_cmp}
use Rattle.sr_rows.specs.Inner.Marks.{place_cmp_total}
use Rattle.sr_rows.specs.Inner.Steps.{at_mark}
use Rattle.sr_rows.proofs.Gathering.{exact_places}
use Rattle.sr_catalog_schema.specs.Catalogs.{Lists}
use Rattle.sr_receive_judged.specs.Judged.{AreJudgedAs}
use Rattle.sr_receive_judged.specs.Inner.Judged.{IsAlike, is_exec, pending_of, row_changes, table_of}
use Rattle.sr_receive_judged.specs.Inner.OneOp.{IsBehind, IsPairOf, PendingMore}
use Rattle.sr_receive_judged.proofs.Judgements.{behind_more, none_judged, pair_behind, pair_done}

-- ---- a row that is put where it stands

put_again : (rows : RowMap) (p : Place) (row : List Cell) → get rows p ≡ Some row → insert rows p row ≡ rows
put_again rows p row there = same_map place_cmp_total exact_places _ _ (λ q. get-insert place_cmp_total rows p row q ∙ go q (eq_by_cmp place_cmp q p) refl) where
  go : (q : Place) (b : Bool) → eq_by_cmp place_cmp q p ≡ b → cond b (Some row) (get rows q) ≡ get rows q
  go q true e = sym there ∙ ap (get rows) (sym (exact_places q p ((Equal-is (place_cmp q p)).0 e)))
  go q false e = refl

-- the change of a row to itself
abbrev stays_as : Name → List Cell → Change
stays_as table row = record { table = table; before = Some row; after = Some row }

nothing_changes : (catalog : Lists) (rows : RowMap) (table : Name) (row : List Cell) → IsFitChange catalog rows (stays_as table row)
    → applied_in (table_named catalog table) (stays_as table row) rows ≡ rows
nothing_changes catalog rows table row fit =
    let t = fit.table in
    let name : table ≡ t.name = own_name catalog table t fit.named in
    let place : Place = (t.name, key_of t.key row) in
    let there : get rows place ≡ Some row = (λ i. get rows (sym name i, fit.fits.1 i)) ∙ fit.held in
    ap (λ o. applied_in o (stays_as table row) rows) fit.named ∙ over rows place row ∙ put_again rows place row there

-- of a row before and after that may be one
either_way : (catalog : Lists) (rows : RowMap) (table : Name) (before after : List Cell) → ChangesFit catalog rows (record { table = table; before = Some before; after = Some after } ∷ [])
    → applied catalog (row_changes (Some table) before after) rows ≡ applied catalog (record { table = table; before = Some before; after = Some after } ∷ []) rows
either_way catalog rows table before after fit = go (is_eq (key_cmp before after)) refl where
  go : (b : Bool) → is_eq (key_cmp before after) ≡ b → applied catalog (cond b [] (record { table = table; before = Some before; after = Some after } ∷ [])) rows
      ≡ applied catalog (record { table = table; before = Some before; after = Some after } ∷ []) rows
  go true e =
      let same : before ≡ after = same_key before after e in
      sym (subst (λ (x : List Cell). IsFitChange catalog rows (record { table = table; before = Some before; after = Some x })
      → applied_in (table_named catalog table) (record { table = table; before = Some before; after = Some x }) rows ≡ rows) same (nothing_changes catalog rows table before) fit.0)
  go false e = refl

-- ---- the changes of what was done

-- they fit
prefix_fits : (catalog : Lists) (rows : RowMap) (table : Name) (inserts : List Change) (before after : List Cell)
    → ChangesFit catalog rows (inserts ++ record { table = table; before = Some before; after = Some after } ∷ [])
    → ChangesFit catalog rows (inserts ++ row_changes (Some table) before after)
prefix_fits catalog rows table inserts before after fit = go (is_eq (key_cmp before after)) where
  go : (b : Bool) → ChangesFit catalog rows (inserts ++ cond b [] (record { table = table; before = Some before; after = Some after } ∷ []))
  go true = subst (λ (l : List Change). ChangesFit catalog rows l) (sym (append-nil inserts))
      ((changes_append catalog rows inserts (record { table = table; before = Some before; after = Some after } ∷ [])).0 fit).0
  go false = fit

pub pending_fits : (s : State) (d : Done) → IsLawfulDone d → DoneFits s d → ChangesFit s.catalog s.rows (pending_of (done_of d).0 (done_of d).1)
pending_fits s (plain op changes) meant fit = fit.changes
pending_fits s (ran statement changes) meant fit = fit.changes
pending_fits s (conflict (ops.Insert table values) inserts before after) meant fit = absurd meant
pending_fits s (conflict (ops.Remove table key) inserts before after) meant fit = absurd meant
pending_fits s (conflict (ops.Set table key columns) inserts before after) meant fit = prefix_fits s.catalog s.rows table inserts before after fit.changes
pending_fits s (conflict (ops.Clear table) inserts before after) meant fit = absurd meant
pending_fits s (conflict (ops.Exec text) inserts before after) meant fit = absurd meant
pending_fits s (clash op why) meant fit = tt

-- they come to what was done, but for a statement
met_comes : (s : State) (table : Name) (inserts : List Change) (before after : List Cell)
    → ChangesFit s.catalog s.rows (inserts ++ record { table = table; before = Some before; after = Some after } ∷ [])
    → applied s.catalog (inserts ++ row_changes (Some table) before after) s.rows ≡ applied s.catalog (inserts ++ record { table = table; before = Some before; after = Some after } ∷ []) s.rows
met_comes s table inserts before after fit =
    let mid = applied s.catalog inserts s.rows in
    let last = ((changes_append s.catalog s.rows inserts (record { table = table; before = Some before; after = Some after } ∷ [])).0 fit).1 in
    applied_append s.catalog s.rows inserts (row_changes (Some table) before after)
    ∙ either_way s.catalog mid table before after last
    ∙ sym (applied_append s.catalog s.rows inserts (record { table = table; before = Some before; after = Some after } ∷ []))

-- the state with the changes that are pending of what was done
abbrev with_pending : State → Done → State
with_pending s d = record { catalog = s.catalog; rows = applied s.catalog (pending_of (done_of d).0 (done_of d).1) s.rows }

pub pending_comes : (s : State) (d : Done) → IsLawfulDone d → DoneFits s d → is_exec (done_of d).0 ≡ false → with_pending s d ≡ after_done d s
pending_comes s (plain op changes) meant fit other = refl
pending_comes s (ran statement changes) meant fit other = cc
pending_comes s (conflict (ops.Insert table values) inserts before after) meant fit other = absurd meant
pending_comes s (conflict (ops.Remove table key) inserts before after) meant fit other = absurd meant
pending_comes s (conflict (ops.Set table key columns) inserts before after) meant fit other =
    λ i. record { catalog = s.catalog; rows = met_comes s table inserts before after fit.changes i }
pending_comes s (conflict (ops.Clear table) inserts before after) meant fit other = absurd meant
pending_comes s (conflict (ops.Exec text) inserts before after) meant fit other = absurd meant
pending_comes s (clash op why) meant fit other = refl

-- and they can be written
row_short : (table : Option Name) (before after : List Cell) → IsListOf IsShort before → IsListOf IsShort after → AllByRecursion IsShortChange (row_changes table before after)
row_short None before after short_before short_after = tt
row_short (Some table) before after short_before short_after = go (is_eq (key_cmp before after)) refl where
  go : (b : Bool) → is_eq (key_cmp before after) ≡ b → AllByRecursion IsShortChange (cond b [] (record { table = table; before = Some before; after = Some after } ∷ []))
  go true e = tt
  go false e = (
    record {
      table = tt;
      before = short_before;
      after = short_after;
      differ = λ (same : Some before ≡ Some after).
          let one : before ≡ after = cc in
          let no : true ≡ false = sym (itself before) ∙ ap (λ (k : List Cell). is_eq (key_cmp before k)) one ∙ e in
          cc;
    },
    tt,
  )

pub pending_short : (op : Op) (outcome : Outcome) → IsShortOutcome outcome → AllByRecursion IsShortChange (pending_of op outcome)
unfolding OutcomeHas
pending_short op (outcomes.Plain changes) short = short.1
pending_short op (outcomes.Conflict inserts before after) short =
    AllByRecursion-append IsShortChange inserts (row_changes (table_of op) before after) short.0.1 (row_short (table_of op) before after short.1 short.2)
pending_short op (outcomes.Clash why) short = tt

-- ---- nothing pending

pub nothing_pending : (view : View) → IsSound view → view.pending ≡ [] → present view ≡ committed view
nothing_pending view sound none =
    let are = sound.pending in
    let rows : view.rows.rows ≡ view.rows.marked = are.rows_are ∙ ap (λ (l : List Change). applied view.catalog l view.rows.marked) none in
    λ i. record { catalog = view.catalog; rows = rows i }

pub judged_from : (view : View) (after : State) (above : Bool) (asked : List Op) (judged : List (Op × Outcome)) → IsSound view → view.pending ≡ []
    → AreJudgedAs (present view) after above asked judged → AreJudgedAs (committed view) after above asked judged
judged_from view after above asked judged sound none are = subst (λ (s : State). AreJudgedAs s after above asked judged) (nothing_pending view sound none) are

-- the changes that are pending are taken back
pub alike_back : (old mid new : View) → mid.catalog ≡ old.catalog → mid.log ≡ old.log → Advances old mid []
    → new ≡ record mid { rows = at_mark mid.rows.marked; pending = [] } → Advances mid new [] → IsAlike old new
alike_back old mid new catalog log kept back advanced = record {
  idle = ap (λ (v : View). v.pending) back;
  catalog = ap (λ (v : View). v.catalog) back ∙ catalog;
  log = ap (λ (v : View). v.log) back ∙ log;
  value = advanced_then old mid new [] [] kept advanced;
}

-- ---- ops one after the other

pub pair_fits : (s : State) (above : Bool) (op : Op) (pair : Op × Outcome) → RowsFit s.catalog s.rows → IsPairOf s above op pair
    → ChangesFit s.catalog s.rows (pending_of pair.0 pair.1)
pair_fits s above op pair fit is =
    let found = pair_done s above op pair fit is in
    subst (λ (p : Op × Outcome). ChangesFit s.catalog s.rows (pending_of p.0 p.1)) found.2 (pending_fits s found.0 found.1.meant found.1.fits)

pub pair_short : (s : State) (above : Bool) (op : Op) (pair : Op × Outcome) → IsPairOf s above op pair → AllByRecursion IsShortChange (pending_of pair.0 pair.1)
pair_short s above op pair is = pending_short pair.0 pair.1 is.judged.short

pub pending_more : (old new : View) (above : Bool) (op : Op) (pair : Op × Outcome) (judged judged' : List (Op × Outcome)) → RowsFit old.catalog old.rows.rows
    → IsPairOf (present old) above op pair → new.catalog ≡ old.catalog → new.rows.rows ≡ applied old.catalog (pending_of pair.0 pair.1) old.rows.rows → judged' ≡ judged ++ pair ∷ []
    → PendingMore old new above op judged judged'
pending_more old new above op pair judged judged' fit is catalog rows pushed =
    let found = pair_done (present old) above op pair fit is in
    let d = found.0 in
    let one = found.1 in
    record {
      done = d;
      behind = pair_behind (present old) above op pair judged judged' d is one pushed;
      leaves = λ other.
          let same : (done_of d).0 ≡ op = ap (λ (p : Op × Outcome). p.0) one.is in
          let no_exec : is_exec (done_of d).0 ≡ false = ap is_exec same ∙ other in
          let changes : applied old.catalog (pending_of pair.0 pair.1) old.rows.rows ≡ applied old.catalog (pending_of (done_of d).0 (done_of d).1) old.rows.rows =
          ap (λ (p : Op × Outcome). applied old.catalog (pending_of p.0 p.1) old.rows.rows) (sym found.2) in
          let all : new.rows.rows ≡ applied old.catalog (pending_of (done_of d).0 (done_of d).1) old.rows.rows = rows ∙ changes in
          (λ i. record { catalog = catalog i; rows = all i }) ∙ pending_comes (present old) d one.meant one.fits no_exec;
    }

-- the ops before those that are left were judged, and their changes are pending
pub record PendingSoFar (old now : View) (above : Bool) (asked left : List Op) (judged : List (Op × Outcome)) : Type 0 where
  pub passed : List Op
  pub parts : asked ≡ passed ++ left
  pub after : State
  pub are : AreJudgedAs (present old) after above passed judged
  pub stands : ¬ (left ≡ []) → after ≡ present now
  pub catalog : now.catalog ≡ old.catalog
  pub log : now.log ≡ old.log
  pub value : Advances old now []

pub pending_start : (view : View) (above : Bool) (asked : List Op) (judged : List (Op × Outcome)) → judged ≡ [] → PendingSoFar view view above asked asked judged
pending_start view above asked judged none = record {
  passed = [];
  parts = refl;
  after = present view;
  are = subst (λ (l : List (Op × Outcome)). AreJudgedAs (present view) (present view) above [] l) (sym none) (none_judged (present view) above);
  stands = λ some. refl;
  catalog = refl;
  log = refl;
  value = none_advanced view;
}

-- of one op at most none is left behind the first
none_left : (asked passed rest : List Op) (op : Op) → asked ≡ passed ++ op ∷ rest → length asked ≤ 1 → rest ≡ []
none_left asked passed [] op parts few = refl
none_left asked passed (r ∷ rest) op parts few = absurd (omega (arith, ap length parts, length-append passed (op ∷ r ∷ rest)))

-- none that others follow is a statement
no_statement : (asked passed rest : List Op) (op : Op) → asked ≡ passed ++ op ∷ rest → (length asked ≤ 1) ⊎ AllByRecursion (λ o. is_exec o ≡ false) asked → ¬ (rest ≡ []) → is_exec op ≡ false
no_statement asked passed rest op parts (inl few) some = absurd (some (none_left asked passed rest op parts few))
no_statement asked passed rest op parts (inr all) some =
    (AllByRecursion-back (λ (o : Op). is_exec o ≡ false) passed (op ∷ rest) (subst (λ (l : List Op). AllByRecursion (λ o. is_exec o ≡ false) l) parts all)).0

pub pending_on : (old now new : View) (above : Bool) (asked left rest : List Op) (op : Op) (judged judged' : List (Op × Outcome)) → PendingSoFar old now above asked left judged
    → left ≡ op ∷ rest → AllByRecursion IsShortOp asked → (length asked ≤ 1) ⊎ AllByRecursion (λ o. is_exec o ≡ false) asked → PendingMore now new above op judged judged'
    → new.catalog ≡ now.catalog → new.log ≡ now.log → Advances now new []
    → PendingSoFar old new above asked rest judged'
pending_on old now new above asked left rest op judged judged' so split short few_or_other more catalog log value =
    let parts : asked ≡ so.passed ++ op ∷ rest = so.parts ∙ ap (λ (l : List Op). so.passed ++ l) split in
    let stands : so.after ≡ present now = so.stands (λ none. let no : op ∷ rest ≡ [] = sym split ∙ none in cc) in
    let d = more.done in
    let short_op : IsShortOp op = (AllByRecursion-back IsShortOp so.passed (op ∷ rest) (subst (λ (l : List Op). AllByRecursion IsShortOp l) parts short)).0 in
    let behind : IsBehind so.after above op judged judged' d = subst (λ (s : State). IsBehind s above op judged judged' d) (sym stands) more.behind in
    record {
      passed = so.passed ++ op ∷ [];
      parts = parts ∙ sym (append_assoc so.passed (op ∷ []) rest);
      after = after_done d so.after;
      are = behind_more (present old) so.after above so.passed op judged judged' d so.are short_op behind;
      stands = λ some. ap (after_done d) stands ∙ sym (more.leaves (no_statement asked so.passed rest op parts few_or_other some));
      catalog = catalog ∙ so.catalog;
      log = log ∙ so.log;
      value = advanced_then old now new [] [] so.value value;
    }

no_items : {A : Type 0} (items : List A) → length items ≡ 0 → items ≡ []
no_items [] end = refl
no_items (x ∷ items) end = cc

pub pending_end : (old now : View) (above : Bool) (asked left : List Op) (judged : List (Op × Outcome)) → PendingSoFar old now above asked left judged → length left ≡ 0
    → (after : State) × AreJudgedAs (present old) after above asked judged
pending_end old now above asked left judged so end =
    let none : left ≡ [] = no_items left end in
    let all : so.passed ≡ asked = sym (append-nil so.passed) ∙ ap (λ (l : List Op). so.passed ++ l) (sym none) ∙ sym so.parts in
    (so.after, subst (λ (l : List Op). AreJudgedAs (present old) so.after above l judged) all so.are)
