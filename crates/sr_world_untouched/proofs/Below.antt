-- Below, each transaction that is taken from above leaves of a row what its ops leave.
use Rattle.std.proofs.Common.{◌≡◌, inl, inr, ℕ, ◌+◌, Bool, true, false, cond, map, List, [], ◌∷◌, ◌++◌, Option, Some, None, IsSome, bytes_eq, refl, sym, ap, subst, ◌∙◌, if◌then◌else◌, append-nil, append_assoc}
use Rattle.std.specs.List.{AllByRecursion}
use Rattle.sr_ast.specs.declared.stmt.Stmt.{Stmt}
use Rattle.sr_ast.specs.declared.stmt.Stmt.TheVariants as stmt
use Rattle.sr_base.specs.declared.value.Value.{Value as Cell}
use Rattle.sr_book.specs.Entries.{Name, takes}
use Rattle.sr_book.specs.Histories.{taken as taken_from}
use Rattle.sr_catalog_change.specs.Changes.{next as catalog_after}
use Rattle.sr_catalog_ddl.specs.Users.{stands_above, user_of}
use Rattle.sr_exec_where.proofs.Fixed.{same_name, bytes_itself}
use Rattle.sr_exec_dml.specs.Fitting.{RowsFit}
use Rattle.sr_exec_dml.specs.Statements.{table_named}
use Rattle.sr_database_history.proofs.Granted.{stays_known}
use Rattle.sr_database_history.proofs.Kept.{stays_held}
use Rattle.sr_database_history.proofs.Tables.{find_first}
use Rattle.sr_database_history.specs.Fitting.{Knows, DonesFit, FitsState}
use Rattle.sr_database_history.specs.Folds.{State, with_changes, with_statement, after_done, after_dones, after_pass, next, sees, size, state_from}
use Rattle.sr_database_history.specs.Inner.Laws.{Holds}
use Rattle.sr_database_history.specs.Recorded.{Done, plain, ran, conflict, clash, done_of, Recorded, own, taken, ddl, sync, pass, note, IsNoExec}
use Rattle.sr_logform.specs.declared.change.Change.{Change}
use Rattle.sr_logform.specs.declared.op.Op.{Op}
use Rattle.sr_logform.specs.declared.op.Op.TheVariants.{Insert, Remove, Set, Clear, Exec}
use Rattle.sr_logform.specs.declared.outcome.Clash.TheVariants.{NoTable}
use Rattle.sr_logform.specs.declared.outcome.Outcome.{Outcome}
use Rattle.sr_world_model.specs.Machines.{lawful_from}
use Rattle.sr_resolve.specs.Judging.{clash_unless, IsStatementOf, judged_insert, judged_remove, judged_set, judged_clear}
use Rattle.sr_resolve.specs.Taking.{done_judged, is_above, op_of, IsDoneJudged, AreJudged}
use Rattle.sr_rows.specs.Marks.{rows_of_table}
use Rattle.sr_scan.proofs.Agreeing.{done_fits}
use Rattle.sr_catalog_schema.specs.Catalogs.{Lists}
use Rattle.sr_catalog_schema.specs.Members.{user_name}
use Rattle.sr_catalog_schema.specs.Names.{named}
use Rattle.sr_catalog_schema.specs.declared.table.Table.{Table}
use Rattle.sr_catalog_schema.specs.declared.user.User.{User}
use Rattle.sr_world_untouched.specs.Untouched.{EachFrom, IsTakenFrom, KeepsBelow}
use Rattle.sr_world_untouched.proofs.Along.{ops_of}
use Rattle.sr_world_untouched.proofs.Left.{left_by, left_all, left_all-append}
use Rattle.sr_resolve.proofs.Local.{left, insert_leaves, remove_leaves, set_leaves, clear_leaves, insert_away, remove_away, set_away, clear_away, in_another}
use Rattle.sr_resolve.specs.Inner.Leaving.{insert_left, remove_left, set_left}
use Rattle.sr_world_untouched.proofs.Told.{Row}
use Rattle.sr_world.specs.Lawful.{IsLawful}
use Rattle.sr_world.specs.Real.{machine}

-- ---- who is above stays so

place_still : (name : Name) (users more : List User) (o : Option User) → named user_name name users ≡ o → IsSome o → stands_above (named user_name name (users ++ more)) ≡ stands_above o
place_still name users more None e some = cc
place_still name users more (Some u) e some = ap stands_above (find_first (λ u. bytes_eq name u.name) users more u e)

statement_place : (c : Lists) (s : Stmt) (name : Name) → IsSome (named user_name name c.users) → stands_above (named user_name name (catalog_after c s).users) ≡ stands_above (named user_name name c.users)
unfolding catalog_after
statement_place c (stmt.GrantRemote g) name some = place_still name c.users (user_of false g ∷ []) (named user_name name c.users) refl some
statement_place c (stmt.GrantConsolidate g) name some = place_still name c.users (user_of true g ∷ []) (named user_name name c.users) refl some
statement_place c s name some = refl

with_place : (s : State) (statement : Stmt) (user : Name) → Knows s user → is_above (with_statement statement s) user ≡ is_above s user
unfolding with_statement
with_place s statement user knows = statement_place s.catalog statement user knows

knows_behind : (statement : Stmt) (s : State) (user : Name) → Knows s user → Knows (with_statement statement s) user
unfolding next
knows_behind statement s user knows = stays_known s (ddl statement) user knows

done_place : (d : Done) (s : State) (user : Name) → Knows s user → (is_above (after_done d s) user ≡ is_above s user) × Knows (after_done d s) user
done_place (plain op changes) s user knows = (refl, knows)
done_place (ran statement changes) s user knows = (with_place (with_changes changes s) statement user knows, knows_behind statement (with_changes changes s) user knows)
done_place (conflict op inserts before after) s user knows = (refl, knows)
done_place (clash op why) s user knows = (refl, knows)

dones_place : (dones : List Done) (s : State) (user : Name) → Knows s user → is_above (after_dones dones s) user ≡ is_above s user
dones_place [] s user knows = refl
dones_place (d ∷ dones) s user knows = let one = done_place d s user knows in dones_place dones (after_done d s) user one.1 ∙ one.0

pass_place : (only : Bool) (statement : Stmt) (changes : List Change) (s : State) (user : Name) → Knows s user → is_above (after_pass only statement changes s) user ≡ is_above s user
pass_place true statement changes s user knows = refl
pass_place false statement changes s user knows = with_place (with_changes changes s) statement user knows

entry_place : (s : State) (r : Recorded) (user : Name) → Knows s user → is_above (next s r) user ≡ is_above s user
unfolding next
entry_place s (own changes) user knows = refl
entry_place s (taken other at dones) user knows = dones_place dones s user knows
entry_place s (ddl statement) user knows = with_place s statement user knows
entry_place s (sync other tables) user knows = refl
entry_place s (pass users only statement changes) user knows = pass_place only statement changes s user knows
entry_place s (note other what) user knows = refl

stays_above : (s : State) (rs : List Recorded) (user : Name) → Knows s user → is_above (state_from s rs) user ≡ is_above s user
stays_above s [] user knows = refl
stays_above s (r ∷ rs) user knows = stays_above (next s r) rs user (stays_known s r user knows) ∙ entry_place s r user knows

-- ---- one op

module _ (t : Table) (key : List Cell) (s : State) (there : table_named s.catalog t.name ≡ Some t) (fit : RowsFit s.catalog s.rows) where
  -- by the table of an op
  by_table : (o : Op) (name : Name) (f : Table → Outcome) (next : Row) → left s o t.name key (f t) ≡ next
      → ((x : Table) → table_named s.catalog x.name ≡ Some x → bytes_eq t.name x.name ≡ false → left s o t.name key (f x) ≡ rows_of_table s.rows t.name key)
      → left s o t.name key (clash_unless (table_named s.catalog name) NoTable f) ≡ cond (bytes_eq t.name name) next (rows_of_table s.rows t.name key)
  by_table o name f next leaves away = go (bytes_eq t.name name) refl
    where
      go : (b : Bool) → bytes_eq t.name name ≡ b → left s o t.name key (clash_unless (table_named s.catalog name) NoTable f) ≡ cond b next (rows_of_table s.rows t.name key)
      go true e = ap (λ (x : Option Table). left s o t.name key (clash_unless x NoTable f)) (ap (table_named s.catalog) (sym (same_name t.name name e)) ∙ there) ∙ leaves
      go false e = in_another s o key f (λ x y. y) t.name name e away (table_named s.catalog name) refl

  op_leaves : (o : Op) → IsNoExec o → rows_of_table (after_done (done_judged s true o None) s).rows t.name key ≡ left_by t o key (rows_of_table s.rows t.name key)
  unfolding done_judged
  op_leaves (Insert name values) none =
      by_table (Insert name values) name (judged_insert s.rows values) (insert_left t values key (rows_of_table s.rows t.name key)) (insert_leaves s name values t there key)
      (λ x own other. insert_away s x own t.name key other name values)
  op_leaves (Remove name keys) none =
      by_table (Remove name keys) name (judged_remove s.rows keys) (remove_left t keys key (rows_of_table s.rows t.name key)) (remove_leaves s name keys t there (fit.each t.name t there) key)
      (λ x own other. remove_away s x own t.name key other name keys)
  op_leaves (Set name keys updates) none =
      by_table (Set name keys updates) name (judged_set s.catalog s.rows true keys updates) (set_left t keys updates key (rows_of_table s.rows t.name key))
      (set_leaves s name keys updates t there (fit.each t.name t there) key) (λ x own other. set_away s x own t.name key other name keys updates)
  op_leaves (Clear name) none =
      by_table (Clear name) name (judged_clear s.rows true) None (clear_leaves s name t there (fit.each t.name t there) key)
      (λ x own other. clear_away s x own t.name key other name)
  op_leaves (Exec text) none = absurd none

  no_statement : (o : Op) (d : Done) (statement : Option Stmt) → IsNoExec o → IsStatementOf statement o → d ≡ done_judged s true o statement → d ≡ done_judged s true o None
  no_statement (Insert name values) d statement none carried e = e ∙ ap (done_judged s true (Insert name values)) carried
  no_statement (Remove name keys) d statement none carried e = e ∙ ap (done_judged s true (Remove name keys)) carried
  no_statement (Set name keys updates) d statement none carried e = e ∙ ap (done_judged s true (Set name keys updates)) carried
  no_statement (Clear name) d statement none carried e = e ∙ ap (done_judged s true (Clear name)) carried
  no_statement (Exec text) d statement none carried e = absurd none

  done_leaves : (d : Done) → IsDoneJudged s true d → IsNoExec (op_of d) → rows_of_table (after_done d s).rows t.name key ≡ left_by t (op_of d) key (rows_of_table s.rows t.name key)
  done_leaves d j none =
      ap (λ (x : Done). rows_of_table (after_done x s).rows t.name key) (no_statement (op_of d) d j.statement none j.carried j.done_is) ∙ op_leaves (op_of d) none

-- what is no Exec leaves the catalog
same_catalog : (d : Done) (s : State) → IsNoExec (op_of d) → (after_done d s).catalog ≡ s.catalog
same_catalog (plain op changes) s none = refl
same_catalog (ran statement changes) s none = absurd none
same_catalog (conflict op inserts before after) s none = refl
same_catalog (clash op why) s none = refl

-- ---- the ops of a transaction

dones_leave : (t : Table) (key : List Cell) (s : State) (dones : List Done) → table_named s.catalog t.name ≡ Some t → RowsFit s.catalog s.rows → DonesFit s dones → AreJudged s true dones
    → AllByRecursion IsNoExec (map (λ (d : Done). (done_of d).0) dones)
    → rows_of_table (after_dones dones s).rows t.name key ≡ left_all t (map (λ (d : Done). (done_of d).0) dones) key (rows_of_table s.rows t.name key)
dones_leave t key s [] there fit f j none = refl
dones_leave t key s (d ∷ dones) there fit f j none =
    dones_leave t key (after_done d s) dones (ap (λ (c : Lists). table_named c t.name) (same_catalog d s none.0) ∙ there) (done_fits s d fit f.0) f.1 j.1 none.1
    ∙ ap (left_all t (map (λ (x : Done). (done_of x).0) dones) key) (done_leaves t key s there fit d j.0 none.0)

-- ---- entries

first_joined : {A : Type 0} (P : A → Type 0) (xs ys : List A) → AllByRecursion P (xs ++ ys) → AllByRecursion P xs
first_joined P [] ys all = tt
first_joined P (x ∷ xs) ys all = (all.0, first_joined P xs ys all.1)

rest_joined : {A : Type 0} (P : A → Type 0) (xs ys : List A) → AllByRecursion P (xs ++ ys) → AllByRecursion P ys
rest_joined P [] ys all = all
rest_joined P (x ∷ xs) ys all = rest_joined P xs ys all.1

pub ops_joined : (xs ys : List (ℕ × List Op)) → ops_of (xs ++ ys) ≡ ops_of xs ++ ops_of ys
ops_joined [] ys = refl
ops_joined (x ∷ xs) ys = ap (λ (ops : List Op). x.1 ++ ops) (ops_joined xs ys) ∙ sym (append_assoc x.1 (ops_of xs) (ops_of ys))

module _ (above : Name) (t : Table) (key : List Cell) where
  row_kept : (s : State) (r : Recorded) → KeepsBelow above t key s r → (IsTakenFrom above r → ⊥) → rows_of_table (next s r).rows t.name key ≡ rows_of_table s.rows t.name key
  row_kept s r keeps other = elim keeps.row as (λ _. rows_of_table (next s r).rows t.name key ≡ rows_of_table s.rows t.name key) [
    | inl is ↦ absurd (other is)
    | inr same ↦ same
  ]

  taken_leaves : (s : State) (place : ℕ) (r : Recorded) (rs : List Recorded) → Holds s → IsLawful s place r → is_above (state_from (next s r) rs) above ≡ true → KeepsBelow above t key s r
      → AllByRecursion IsNoExec (ops_of (takes above (sees r)))
      → rows_of_table (next s r).rows t.name key ≡ left_all t (ops_of (takes above (sees r))) key (rows_of_table s.rows t.name key)
  unfolding next FitsState
  taken_leaves s place (own changes) rs h l up keeps none = row_kept s (own changes) keeps (λ no. no)
  taken_leaves s place (taken from at dones) rs h l up keeps none = go (bytes_eq above from) refl none
    where
      go : (b : Bool) → bytes_eq above from ≡ b → AllByRecursion IsNoExec (ops_of (if b then (at.0, map (λ (d : Done). (done_of d).0) dones) ∷ [] else []))
          → rows_of_table (after_dones dones s).rows t.name key
          ≡ left_all t (ops_of (if b then (at.0, map (λ (d : Done). (done_of d).0) dones) ∷ [] else [])) key (rows_of_table s.rows t.name key)
      go false e clean = row_kept s (taken from at dones) keeps (λ is.
          let yes : bytes_eq above from ≡ true = ap (bytes_eq above) is ∙ bytes_itself above in
          absurd (cc))
      go true e clean =
          let same : above ≡ from = same_name above from e in
          let knows : Knows s above = subst (λ (n : Name). Knows s n) (sym same) l.stored.state.0 in
          let ops : List Op = map (λ (d : Done). (done_of d).0) dones in
          let flat : ops ++ [] ≡ ops = append-nil ops in
          let is_up : is_above s above ≡ true
          = sym (stays_above (next s (taken from at dones)) rs above (stays_known s (taken from at dones) above knows) ∙ entry_place s (taken from at dones) above knows) ∙ up in
          let judged : AreJudged s true dones = subst (λ (b : Bool). AreJudged s b dones) (ap (is_above s) (sym same) ∙ is_up) l.says_so in
          dones_leave t key s dones keeps.table.0 h.rows l.stored.state.1 judged (subst (λ (os : List Op). AllByRecursion IsNoExec os) flat clean)
          ∙ sym (ap (λ (os : List Op). left_all t os key (rows_of_table s.rows t.name key)) flat)
  taken_leaves s place (ddl statement) rs h l up keeps none = row_kept s (ddl statement) keeps (λ no. no)
  taken_leaves s place (sync to tables) rs h l up keeps none = row_kept s (sync to tables) keeps (λ no. no)
  taken_leaves s place (pass users only statement changes) rs h l up keeps none = row_kept s (pass users only statement changes) keeps (λ no. no)
  taken_leaves s place (note about what) rs h l up keeps none = row_kept s (note about what) keeps (λ no. no)

  pub below : (s : State) (place : ℕ) (rs : List Recorded) → Holds s → lawful_from machine IsLawful s place rs → is_above (state_from s rs) above ≡ true
      → EachFrom (KeepsBelow above t key) s rs → AllByRecursion IsNoExec (ops_of (taken_from sees above rs))
      → rows_of_table (state_from s rs).rows t.name key ≡ left_all t (ops_of (taken_from sees above rs)) key (rows_of_table s.rows t.name key)
  below s place [] h l up keeps none = refl
  below s place (r ∷ rs) h l up keeps none =
      let split : ops_of (taken_from sees above (r ∷ rs)) ≡ ops_of (takes above (sees r)) ++ ops_of (taken_from sees above rs)
      = ops_joined (takes above (sees r)) (taken_from sees above rs) in
      let clean : AllByRecursion IsNoExec (ops_of (takes above (sees r)) ++ ops_of (taken_from sees above rs)) = subst (λ (os : List Op). AllByRecursion IsNoExec os) split none in
      below (next s r) (place + (size r + 5)) rs (stays_held s place r h l.0.stored) l.1 up keeps.1 (rest_joined IsNoExec (ops_of (takes above (sees r))) (ops_of (taken_from sees above rs)) clean)
      ∙ ap (left_all t (ops_of (taken_from sees above rs)) key)
      (taken_leaves s place r rs h l.0 up keeps.0 (first_joined IsNoExec (ops_of (takes above (sees r))) (ops_of (taken_from sees above rs)) clean))
      ∙ sym (left_all-append t (ops_of (takes above (sees r))) (ops_of (taken_from sees above rs)) key (rows_of_table s.rows t.name key))
      ∙ sym (ap (λ (os : List Op). left_all t os key (rows_of_table s.rows t.name key)) split)
