-- Along the entries above what they give goes along with the view.
use Rattle.std.proofs.Common.{◌≡◌, ℕ, ◌+◌, Bool, true, false, cond, List, [], ◌∷◌, ◌++◌, bytes_eq, refl, ap, subst}
use Rattle.std.specs.Prelude.{flat_map}
use Rattle.std.specs.List.{AllByRecursion}
use Rattle.sr_ast.specs.declared.stmt.Stmt.{Stmt}
use Rattle.sr_ast.specs.Layout.{printed}
use Rattle.sr_base.specs.declared.value.Value.{Value as Cell}
use Rattle.sr_book.specs.Entries.{Name}
use Rattle.sr_exec_where.proofs.Fixed.{same_name}
use Rattle.sr_exec_dml.specs.FittingChanges.{ChangesFit}
use Rattle.sr_database_history.proofs.Kept.{stays_held}
use Rattle.sr_database_history.specs.Fitting.{FitsState, IsAcceptedPass}
use Rattle.sr_database_history.specs.Folds.{State, with_changes, after_dones, after_pass, next, size, state_from}
use Rattle.sr_database_history.specs.Inner.Laws.{Holds}
use Rattle.sr_database_history.specs.Recorded.{Recorded, own, taken, ddl, sync, pass, note}
use Rattle.sr_logform.specs.declared.change.Change.{Change}
use Rattle.sr_logform.specs.declared.op.Op.{Op}
use Rattle.sr_logform.specs.declared.op.Op.TheVariants.{Exec}
use Rattle.sr_world_model.specs.Machines.{lawful_from}
use Rattle.sr_publish.specs.SubscribedTables.{SubscribedTable}
use Rattle.sr_resolve.specs.Taking.{is_above}
use Rattle.sr_scan.specs.Given.{changes_given, dones_given, pass_given, table_synced, gives, with_transaction, given_from}
use Rattle.sr_catalog_schema.specs.Firsts.{has}
use Rattle.sr_catalog_schema.specs.declared.table.Table.{Table}
use Rattle.sr_world_untouched.specs.Untouched.{EachFrom, HasSubscribedTable, KeepsAbove}
use Rattle.sr_world_untouched.proofs.Above.{view, Goes, rests, ends, followed_by, by_ops, changes_go, view_kept, dones_go}
use Rattle.sr_world_untouched.proofs.Back.{all_back_go}
use Rattle.sr_world_untouched.proofs.Synced.{tables_go}
use Rattle.sr_world_untouched.proofs.Told.{Mirrors}
use Rattle.sr_world.specs.Lawful.{IsLawful, IsViewed}
use Rattle.sr_world.specs.Real.{machine}

-- the ops of transactions, one after the other
abbrev pub ops_of : List (ℕ × List Op) → List Op
ops_of txs = flat_map (λ (tx : ℕ × List Op). tx.1) txs

pub ops_with : (end : ℕ) (ops : List Op) (rest : List (ℕ × List Op)) → ops_of (with_transaction end ops rest) ≡ ops ++ ops_of rest
ops_with end [] rest = refl
ops_with end (op ∷ ops) rest = refl

module _ (user : Name) (sh : SubscribedTable) (t : Table) (key : List Cell) (m : Mirrors sh t) where
  passed_goes : (only : Bool) (s : State) (statement : Stmt) (changes : List Change) → Holds s → ChangesFit s.catalog s.rows changes → IsAcceptedPass s only statement → HasSubscribedTable user sh s
      → HasSubscribedTable user sh (after_pass only statement changes s)
      → Goes user sh t key m (pass_given only s user changes) (view user sh t key m s) (view user sh t key m (after_pass only statement changes s))
  passed_goes true s statement changes h fit accepted here behind = rests user sh t key m _ _ refl
  passed_goes false s statement changes h fit accepted here behind =
      ends user sh t key m (changes_given s user changes) _ _ _ (changes_go user sh t key m s changes here h.rows fit)
      (view_kept user sh t key m (with_changes changes s) statement here behind accepted.catalog)

  pub entry_goes : (s : State) (place : ℕ) (r : Recorded) → Holds s → IsLawful s place r → KeepsAbove user sh key s r
      → Goes user sh t key m (gives s r user) (view user sh t key m s) (view user sh t key m (next s r))
  unfolding gives next FitsState
  entry_goes s place (own changes) h l keeps = changes_go user sh t key m s changes keeps.subscribed_table_stays.0 h.rows l.stored.state
  entry_goes s place (taken from at dones) h l keeps = go (bytes_eq from user) refl
    where
      go : (b : Bool) → bytes_eq from user ≡ b → Goes user sh t key m (dones_given b s user dones) (view user sh t key m s) (view user sh t key m (after_dones dones s))
      go true e =
          all_back_go user sh t key m s (is_above s from) dones keeps.subscribed_table_stays h.rows l.stored.meant l.stored.state.1 (keeps.takes_none (same_name from user e)) l.says_so
      go false e = dones_go user sh t key m s dones keeps.subscribed_table_stays h.rows l.stored.state.1
  entry_goes s place (ddl statement) h l keeps =
      rests user sh t key m _ _ (view_kept user sh t key m s statement keeps.subscribed_table_stays.0 keeps.subscribed_table_stays.1 l.stored.state.catalog)
  entry_goes s place (sync to tables) h l keeps = go (bytes_eq to user) refl
    where
      go : (b : Bool) → bytes_eq to user ≡ b → Goes user sh t key m (cond b (flat_map (table_synced s.catalog user) tables) []) (view user sh t key m s) (view user sh t key m s)
      go true e = tables_go user sh t key m s keeps.subscribed_table_stays.0 h.rows tables (subst (λ (n : Name). AllByRecursion (IsViewed s n) tables) (same_name to user e) l.says_so)
      go false e = rests user sh t key m _ _ refl
  entry_goes s place (pass users only statement changes) h l keeps =
      by_ops user sh t key m (pass_given only s user changes) (cond (has users user) (Exec (printed statement) ∷ []) (pass_given only s user changes)) _ _
      (ap (λ (b : Bool). cond b (Exec (printed statement) ∷ []) (pass_given only s user changes)) keeps.passes_none)
      (passed_goes only s statement changes h l.stored.state.1 l.stored.state.2 keeps.subscribed_table_stays.0 keeps.subscribed_table_stays.1)
  entry_goes s place (note about what) h l keeps = rests user sh t key m _ _ refl

  pub since_goes : (s : State) (place : ℕ) (rs : List Recorded) → Holds s → lawful_from machine IsLawful s place rs → EachFrom (KeepsAbove user sh key) s rs
      → Goes user sh t key m (ops_of (given_from s place rs user)) (view user sh t key m s) (view user sh t key m (state_from s rs))
  since_goes s place [] h l keeps = rests user sh t key m _ _ refl
  since_goes s place (r ∷ rs) h l keeps =
      let end = place + (size r + 5) in
      by_ops user sh t key m (gives s r user ++ ops_of (given_from (next s r) end rs user)) (ops_of (given_from s place (r ∷ rs) user)) _ _
      (ops_with end (gives s r user) (given_from (next s r) end rs user))
      (followed_by user sh t key m (gives s r user) (ops_of (given_from (next s r) end rs user)) _ (view user sh t key m (next s r)) _
      (entry_goes s place r h l.0 keeps.0) (since_goes (next s r) end rs (stays_held s place r h l.0.stored) l.1 keeps.1))
