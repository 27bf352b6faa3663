-- The keys of the sample are untouched.
use Rattle.std.proofs.Common.{◌≡◌, ◌<◌, ◌≤◌, inl, inr, ℕ, zero, suc, true, List, [], ◌∷◌, Some, None, take, drop, refl, sym, ap, subst, ◌∙◌, arith}
use Rattle.std.specs.FinMap as map_of
use Rattle.std.specs.FinMap.{get-empty, get-insert}
use Rattle.sr_base.specs.Values.{offset_from}
use Rattle.sr_ast.specs.declared.stmt.Stmt.TheVariants as stmt
use Rattle.sr_catalog_change.specs.Changes.{next as catalog_after}
use Rattle.sr_catalog_ddl.specs.Publications.{publication_of}
use Rattle.sr_catalog_ddl.specs.Tables.{table_of}
use Rattle.sr_catalog_ddl.specs.Users.{user_of}
use Rattle.sr_exec_dml.specs.Statements.{table_named}
use Rattle.sr_database_history.specs.Folds.{with_statement, next, state_of, end_of}
use Rattle.sr_database_history.specs.Recorded.{plain, Recorded, ddl}
use Rattle.sr_database_history.specs.Inner.Sample.{cons, r1, table_t, inserted}
use Rattle.sr_logform.specs.declared.op.Op.TheVariants.{Clear}
use Rattle.sr_world_model.specs.Worlds.{World, WorldStep, history, happens}
use Rattle.sr_publish.specs.SubscribedTables.{subscribed_table_of}
use Rattle.sr_publish.specs.Views.{shown_row}
use Rattle.sr_resolve.specs.Taking.{is_above}
use Rattle.sr_rows.specs.Marks.{place_cmp, rows_of_table}
use Rattle.sr_rows.specs.Inner.Marks.{place_cmp_total}
use Rattle.sr_scan.specs.Given.{view_in}
use Rattle.sr_world_untouched.specs.Agreeing.{HasColumns}
use Rattle.sr_world_untouched.specs.Inner.Sample.{first_key, when_synced, when_inserted, whole_table, slim_table, whole_subscribed_table, slim_subscribed_table}
use Rattle.sr_world_untouched.specs.Untouched.{IsUntouched}
use Rattle.sr_world.proofs.Above.{cons_ends}
use Rattle.sr_world.proofs.Keeping.{end_same}
use Rattle.sr_world.specs.Inner.Real.{AreSteps}
use Rattle.sr_world.specs.Inner.Sample.{r2, name_p, subscription, first_row, slim_row, insert, insert_slim}

-- the first of allowed steps are allowed
pub steps_prefix : (n : ℕ) (w : World Recorded) (acts : List (WorldStep Recorded)) → AreSteps w acts → AreSteps w (take n acts)
steps_prefix zero w acts are = tt
steps_prefix (suc n) w [] are = tt
steps_prefix (suc n) w (act ∷ acts) are = (are.0, steps_prefix n (happens w act) acts are.1)

-- ---- since the synchronization

abbrev synced_above : List Recorded
synced_above = history when_synced cons

abbrev synced_below : List Recorded
synced_below = history when_synced r2

synced_end : end_of (take 11 synced_above) ≡ 434
synced_end = sym (end_same (take 11 synced_above)) ∙ cons_ends 11

synced_subscribed_table : subscribed_table_of (state_of cons (take 10 synced_above)).catalog r2 table_t ≡ Some slim_subscribed_table
unfolding subscribed_table_of next with_statement catalog_after table_of publication_of user_of
synced_subscribed_table = refl

subscribed_table_behind : subscribed_table_of (state_of cons (take 11 synced_above)).catalog r2 table_t ≡ Some slim_subscribed_table
unfolding subscribed_table_of next with_statement catalog_after table_of publication_of user_of
subscribed_table_behind = refl

synced_table : table_named (state_of r2 (take 2 synced_below)).catalog table_t ≡ Some slim_table
unfolding next with_statement catalog_after table_of user_of
synced_table = refl

table_behind : table_named (state_of r2 synced_below).catalog table_t ≡ Some slim_table
unfolding next with_statement catalog_after table_of user_of
table_behind = refl

synced_up : is_above (state_of r2 synced_below) cons ≡ true
unfolding next with_statement catalog_after table_of user_of
synced_up = refl

slim_holds : HasColumns slim_subscribed_table.columns slim_table
slim_holds = record { has = (refl, tt); suits = ((refl, λ h. refl), tt) }

pub since_sync : IsUntouched when_synced r2 cons first_key slim_subscribed_table slim_table
unfolding next
since_sync = record {
  from_above = synced_up;
  before = take 10 synced_above;
  since = take 1 (drop 10 synced_above);
  later = drop 11 synced_above;
  parts = refl;
  ends = synced_end;
  old = take 2 synced_below;
  new = drop 2 synced_below;
  parts_below = refl;
  begins = inl (record {
    tables = (table_t, slim_row ∷ []) ∷ [];
    rest = [];
    is = refl;
    among = refl;
    takes = record {
      offset = offset_from 434;
      dones = plain (Clear table_t) [] ∷ plain insert_slim (inserted slim_row ∷ []) ∷ [];
      more = [];
      is = refl;
      at_is = sym synced_end;
    };
  });
  keeps_above = (record { passes_none = tt; takes_none = tt; subscribed_table_stays = (synced_subscribed_table, subscribed_table_behind) }, tt);
  keeps_below = (record { row = inl refl; table = (synced_table, table_behind) }, tt);
  name = refl;
  columns = slim_holds;
  key_columns = refl;
}

pub synced_row : rows_of_table (state_of r2 synced_below).rows table_t first_key ≡ Some slim_row
unfolding next with_statement catalog_after table_of user_of
synced_row = get-insert place_cmp_total map_of.empty (table_t, first_key) slim_row (table_t, first_key)

-- ---- since the START

abbrev inserted_above : List Recorded
inserted_above = history when_inserted cons

abbrev inserted_below : List Recorded
inserted_below = history when_inserted r1

started_end : end_of (take 8 inserted_above) ≡ 338
started_end = sym (end_same (take 8 inserted_above)) ∙ cons_ends 8

inserted_end : end_of (take 9 inserted_above) ≡ 366
inserted_end = sym (end_same (take 9 inserted_above)) ∙ cons_ends 9

started_subscribed_table : subscribed_table_of (state_of cons (take 8 inserted_above)).catalog r1 table_t ≡ Some whole_subscribed_table
unfolding subscribed_table_of next with_statement catalog_after table_of publication_of user_of
started_subscribed_table = refl

subscribed_table_later : subscribed_table_of (state_of cons (take 9 inserted_above)).catalog r1 table_t ≡ Some whole_subscribed_table
unfolding subscribed_table_of next with_statement catalog_after table_of publication_of user_of
subscribed_table_later = refl

started_table : table_named (state_of r1 (take 7 inserted_below)).catalog table_t ≡ Some whole_table
unfolding next with_statement catalog_after table_of publication_of user_of
started_table = refl

table_later : table_named (state_of r1 inserted_below).catalog table_t ≡ Some whole_table
unfolding next with_statement catalog_after table_of publication_of user_of
table_later = refl

inserted_up : is_above (state_of r1 inserted_below) cons ≡ true
unfolding next with_statement catalog_after table_of publication_of user_of
inserted_up = refl

whole_holds : HasColumns whole_subscribed_table.columns whole_table
whole_holds = record {
  has = (refl, (refl, tt));
  suits = ((refl, λ h. h), ((refl, λ h. h), tt));
}

-- no row was there, above or below
unseen : view_in (state_of cons (take 8 inserted_above)) r1 table_t first_key ≡ None
unfolding next with_statement catalog_after table_of publication_of user_of
unseen = ap (shown_row (subscribed_table_of (state_of cons (take 8 inserted_above)).catalog r1 table_t)) (get-empty place_cmp (table_t, first_key))

none_held : rows_of_table (state_of r1 (take 7 inserted_below)).rows table_t first_key ≡ None
unfolding next with_statement catalog_after table_of publication_of user_of
none_held = get-empty place_cmp (table_t, first_key)

pub since_start : IsUntouched when_inserted r1 cons first_key whole_subscribed_table whole_table
unfolding next
since_start = record {
  from_above = inserted_up;
  before = take 8 inserted_above;
  since = take 1 (drop 8 inserted_above);
  later = drop 9 inserted_above;
  parts = refl;
  ends = inserted_end;
  old = take 7 inserted_below;
  new = drop 7 inserted_below;
  parts_below = refl;
  begins = inr (record {
    earlier = take 7 inserted_above;
    start = ddl (stmt.StartSubscription (subscription name_p r1));
    is = refl;
    starts = refl;
    unseen = unseen;
    at = 366;
    past = subst (λ (n : ℕ). n < 366) (sym started_end) (omega arith);
    until = subst (λ (n : ℕ). 0 ≤ n) (sym started_end) (omega arith);
    takes = record { offset = offset_from 366; dones = plain insert (inserted (first_row 5) ∷ []) ∷ []; more = []; is = refl; at_is = refl };
    none = none_held;
  });
  keeps_above = (record { passes_none = tt; takes_none = tt; subscribed_table_stays = (started_subscribed_table, subscribed_table_later) }, tt);
  keeps_below = (record { row = inl refl; table = (started_table, table_later) }, tt);
  name = refl;
  columns = whole_holds;
  key_columns = refl;
}

pub inserted_row : rows_of_table (state_of r1 inserted_below).rows table_t first_key ≡ Some (first_row 5)
unfolding next with_statement catalog_after table_of publication_of user_of
inserted_row = get-insert place_cmp_total map_of.empty (table_t, first_key) (first_row 5) (table_t, first_key)
