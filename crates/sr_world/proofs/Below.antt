-- The histories of r1 and r2, entry by entry.
use Rattle.std.proofs.Common.{◌≡◌, ℕ, true, false, List, [], ◌∷◌, Some, None, map}
use Rattle.std.proofs.Common.{take, refl, sym, ap, ◌∙◌, arith}
use Rattle.std.specs.Prelude.{pos}
use Rattle.std.specs.FinMap as map_of
use Rattle.std.specs.FinMap.{get, get-empty}
use Rattle.sr_ast.specs.Layout.{column_rule_pieces, create_table_pieces, stmt_pieces}
use Rattle.sr_ast.specs.declared.stmt.Stmt.TheVariants as stmt
use Rattle.sr_base.specs.Values.{value_spelling, offset_from}
use Rattle.sr_base.specs.declared.value.Value.TheVariants.{Int}
use Rattle.sr_book.specs.declared.note.Note.TheVariants.{Raised}
use Rattle.sr_catalog_change.specs.Changes.{refusal, next as catalog_after}
use Rattle.sr_catalog_ddl.specs.Publications.{absent_column, absent_in, is_bad_where, is_bad_article, key_outside, create_publication_causes, publication_of}
use Rattle.sr_catalog_ddl.specs.Subscriptions.{create_subscription_causes, twice_subscribed, start_causes}
use Rattle.sr_catalog_ddl.specs.Tables.{create_table_causes, table_of}
use Rattle.sr_catalog_ddl.specs.Users.{grant_causes, user_of}
use Rattle.sr_database_history.specs.Fitting.{FitsState}
use Rattle.sr_database_history.specs.Folds.{State, fresh, with_statement, next, size, state_of}
use Rattle.sr_database_history.specs.Recorded.{plain, ran}
use Rattle.sr_database_history.specs.Recorded.{own, taken, ddl, note}
use Rattle.sr_database_history.specs.Inner.Sample.{cons, r1, table_t, table_u, create_t, create_u, inserted, grant}
use Rattle.sr_database_history.proofs.Kept.{fresh_holds}
use Rattle.sr_logform.specs.Entries.{entry_spelling, IsEntry}
use Rattle.sr_logform.specs.Ops.{op_spelling}
use Rattle.sr_logform.specs.Outcomes.{outcome_spelling, note_spelling, IsNote}
use Rattle.sr_logform.specs.declared.op.Op.TheVariants.{Clear}
use Rattle.sr_world_model.specs.Layers.{end_of}
use Rattle.sr_publish.specs.SubscribedTables.{subscribed_table_of}
use Rattle.sr_resolve.specs.Judging.{judged_insert, judged_set, judged_update, judged_clear, judged_exec}
use Rattle.sr_resolve.specs.Named.{names_key}
use Rattle.sr_resolve.specs.Taking.{done_judged}
use Rattle.sr_rows.specs.Marks.{RowMap, place_cmp, rows_of_table}
use Rattle.sr_scan.specs.Inner.Images.{told}
use Rattle.sr_catalog_schema.specs.Causes.{first_fault}
use Rattle.sr_catalog_schema.specs.Members.{table_name}
use Rattle.sr_catalog_schema.specs.declared.subscription.Subscription.{Subscription}
use Rattle.sr_world.specs.Real.{layers, LawfulHistory}
use Rattle.sr_world.specs.Inner.Sample.{r2, name_p, create_slim, create_p, subscription}
use Rattle.sr_world.specs.Inner.Sample.{first_row, updated, insert, insert_slim, slim_row, run_u, set, sent_to}
use Rattle.sr_world.proofs.Lines.{Line, IsLine, AreLines, entries, lawful_prefix, end_told, end_prefix, state_end}
use Rattle.sr_world.proofs.Lines.{each_told, all_told, given_prefix, ddl_line, note_line}
use Rattle.sr_world.proofs.Named.{written_t, written_slim, written_p, written_above}
use Rattle.sr_world.proofs.Named.{written_for_cons, started_for_cons}
use Rattle.sr_world.proofs.Grounds.{set_ok, insert_ok, clear_ok, run_ok, slim_op_ok, new_outcome, no_outcome, slim_outcome, update_outcome}
use Rattle.sr_world.proofs.Grounds.{the_t, the_u, the_slim, the_p, user_at, to, state_at, here, new_row, next_row, held_next, held_new}
use Rattle.sr_world.proofs.Grounds.{entries_empty, new_fits, next_fits, where_cleared, where_new, where_set, still, own_line, taken_line}
use Rattle.sr_world.proofs.Grounds.{sent_line, sent_nothing, sent_up}
use Rattle.sr_world.proofs.Named.{update_ok}
use Rattle.sr_database_history.proofs.Sampled.{normal_u}

-- ---- r1

abbrev a0 : State
a0 = fresh r1

abbrev a1 : State
a1 = state_at r1 [] (the_t ∷ []) [] [] map_of.empty

abbrev a2 : State
a2 = state_at r1 (user_at true cons ∷ []) (the_t ∷ []) [] [] map_of.empty

abbrev a_with : List Subscription → RowMap → State
a_with subscriptions rows = state_at r1 (user_at true cons ∷ []) (the_t ∷ []) (the_p ∷ []) subscriptions rows

abbrev a3 : State
a3 = a_with [] map_of.empty

abbrev a4 : State
a4 = a_with (to name_p cons false ∷ []) map_of.empty

abbrev a_at : RowMap → State
a_at rows = a_with (to name_p cons true ∷ []) rows

abbrev a_rows5 : RowMap
a_rows5 = new_row (first_row 5)

abbrev a_rows6 : RowMap
a_rows6 = next_row a_rows5 6

abbrev a_rows7 : RowMap
a_rows7 = next_row a_rows6 7

abbrev a_last : RowMap
a_last = next_row a_rows7 6

abbrev up1 : Line
up1 = still (ddl (stmt.CreateTable create_t)) 70 a1

is_up1 : IsLine a0 up1
unfolding next with_statement catalog_after table_of refusal first_fault create_table_causes
is_up1 = ddl_line a0 a1 (stmt.CreateTable create_t) 70 written_t refl refl tt

abbrev up2 : Line
up2 = still (ddl (stmt.GrantConsolidate (grant cons))) 30 a2

is_up2 : IsLine a1 up2
unfolding next with_statement catalog_after user_of refusal first_fault grant_causes
is_up2 = ddl_line a1 a2 (stmt.GrantConsolidate (grant cons)) 30 written_above refl refl tt

abbrev up3 : Line
up3 = still (ddl (stmt.CreatePublication create_p)) 35 a3

is_up3 : IsLine a2 up3
unfolding next with_statement catalog_after publication_of refusal first_fault create_publication_causes
    absent_column absent_in is_bad_where is_bad_article key_outside
is_up3 = ddl_line a2 a3 (stmt.CreatePublication create_p) 35 written_p refl refl tt

abbrev up4 : Line
up4 = still (ddl (stmt.CreateSubscription (subscription name_p cons))) 38 a4

is_up4 : IsLine a3 up4
unfolding next with_statement catalog_after refusal first_fault create_subscription_causes
is_up4 = ddl_line a3 a4 (stmt.CreateSubscription (subscription name_p cons)) 38 written_for_cons refl refl tt

abbrev up5 : Line
up5 = still (ddl (stmt.StartSubscription (subscription name_p cons))) 37 (a_at map_of.empty)

is_up5 : IsLine a4 up5
unfolding next with_statement catalog_after refusal first_fault start_causes twice_subscribed
is_up5 = ddl_line a4 (a_at map_of.empty) (stmt.StartSubscription (subscription name_p cons)) 37 started_for_cons refl refl tt

abbrev up6 : Line
up6 = still (note cons Raised) 7 (a_at map_of.empty)

is_up6 : IsLine (a_at map_of.empty) up6
unfolding size entry_spelling note_spelling IsNote
is_up6 = note_line (a_at map_of.empty) cons Raised 7 refl (omega arith) refl tt refl

abbrev up7 : Line
up7 = still (sent_to cons 0 0) 27 (a_at map_of.empty)

is_up7 : IsLine (a_at map_of.empty) up7
is_up7 = sent_line (a_at map_of.empty) cons 0 0 27 sent_nothing (omega arith) (omega arith) (omega arith) refl refl

-- the row comes
came : done_judged (a_at map_of.empty) true insert None ≡ plain insert (inserted (first_row 5) ∷ [])
unfolding done_judged judged_insert
came = ap (where_new insert the_t (first_row 5)) (get-empty place_cmp here)

abbrev up8 : Line
up8 = still (taken cons (offset_from 366) (plain insert (inserted (first_row 5) ∷ []) ∷ [])) 63 (a_at a_rows5)

is_up8 : IsLine (a_at map_of.empty) up8
unfolding size entry_spelling op_spelling outcome_spelling value_spelling next
is_up8 = taken_line (a_at map_of.empty) (a_at a_rows5) 366 insert (inserted (first_row 5)) 63 refl refl (omega arith) tt (omega arith) insert_ok new_outcome
    refl (new_fits (a_at map_of.empty).catalog map_of.empty refl (get-empty place_cmp here)) refl came

abbrev up9 : Line
up9 = record { entry = own (updated 5 6 ∷ []); long = 37; after = a_at a_rows6; to_one = set 5 6 ∷ []; to_other = [] }

is_up9 : IsLine (a_at a_rows5) up9
unfolding size entry_spelling value_spelling next
is_up9 = own_line (a_at a_rows5) (a_at a_rows6) (updated 5 6) 37 (set 5 6 ∷ []) refl refl (omega arith)
    (update_ok 5 6 (omega arith) (omega arith) (λ h. omega (arith, h)))
    (next_fits (a_at a_rows5).catalog a_rows5 5 6 refl held_new (refl, refl))

-- an update from above is made, whatever value it meets
made : done_judged (a_at a_rows6) true (set 5 7) None ≡ plain (set 5 7) (updated 6 7 ∷ [])
unfolding done_judged judged_set names_key judged_update
made = ap (where_set (a_at a_rows6) true 5 7) (held_next a_rows5 6)

abbrev up10 : Line
up10 = still (taken cons (offset_from 612) (plain (set 5 7) (updated 6 7 ∷ []) ∷ [])) 86 (a_at a_rows7)

is_up10 : IsLine (a_at a_rows6) up10
unfolding size entry_spelling op_spelling outcome_spelling value_spelling next
is_up10 = taken_line (a_at a_rows6) (a_at a_rows7) 612 (set 5 7) (updated 6 7) 86 refl refl (omega arith) tt (omega arith)
    (set_ok 5 7 (omega arith) (omega arith)) (update_outcome 6 7 (omega arith) (omega arith) (λ h. omega (arith, h))) refl
    (next_fits (a_at a_rows6).catalog a_rows6 6 7 refl (held_next a_rows5 6) (refl, refl)) refl made

abbrev up11 : Line
up11 = still (sent_to cons 389 612) 27 (a_at a_rows7)

is_up11 : IsLine (a_at a_rows7) up11
is_up11 = sent_line (a_at a_rows7) cons 389 612 27 sent_up (omega arith) (omega arith) (omega arith) refl refl

made_again : done_judged (a_at a_rows7) true (set 7 6) None ≡ plain (set 7 6) (updated 7 6 ∷ [])
unfolding done_judged judged_set names_key judged_update
made_again = ap (where_set (a_at a_rows7) true 7 6) (held_next a_rows6 7)

abbrev up12 : Line
up12 = still (taken cons (offset_from 801) (plain (set 7 6) (updated 7 6 ∷ []) ∷ [])) 86 (a_at a_last)

is_up12 : IsLine (a_at a_rows7) up12
unfolding size entry_spelling op_spelling outcome_spelling value_spelling next
is_up12 = taken_line (a_at a_rows7) (a_at a_last) 801 (set 7 6) (updated 7 6) 86 refl refl (omega arith) tt (omega arith)
    (set_ok 7 6 (omega arith) (omega arith)) (update_outcome 7 6 (omega arith) (omega arith) (λ h. omega (arith, h))) refl
    (next_fits (a_at a_rows7).catalog a_rows7 7 6 refl (held_next a_rows6 7) (refl, refl)) refl made_again

abbrev pub r1_lines : List Line
r1_lines = up1 ∷ up2 ∷ up3 ∷ up4 ∷ up5 ∷ up6 ∷ up7 ∷ up8 ∷ up9 ∷ up10 ∷ up11 ∷ up12 ∷ []

r1_are : AreLines a0 r1_lines
r1_are = (is_up1, (is_up2, (is_up3, (is_up4, (is_up5, (is_up6, (is_up7, (is_up8, (is_up9, (is_up10, (is_up11, (is_up12, tt))))))))))))

r1_tell : each_told a0 cons r1_lines ≡ map (λ (l : Line). l.to_one) r1_lines
unfolding told subscribed_table_of
r1_tell = refl

pub r1_lawful : (n : ℕ) → LawfulHistory r1 (entries (take n r1_lines))
r1_lawful n = lawful_prefix a0 0 n r1_lines r1_are (omega arith)

pub r1_ends : (n : ℕ) → end_of layers (entries (take n r1_lines)) ≡ end_told 0 (take n r1_lines)
r1_ends n = end_prefix a0 0 n r1_lines r1_are

pub r1_gives : (n : ℕ) → layers.given r1 cons (entries (take n r1_lines)) ≡ all_told (λ l. l.to_one) 0 (take n r1_lines)
r1_gives n = given_prefix a0 0 cons (λ l. l.to_one) n r1_lines (fresh_holds r1) r1_are (omega arith) r1_tell

pub r1_row : rows_of_table (state_of r1 (entries r1_lines)).rows table_t (Int (pos 1) ∷ []) ≡ Some (first_row 6)
r1_row = ap (λ (s : State). get s.rows here) (state_end a0 r1_lines r1_are) ∙ held_next a_rows7 6

-- ---- r2

abbrev b0 : State
b0 = fresh r2

abbrev b1 : State
b1 = state_at r2 [] (the_slim ∷ []) [] [] map_of.empty

abbrev b_at : RowMap → State
b_at rows = state_at r2 (user_at true cons ∷ []) (the_slim ∷ []) [] [] rows

abbrev far1 : Line
far1 = still (ddl (stmt.CreateTable create_slim)) 59 b1

is_far1 : IsLine b0 far1
unfolding next with_statement catalog_after table_of refusal first_fault create_table_causes
is_far1 = ddl_line b0 b1 (stmt.CreateTable create_slim) 59 written_slim refl refl tt

abbrev far2 : Line
far2 = still (ddl (stmt.GrantConsolidate (grant cons))) 30 (b_at map_of.empty)

is_far2 : IsLine b1 far2
unfolding next with_statement catalog_after user_of refusal first_fault grant_causes
is_far2 = ddl_line b1 (b_at map_of.empty) (stmt.GrantConsolidate (grant cons)) 30 written_above refl refl tt

cleared : done_judged (b_at map_of.empty) true (Clear table_t) None ≡ plain (Clear table_t) []
unfolding done_judged judged_clear
cleared = ap (where_cleared the_slim) entries_empty

came_slim : done_judged (b_at map_of.empty) true insert_slim None ≡ plain insert_slim (inserted slim_row ∷ [])
unfolding done_judged judged_insert
came_slim = ap (where_new insert_slim the_slim slim_row) (get-empty place_cmp here)

abbrev far3 : Line
far3 = still (taken cons (offset_from 434) (plain (Clear table_t) [] ∷ plain insert_slim (inserted slim_row ∷ []) ∷ [])) 59 (b_at (new_row slim_row))

is_far3 : IsLine (b_at map_of.empty) far3
unfolding size entry_spelling op_spelling outcome_spelling value_spelling next IsEntry FitsState
is_far3 = record {
  size_is = refl;
  leaves = refl;
  short = omega arith;
  meant = (tt, (tt, tt));
  spelled = (refl, omega arith, record { items = (omega arith, ((clear_ok, no_outcome), ((slim_op_ok, slim_outcome), tt))); filled = λ h. cc });
  fits = (
    refl,
    (
      record { changes = tt; outcome = tt },
      (
        record {
          changes = (
            record {
              table = the_slim;
              named = refl;
              key = Int (pos 1) ∷ [];
              held = get-empty place_cmp here;
              fits = (refl, refl);
            },
            tt,
          );
          outcome = tt;
        },
        tt,
      ),
    ),
  );
  says_so = (
    record { statement = None; carried = refl; done_is = sym cleared },
    (record { statement = None; carried = refl; done_is = sym came_slim }, tt),
  );
}

-- the statement that was passed on runs
ran_u : done_judged (b_at (new_row slim_row)) true run_u (Some (stmt.CreateTable create_u)) ≡ ran (stmt.CreateTable create_u) []
unfolding done_judged judged_exec refusal first_fault create_table_causes
ran_u = refl

abbrev b_last : State
b_last = state_at r2 (user_at true cons ∷ []) (the_slim ∷ the_u ∷ []) [] [] (new_row slim_row)

abbrev far4 : Line
far4 = still (taken cons (offset_from 510) (ran (stmt.CreateTable create_u) [] ∷ [])) 82 b_last

is_far4 : IsLine (b_at (new_row slim_row)) far4
unfolding size entry_spelling op_spelling outcome_spelling column_rule_pieces create_table_pieces stmt_pieces next with_statement catalog_after table_of
    IsEntry FitsState refusal first_fault create_table_causes
is_far4 = record {
  size_is = refl;
  leaves = refl;
  short = omega arith;
  meant = ((normal_u, refl), tt);
  spelled = (refl, omega arith, record { items = (omega arith, ((run_ok, no_outcome), tt)); filled = λ h. cc });
  fits = (refl, (record { changes = tt; outcome = record { catalog = refl; rows = tt } }, tt));
  says_so = (
    record { statement = Some (stmt.CreateTable create_u); carried = record { normal = normal_u; prints = refl }; done_is = sym ran_u },
    tt,
  );
}

abbrev pub r2_lines : List Line
r2_lines = far1 ∷ far2 ∷ far3 ∷ far4 ∷ []

r2_are : AreLines b0 r2_lines
r2_are = (is_far1, (is_far2, (is_far3, (is_far4, tt))))

pub r2_tables : map table_name (state_of r2 (entries r2_lines)).catalog.tables ≡ table_t ∷ table_u ∷ []
r2_tables = ap (λ (s : State). map table_name s.catalog.tables) (state_end b0 r2_lines r2_are)

pub r2_lawful : (n : ℕ) → LawfulHistory r2 (entries (take n r2_lines))
r2_lawful n = lawful_prefix b0 0 n r2_lines r2_are (omega arith)

pub r2_ends : (n : ℕ) → end_of layers (entries (take n r2_lines)) ≡ end_told 0 (take n r2_lines)
r2_ends n = end_prefix b0 0 n r2_lines r2_are
